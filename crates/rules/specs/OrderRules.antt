-- The comparison of an order's rule, whichever of the three it is.
use Rattle.fairness.specs.Laws.{Comparison, Lawful}
use Rattle.fairness.specs.Even.{even}
use Rattle.fairness.proofs.Standings.{even-lawful}
use Rattle.rules.specs.declared.OrderRule.{OrderRule}
use Rattle.rules.specs.declared.OrderRule.TheVariants.{Even, Weighted, ByNeed}
use Rattle.rules.specs.Comparisons.{weighted, by_need}
use Rattle.rules.specs.Lawful.{weighted-lawful, by-need-lawful}

abbrev pub order_of : OrderRule → Comparison
order_of (Even rule) = even
order_of (Weighted rule) = weighted rule.weights
order_of (ByNeed rule) = by_need

pub order-lawful : (rule : OrderRule) → Lawful (order_of rule)
order-lawful (Even rule) = even-lawful
order-lawful (Weighted rule) = weighted-lawful rule.weights
order-lawful (ByNeed rule) = by-need-lawful
