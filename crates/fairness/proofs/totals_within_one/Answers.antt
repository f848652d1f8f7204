use Rattle.fairness.proofs.Theorems.{totals-within-one}
use Rattle.fairness.proofs.totals_within_one.Goals as goal

pub returns : goal.returns
returns c = totals-within-one
