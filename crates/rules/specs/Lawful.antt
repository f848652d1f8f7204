-- The weighted rule and the rule by need keep the laws.
use Rattle.std.specs.Prelude.{ℕ, List, refl}
use Rattle.std.proofs.Common.{arith}
use Rattle.fairness.specs.Laws.{Lawful}
use Rattle.fairness.proofs.Standings.{fractions-lawful}
use Rattle.rules.specs.Comparisons.{weighted, by_need, weight, divisor}

pub weighted-lawful : (weights : List ℕ) → Lawful (weighted weights)
weighted-lawful weights = fractions-lawful (λ a. weight weights a.task) (λ a. omega arith) (λ a b same whole. rw same refl)

pub by-need-lawful : Lawful by_need
by-need-lawful = fractions-lawful (λ a. divisor a.whole_need) (λ a. omega arith) (λ a b same whole. rw whole refl)
