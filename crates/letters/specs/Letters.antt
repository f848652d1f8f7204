-- The rule that an order's letter names.
use Rattle.std.specs.Prelude.{◌≡◌, ℕ, cond, List, ◌==◌, slice_index_or}
use Rattle.fairness.specs.Laws.{Comparison}
use Rattle.fairness.specs.Even.{even}
use Rattle.rules.specs.Comparisons.{weighted, by_need}
use Rattle.tasks.specs.Rows.{Row}
use Rattle.tasks.specs.Table.{weight_in}

-- e even, w weighted, else by need
abbrev pub rule_of : ℕ → List ℕ → Comparison
rule_of letter weights = cond (letter == 101) even (cond (letter == 119) (weighted weights) by_need)

-- a claim holds of the rule of the letter, with the weights of the task table
pub record ByLetter (letter : ℕ) (rows : List Row) (Claim : Comparison → Type 0) : Type 0 where
  pub weights : List ℕ
  pub weighed : (task : ℕ) → slice_index_or weights task 1 ≡ weight_in rows task
  pub holds : Claim (rule_of letter weights)
