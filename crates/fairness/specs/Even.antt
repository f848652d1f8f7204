-- The even rule's comparison: a task's level is its total.
use Rattle.std.specs.Prelude.{ℕ, min, cond, ◌==◌, nat_lt}
use Rattle.std.specs.Ordering.{nat_cmp}
use Rattle.fairness.specs.Laws.{Comparison, most_counted}

-- the slots that a rule counts: an amount beyond the greatest counts as the greatest
abbrev pub counted : ℕ → ℕ
counted slots = min slots most_counted

abbrev pub even : Comparison
even a b = nat_cmp (counted a.total) (counted b.total)
