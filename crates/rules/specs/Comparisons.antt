-- The comparisons of the weighted rule and of the rule by need: levels are fractions, compared by cross products.
use Rattle.std.specs.Prelude.{ℕ, ◌*◌, min, max, List, slice_index}
use Rattle.std.specs.Ordering.{nat_cmp}
use Rattle.fairness.specs.Laws.{Comparison}
use Rattle.fairness.specs.Even.{counted}

-- a task's weight, from 1 to 100; a task beyond 63 counts as 63
abbrev pub weight : List ℕ → ℕ → ℕ
weight weights task = max 1 (min 100 (slice_index weights (min task 63)))

-- what a total is divided by: the whole need, where 0 counts as 1
abbrev pub divisor : ℕ → ℕ
divisor need = max 1 (counted need)

-- a task's level is its total over its weight
abbrev pub weighted : List ℕ → Comparison
weighted weights a b = nat_cmp (counted a.total * weight weights b.task) (counted b.total * weight weights a.task)

-- a task's level is its total over its whole need
abbrev pub by_need : Comparison
by_need a b = nat_cmp (counted a.total * divisor b.whole_need) (counted b.total * divisor a.whole_need)
