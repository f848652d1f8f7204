-- Levels, and when one plan is fairer than another. A level is what a rule sees of a task of the board at some total.
use Rattle.std.specs.Prelude.{◌≡◌, ℕ, ◌<◌, ◌≤◌, cond, ◌⊎◌}
use Rattle.std.specs.declared.cmp.Ordering.TheVariants.{Less}
use Rattle.std.specs.Ordering.{is_le}
use Rattle.fairness.specs.declared.Share.{Share}
use Rattle.fairness.specs.Sums.{sum_to}
use Rattle.fairness.specs.Plans.{Plan, total, Feasible}
use Rattle.fairness.specs.Laws.{Comparison, most_counted}

-- the share of a task that has so many slots, where `whole` gives each task's whole need
abbrev pub share_with : (ℕ → ℕ) → ℕ → ℕ → Share
share_with whole task slots = record { task = task; whole_need = whole task; total = slots }

-- the level of a task with so many slots
abbrev pub level_at : ℕ → Plan → ℕ → ℕ → Share
level_at m need task slots = share_with (total m need) task slots

-- the level that a task has on a plan
abbrev pub share_of : ℕ → Plan → Plan → ℕ → Share
share_of m need held task = level_at m need task (total m held task)

-- how many of the n tasks stand at or below a level
abbrev pub at_or_below : Comparison → ℕ → ℕ → Plan → Plan → Share → ℕ
at_or_below compare n m need held level = sum_to n (λ task. cond (is_le (compare (share_of m need held task) level)) 1 0)

-- the first plan is fairer than the second: at some level that a task has in either it has fewer tasks at or below,
-- and at every lower level both have equally many
pub record Fairer (compare : Comparison) (n m : ℕ) (need first second : Plan) : Type 0 where
  pub task : ℕ
  pub slots : ℕ
  pub known : task < n
  pub had : (total m first task ≡ slots) ⊎ (total m second task ≡ slots)
  pub fewer : at_or_below compare n m need first (level_at m need task slots) < at_or_below compare n m need second (level_at m need task slots)
  pub lower : (other amount : ℕ) → other < n → compare (level_at m need other amount) (level_at m need task slots) ≡ Less
      → at_or_below compare n m need first (level_at m need other amount) ≡ at_or_below compare n m need second (level_at m need other amount)

-- feasible, and no feasible plan for the same needs and capacities is fairer
pub record Fairest (compare : Comparison) (n m : ℕ) (need : Plan) (capacity : ℕ → ℕ) (held : Plan) : Type 0 where
  pub feasible : Feasible n m need capacity held
  pub none_fairer : (other : Plan) → Feasible n m need capacity other → Fairer compare n m need other held → ⊥

-- the same list of levels: at every level both plans have equally many tasks at or below
abbrev pub SameLevels : Comparison → ℕ → ℕ → Plan → Plan → Plan → Type 0
SameLevels compare n m need first second =
    (task slots : ℕ) → at_or_below compare n m need first (level_at m need task slots) ≡ at_or_below compare n m need second (level_at m need task slots)

-- no task needs more slots in all than the rules tell apart
abbrev pub Countable : ℕ → ℕ → Plan → Type 0
Countable n m need = (task : ℕ) → task < n → total m need task ≤ most_counted
