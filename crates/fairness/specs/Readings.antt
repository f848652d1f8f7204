-- "At every lower level" may be read as all levels that a task of the board could have, as `Fairer` does, or as those that a task has in either plan.
use Rattle.std.specs.Prelude.{◌≡◌, ℕ, ◌<◌, ◌⊎◌}
use Rattle.std.specs.declared.cmp.Ordering.TheVariants.{Less}
use Rattle.fairness.specs.Plans.{Plan, total}
use Rattle.fairness.specs.Laws.{Comparison, Lawful}
use Rattle.fairness.specs.Levels.{level_at, at_or_below, Fairer}

-- `Fairer`, but that only those lower levels count that a task has in either plan
pub record FairerAmongHad (compare : Comparison) (n m : ℕ) (need first second : Plan) : Type 0 where
  pub task : ℕ
  pub slots : ℕ
  pub known : task < n
  pub had : (total m first task ≡ slots) ⊎ (total m second task ≡ slots)
  pub fewer : at_or_below compare n m need first (level_at m need task slots) < at_or_below compare n m need second (level_at m need task slots)
  pub lower : (other amount : ℕ) → other < n → (total m first other ≡ amount) ⊎ (total m second other ≡ amount)
      → compare (level_at m need other amount) (level_at m need task slots) ≡ Less
      → at_or_below compare n m need first (level_at m need other amount) ≡ at_or_below compare n m need second (level_at m need other amount)

-- both come to the same
abbrev pub ReadingsAgree : Type 0
ReadingsAgree =
    (compare : Comparison) → Lawful compare → (n m : ℕ) (need first second : Plan)
    → (FairerAmongHad compare n m need first second → Fairer compare n m need first second)
    × (Fairer compare n m need first second → FairerAmongHad compare n m need first second)
