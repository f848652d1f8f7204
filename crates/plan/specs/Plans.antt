-- What a new plan is, and the list of its totals.
use Rattle.std.specs.Prelude.{◌≡◌, ℕ, ◌<◌, List, length, slice_index}
use Rattle.fairness.specs.Laws.{Comparison}
use Rattle.board.specs.Meaning.{Meaning, SameOrder, most_tasks, total_of}
use Rattle.board.specs.Boards.{Build}
use Rattle.changes.specs.Standing.{Standing}

-- a new plan on b: the needs and capacities are those of a
pub record Planned {S : Type 0} (build : Build S) (compare : Comparison) (a b : S) : Type 0 where
  pub standing : Standing build compare b
  pub order : SameOrder (build.meaning a) (build.meaning b)
  pub keeps : build.kept a b

-- a list of all totals, by the tasks' numbers
pub record Totals (m : Meaning) (totals : List ℕ) : Type 0 where
  pub long : length totals ≡ most_tasks
  pub each : (task : ℕ) → task < most_tasks → slice_index totals task ≡ total_of m task
