-- What a run under the even rule comes to.
use Rattle.std.specs.Prelude.{ℕ, ◌≤◌, List, length}
use Rattle.fairness.specs.Even.{even}
use Rattle.fairness.specs.Lexicographic.{LexicographicallyFair}
use Rattle.board.specs.Meaning.{Meaning}
use Rattle.calls.specs.declared.Call.{Call}
use Rattle.plan.specs.declared.runs.Note.{Note}
use Rattle.plan.specs.Runs.{Ran, board_at}

-- the board's plan is distributed lexicographically fair
abbrev pub LexicographicallyFairOn : Meaning → Type 0
LexicographicallyFairOn m = LexicographicallyFair m.tasks m.cores m.need m.capacity m.held

-- the new plan, and the plan after each call, is so for the needs and capacities of its point
pub record RanEvenly (m : Meaning) (calls : List Call) (notes : List Note) (end : Meaning) : Type 0 where
  pub ran : Ran even m calls notes end
  pub fair : (k : ℕ) → k ≤ length calls → LexicographicallyFairOn (board_at m calls ran.plans k)
  pub fair_end : LexicographicallyFairOn end
