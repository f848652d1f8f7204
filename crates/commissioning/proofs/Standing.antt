-- A plan stands after every line of a script.
use Rattle.std.proofs.Common.{Bool, true, false, Result, sym, subst}
use Rattle.fairness.specs.Laws.{Comparison}
use Rattle.board.specs.Boards.{Build}
use Rattle.calls.specs.declared.Call.{Call}
use Rattle.calls.specs.Turns.{in_turn}
use Rattle.changes.specs.Standing.{Standing}
use Rattle.calls.specs.declared.Phase.{Phase}
use Rattle.plan.specs.declared.runs.NotTaken.{NotTaken}
use Rattle.plan.specs.Attempts.{AttemptedWhere, Attempted}

module _ {S : Type 0} (build : Build S) (compare : Comparison) (a b : S) (phase after : Phase) (call : Call) (told : Result (Unit {0}) NotTaken) where
  stands-where : (turn : Bool) → AttemptedWhere turn build compare a b phase after call told → Standing build compare a → Standing build compare b
  stands-where true made standing = made.replanned.standing
  stands-where false over standing = subst (Standing build compare) (sym over.board) standing

  -- a call that was attempted leaves a plan that stands
  pub attempt-stands : Attempted build compare a b phase after call told → Standing build compare a → Standing build compare b
  attempt-stands attempted standing = stands-where (in_turn phase call) attempted standing
