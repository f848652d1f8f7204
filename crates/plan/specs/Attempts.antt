-- What a call comes to on a plan of which it is not known whether it is working or released.
use Rattle.std.specs.Prelude.{◌≡◌, Bool, true, false, Ok, Err, Result}
use Rattle.fairness.specs.Laws.{Comparison}
use Rattle.board.specs.declared.fault.Fault.{Fault}
use Rattle.board.specs.Outcomes.{answered}
use Rattle.board.specs.Boards.{Build}
use Rattle.calls.specs.declared.Call.{Call}
use Rattle.calls.specs.declared.Phase.{Phase}
use Rattle.calls.specs.Turns.{in_turn, phase_after}
use Rattle.changes.specs.Standing.{Replanned}
use Rattle.plan.specs.declared.runs.NotTaken.{NotTaken}
use Rattle.plan.specs.declared.runs.NotTaken.TheVariants.{Refused, OutOfTurn}
use Rattle.plan.specs.Runs.{outcome_of}

-- what a call on a plan is told where the plan's phase takes the call
abbrev pub told_of : Result (Unit {0}) Fault → Result (Unit {0}) NotTaken
told_of (Ok u) = Ok tt
told_of (Err fault) = Err (Refused fault)

-- the call was made on a: the plan stands on b for the numbers that the call comes to
pub record Made {S : Type 0} (build : Build S) (compare : Comparison) (a b : S) (phase after : Phase) (call : Call) (told : Result (Unit {0}) NotTaken) : Type 0 where
  pub replanned : Replanned build compare a b (outcome_of (build.meaning a) call) (answered (outcome_of (build.meaning a) call))
  pub answer : told ≡ told_of (answered (outcome_of (build.meaning a) call))
  pub state : after ≡ phase_after phase call

-- the call was out of turn: board and phase are what they were
pub record PassedOver {S : Type 0} (a b : S) (phase after : Phase) (told : Result (Unit {0}) NotTaken) : Type 0 where
  pub board : b ≡ a
  pub answer : told ≡ Err OutOfTurn
  pub state : after ≡ phase

abbrev pub AttemptedWhere : Bool → {S : Type 0} → Build S → Comparison → S → S → Phase → Phase → Call → Result (Unit {0}) NotTaken → Type 0
AttemptedWhere true build compare a b phase after call told = Made build compare a b phase after call told
AttemptedWhere false build compare a b phase after call told = PassedOver a b phase after told

-- a call is made just where the plan's phase takes it
abbrev pub Attempted : {S : Type 0} → Build S → Comparison → S → S → Phase → Phase → Call → Result (Unit {0}) NotTaken → Type 0
Attempted build compare a b phase after call told = AttemptedWhere (in_turn phase call) build compare a b phase after call told
