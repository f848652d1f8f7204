-- What a line of a script makes of a plan, and what a planner sees of the plan then.
use Rattle.std.specs.Prelude.{◌≡◌, ℕ, ◌+◌, ◌-◌, ◌^◌, min, List, Some, None, Ok, Err, Option, Result}
use Rattle.fairness.specs.Laws.{Comparison}
use Rattle.board.specs.Meaning.{Meaning, free_slots}
use Rattle.board.specs.Boards.{Build}
use Rattle.routes.specs.declared.Step.{Step}
use Rattle.judge.specs.Verdicts.{Judged}
use Rattle.calls.specs.declared.Phase.{Phase}
use Rattle.plan.specs.declared.runs.NotTaken.{NotTaken}
use Rattle.plan.specs.declared.runs.NotTaken.TheVariants.{Refused, OutOfTurn}
use Rattle.plan.specs.Plans.{Totals}
use Rattle.plan.specs.Attempts.{Attempted}
use Rattle.calls.specs.declared.Call.{Call}
use Rattle.script.specs.declared.Request.{Request}
use Rattle.script.specs.declared.Request.TheVariants.{Play, Judge}
use Rattle.commissioning.specs.declared.Done.{Done}
use Rattle.commissioning.specs.declared.Done.TheVariants.{Taken, Judged as Asked}
use Rattle.commissioning.specs.declared.NotDone.{NotDone}
use Rattle.commissioning.specs.declared.NotDone.TheVariants.{NotTaken as Untaken, NotUnderstood}
use Rattle.commissioning.specs.declared.Stand.{Stand}
use Rattle.commissioning.specs.declared.Tally.{Tally}

-- nothing was done
pub record Still {S : Type 0} (a b : S) (phase after : Phase) : Type 0 where
  pub board : b ≡ a
  pub state : after ≡ phase

-- what a line that asks for a call is told, where the call is told so
abbrev pub done_of : Result (Unit {0}) NotTaken → Result Done NotDone
done_of (Ok u) = Ok Taken
done_of (Err why) = Err (Untaken why)

-- a call was attempted, and the line is told what the call is told
pub record Made {S : Type 0} (build : Build S) (compare : Comparison) (a b : S) (phase after : Phase) (call : Call) (told : Result Done NotDone) : Type 0 where
  pub answer : Result (Unit {0}) NotTaken
  pub attempted : Attempted build compare a b phase after call answer
  pub told_so : told ≡ done_of answer

-- a line that asks for a call is told what the call is told; any other leaves the plan as it is
abbrev pub Followed : {S : Type 0} → Build S → Comparison → S → S → Phase → Phase → Option Request → Result Done NotDone → Type 0
Followed build compare a b phase after (Some (Play call)) told = Made build compare a b phase after call told
Followed build compare a b phase after (Some Judge) told = (told ≡ Ok Asked) × Still a b phase after
Followed build compare a b phase after None told = (told ≡ Err NotUnderstood) × Still a b phase after

-- totals, free slots and verdict are those of the plan on the board
pub record Seen (compare : Comparison) (m : Meaning) (before after : List Step) (stand : Stand) : Type 0 where
  pub totals : Totals m stand.totals
  pub free : stand.free ≡ free_slots m
  pub judged : Judged compare m before after stand.verdict

-- one more, as far as 64 bits count
abbrev pub more : ℕ → ℕ
more count = min (count + 1) (2 ^ 64 - 1)

abbrev pub counted_of : Tally → Result Done NotDone → Tally
counted_of t (Ok Taken) = record t { taken = more t.taken }
counted_of t (Ok Asked) = record t { judged = more t.judged }
counted_of t (Err (Untaken (Refused fault))) = record t { refused = more t.refused }
counted_of t (Err (Untaken OutOfTurn)) = record t { late = more t.late }
counted_of t (Err NotUnderstood) = record t { unknown = more t.unknown }
