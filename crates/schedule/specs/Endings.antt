-- How a run ends, and what two ends under one rule have in common.
use Rattle.std.specs.Prelude.{◌≡◌, ℕ, ◌+◌, ◌<◌, ◌≤◌, List, Ok}
use Rattle.fairness.specs.Laws.{Comparison}
use Rattle.fairness.specs.Levels.{SameLevels}
use Rattle.board.specs.Meaning.{Meaning, total_of}
use Rattle.board.specs.Boards.{Build, Went}
use Rattle.routes.specs.declared.Step.{Step}
use Rattle.judge.specs.Verdicts.{Judged}
use Rattle.calls.specs.declared.Call.{Call}
use Rattle.plan.specs.declared.runs.Note.{Note}
use Rattle.plan.specs.Runs.{RunTold}
use Rattle.schedule.specs.declared.Ending.{Ending}
use Rattle.schedule.specs.declared.TwoEndings.{TwoEndings}

-- the calls made b of a, or were refused and left it; and the judge looked at b
pub record Ended {S : Type 0} (build : Build S) (compare : Comparison) (a b : S)
    (calls : List Call) (notes written : List Note) (route shown : List Step) (ending : Ending) : Type 0 where
  pub went : Went build a b
  pub told : RunTold build.meaning compare a b calls notes written ending.run
  pub judged : Judged compare (build.meaning b) route shown ending.verdict

-- two boards of the same sizes, with the same needs and capacities
pub record SameNumbers (a b : Meaning) : Type 0 where
  pub tasks : a.tasks ≡ b.tasks
  pub cores : a.cores ≡ b.cores
  pub needs : (task core : ℕ) → task < a.tasks → core < a.cores → a.need task core ≡ b.need task core
  pub capacities : (core : ℕ) → core < a.cores → a.capacity core ≡ b.capacity core

-- the plans have the same list of levels, and give no task totals more than one slot apart
pub record Alike (compare : Comparison) (a b : Meaning) : Type 0 where
  pub levels : SameLevels compare a.tasks a.cores a.need a.held b.held
  pub above : (task : ℕ) → task < a.tasks → total_of a task ≤ total_of b task + 1
  pub below : (task : ℕ) → task < a.tasks → total_of b task ≤ total_of a task + 1

-- where both runs were played and left the same numbers, however they came there, their plans are alike
abbrev pub EndAlike : Comparison → Meaning → Meaning → TwoEndings → Type 0
EndAlike compare a b endings = endings.first.run ≡ Ok tt → endings.second.run ≡ Ok tt → SameNumbers a b → Alike compare a b
