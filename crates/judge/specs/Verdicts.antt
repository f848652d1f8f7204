-- What the judge answers: a refusal, or a verdict on the board's plan. It passes just the plans that are fairest.
use Rattle.std.specs.Prelude.{◌≡◌, ℕ, ◌<◌, ◌≤◌, true, List, length, take, Result, MatchResult}
use Rattle.fairness.specs.Plans.{Plan, Feasible}
use Rattle.fairness.specs.Laws.{Comparison}
use Rattle.fairness.specs.Levels.{Fairer}
use Rattle.fairness.specs.Routes.{Exchanged, should_gain}
use Rattle.board.specs.declared.fault.Fault.{Fault}
use Rattle.board.specs.declared.fault.Refusal.TheVariants.{RouteListTooShort}
use Rattle.board.specs.Refusals.{fault_at}
use Rattle.board.specs.Meaning.{Meaning, most_cores}
use Rattle.routes.specs.declared.Step.{Step}
use Rattle.routes.specs.Routes.{task_on, core_on, RouteTo}
use Rattle.search.specs.Gains.{share_on, NoneFreeOn}
use Rattle.search.specs.Chains.{RestSame}
use Rattle.search.specs.Founds.{FewestSteps}
use Rattle.levelling.specs.Levelled.{FairestOn, LowestFree}
use Rattle.judge.specs.declared.Verdict.{Verdict}
use Rattle.judge.specs.declared.Verdict.TheVariants as verdict

-- each verdict with its values: passed has none, a free slot has its core and task, a route its number of steps and its loser
abbrev pub Says : Verdict → Type 0 → (ℕ → ℕ → Type 0) → (ℕ → ℕ → Type 0) → Type 0
Says verdict.Passed passed free route = passed
Says (verdict.Free core task) passed free route = free core task
Says (verdict.Route steps loser) passed free route = route steps loser

-- the plan is fairest; the list is as it was
pub record PlanPassed (compare : Comparison) (m : Meaning) (before after : List Step) : Type 0 where
  pub fairest : FairestOn compare m
  pub untouched : after ≡ before

-- the task still needs a slot of the core that is free, and these two are the first such pair; the list is as it was
pub record SlotFree (compare : Comparison) (m : Meaning) (before after : List Step) (core task : ℕ) : Type 0 where
  pub first_pair : LowestFree m (record { core = core; task = task })
  pub not_fairest : FairestOn compare m → ⊥
  pub untouched : after ≡ before

-- each plan that an exchange along the steps makes is feasible and fairer
abbrev pub MakesFairer : Comparison → Meaning → List Step → ℕ → Type 0
MakesFairer compare m steps loser =
    (plan : Plan) → Exchanged m.tasks m.cores (length steps) (task_on steps loser) (core_on steps) m.held plan
    → Feasible m.tasks m.cores m.need m.capacity plan × Fairer compare m.tasks m.cores m.need plan m.held

-- no slot is free that a task needs, but one passed along the first entries of the list, to their first task from the loser,
-- makes the plan fairer, and no route between these two is shorter; the rest of the list is as it was
pub record RouteShown (compare : Comparison) (m : Meaning) (before after : List Step) (steps loser : ℕ) : Type 0 where
  pub none_free : NoneFreeOn m
  pub few : steps ≤ most_cores
  pub fewest : FewestSteps m (task_on (take steps after) loser 0) loser steps
  pub route : RouteTo m (take steps after) loser
  pub gains : should_gain compare (share_on m (task_on (take steps after) loser 0)) (share_on m loser) ≡ true
  pub fairer : MakesFairer compare m (take steps after) loser
  pub not_fairest : FairestOn compare m → ⊥
  pub rest : RestSame before after steps

-- the list had room for every route, and the verdict holds
pub record Answered (compare : Comparison) (m : Meaning) (before after : List Step) (verdict : Verdict) : Type 0 where
  pub room : most_cores ≤ length before
  pub holds : Says verdict (PlanPassed compare m before after) (SlotFree compare m before after) (RouteShown compare m before after)

-- the list was too short for some route, and is as it was
pub record Refused (before after : List Step) (fault : Fault) : Type 0 where
  pub short : length before < most_cores
  pub told : fault ≡ fault_at RouteListTooShort 0
  pub untouched : after ≡ before

-- what judging comes to: a verdict where the list has room, and else a refusal
abbrev pub Judged : Comparison → Meaning → List Step → List Step → Result Verdict Fault → Type 0
Judged compare m before after r = MatchResult r (Answered compare m before after) (Refused before after)
