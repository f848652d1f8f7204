-- What the search for a fairer route answers.
use Rattle.std.specs.Prelude.{◌≡◌, ℕ, ◌<◌, ◌≤◌, true, List, take, Option, MatchOption}
use Rattle.fairness.specs.Laws.{Comparison}
use Rattle.board.specs.Meaning.{Meaning, most_cores}
use Rattle.routes.specs.declared.Step.{Step}
use Rattle.fairness.specs.Routes.{Route, should_gain}
use Rattle.routes.specs.Routes.{task_on, RouteTo}
use Rattle.search.specs.Gains.{share_on, NoneFreeOn, SafeOn}
use Rattle.search.specs.Chains.{RestSame}
use Rattle.search.specs.declared.Found.{Found}

-- no route from the gainer to the loser has fewer steps
abbrev pub FewestSteps : Meaning → ℕ → ℕ → ℕ → Type 0
FewestSteps m gainer loser steps =
    (others : ℕ) (at through : ℕ → ℕ) → Route m.tasks m.cores m.need m.held others at through → at 0 ≡ gainer → at others ≡ loser
    → steps ≤ others

-- the first entries of the list are a route by which the gainer should get a slot from the loser, as short as any between
-- these two; the rest of it is as it was
pub record FairerRoute (compare : Comparison) (m : Meaning) (before after : List Step) (found : Found) : Type 0 where
  pub route : RouteTo m (take found.steps after) found.loser
  pub begins : task_on (take found.steps after) found.loser 0 ≡ found.gainer
  pub gains : should_gain compare (share_on m found.gainer) (share_on m found.loser) ≡ true
  pub few : found.steps ≤ most_cores
  pub fewest : FewestSteps m found.gainer found.loser found.steps
  pub rest : RestSame before after found.steps

-- the list is as it was, and once no slot is free none of the tasks in the range has one to gain
pub record NothingToGain (compare : Comparison) (m : Meaning) (from to : ℕ) (before after : List Step) : Type 0 where
  pub untouched : after ≡ before
  pub safe : NoneFreeOn m → (task : ℕ) → from ≤ task → task < to → SafeOn compare m task

-- what a search for the tasks of a range comes to
abbrev pub Searched : Comparison → Meaning → ℕ → ℕ → List Step → List Step → Option Found → Type 0
Searched compare m from to before after r = MatchOption r (NothingToGain compare m from to before after) (FairerRoute compare m before after)
