-- What levelling comes to.
use Rattle.std.specs.Prelude.{◌≡◌, ℕ, ◌<◌, ◌≤◌, Option, MatchOption}
use Rattle.fairness.specs.Laws.{Comparison}
use Rattle.fairness.specs.Levels.{Fairer, Fairest}
use Rattle.fairness.specs.Settled.{Settled}
use Rattle.board.specs.Meaning.{Meaning, SameOrder, given_at, most_cores}
use Rattle.board.specs.Boards.{Build, Went}
use Rattle.search.specs.Gains.{NoneFreeOn}
use Rattle.levelling.specs.declared.FreePair.{FreePair}
use Rattle.levelling.specs.declared.Improvement.{Improvement}
use Rattle.levelling.specs.declared.Improvement.TheVariants.{Passed, Taken}

-- the board's plan is fairest for its needs and capacities
abbrev pub FairestOn : Comparison → Meaning → Type 0
FairestOn compare m = Fairest compare m.tasks m.cores m.need m.capacity m.held

-- only slots of the board were moved, and its plan is fairest
pub record Levelled {S : Type 0} (build : Build S) (compare : Comparison) (a b : S) : Type 0 where
  pub went : Went build a b
  pub order : SameOrder (build.meaning a) (build.meaning b)
  pub fairest : FairestOn compare (build.meaning b)

-- the core has a free slot, and the task holds less than its need there
pub record FreeFor (m : Meaning) (task core : ℕ) : Type 0 where
  pub known_task : task < m.tasks
  pub known_core : core < m.cores
  pub needed : m.held task core < m.need task core
  pub free : given_at m core < m.capacity core

-- and neither a lower core nor a lower task at that core is so
pub record LowestFree (m : Meaning) (pair : FreePair) : Type 0 where
  pub free_pair : FreeFor m pair.task pair.core
  pub lowest_core : (task core : ℕ) → core < pair.core → FreeFor m task core → ⊥
  pub lowest_task : (task : ℕ) → task < pair.task → FreeFor m task pair.core → ⊥

-- the first free pair, or none
abbrev pub FirstFree : Meaning → Option FreePair → Type 0
FirstFree m r = MatchOption r (NoneFreeOn m) (LowestFree m)

-- n is m with a fairer plan on it
pub record Better (compare : Comparison) (m n : Meaning) : Type 0 where
  pub same_order : SameOrder m n
  pub fairer : Fairer compare m.tasks m.cores m.need n.held m.held

-- n is m, and no task of it can be helped
pub record Stands (compare : Comparison) (m n : Meaning) : Type 0 where
  pub same : n ≡ m
  pub settled : Settled compare m.tasks m.cores m.need m.capacity m.held

-- what one improvement comes to: someone gained, or nobody can
abbrev pub Improved : {A : Type 0} → Comparison → Meaning → Meaning → Option A → Type 0
Improved compare m n r = MatchOption r (Stands compare m n) (λ _. Better compare m n)

-- and the steps by which it was made
abbrev pub FewSteps : Improvement → Type 0
FewSteps (Passed found) = found.steps ≤ most_cores
FewSteps (Taken task) = Unit {0}
