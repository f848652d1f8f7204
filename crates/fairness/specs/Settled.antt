-- Plans in which no task can be helped.
use Rattle.std.specs.Prelude.{◌≡◌, ℕ, ◌<◌, ◌≤◌, Bool, true, false}
use Rattle.fairness.specs.Plans.{Plan, given, total}
use Rattle.fairness.specs.Laws.{Comparison}
use Rattle.fairness.specs.Levels.{Fairer, share_of}
use Rattle.fairness.specs.Routes.{Route, Exchanged, should_gain}

-- a set of tasks of which none could have a slot from outside: where one of them needs more of a core,
-- the core has no free slot and all who hold slots of it are in the set
pub record Closed (n m : ℕ) (need : Plan) (capacity : ℕ → ℕ) (held : Plan) (set : ℕ → Bool) : Type 0 where
  pub full : (task core : ℕ) → task < n → core < m → set task ≡ true → held task core < need task core → capacity core ≤ given n held core
  pub inside : (task core holder : ℕ) → task < n → core < m → holder < n → set task ≡ true → held task core < need task core → 0 < held holder core → set holder ≡ true

-- a closed set with the task in it, in which no exchange in its favour passes the test: what a search that finds nothing leaves
pub record Safe (compare : Comparison) (n m : ℕ) (need : Plan) (capacity : ℕ → ℕ) (held : Plan) (task : ℕ) : Type 0 where
  pub set : ℕ → Bool
  pub closed : Closed n m need capacity held set
  pub own : set task ≡ true
  pub none_gives : (loser : ℕ) → loser < n → set loser ≡ true → 0 < total m held loser
      → should_gain compare (share_of m need held task) (share_of m need held loser) ≡ false

-- each task that has less than it needs is safe; in particular no free slot is needed
abbrev pub Settled : Comparison → ℕ → ℕ → Plan → (ℕ → ℕ) → Plan → Type 0
Settled compare n m need capacity held = (task : ℕ) → task < n → total m held task < total m need task → Safe compare n m need capacity held task

-- a core that a task needs more of has no free slot
abbrev pub NoneFree : ℕ → ℕ → Plan → (ℕ → ℕ) → Plan → Type 0
NoneFree n m need capacity held = (task core : ℕ) → task < n → core < m → held task core < need task core → capacity core ≤ given n held core

-- no route's exchange makes the plan fairer
abbrev pub NoFairerRoute : Comparison → ℕ → ℕ → Plan → Plan → Type 0
NoFairerRoute compare n m need held =
    (steps : ℕ) (at through : ℕ → ℕ) → Route n m need held steps at through → (after : Plan) → Exchanged n m steps at through held after
    → Fairer compare n m need after held → ⊥
