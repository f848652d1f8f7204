-- What is proved of fairest plans, for every rule that keeps the laws. Each statement is named by the contract of a function.
use Rattle.std.specs.Prelude.{ℕ, ◌+◌, ◌<◌, ◌≤◌, ◌⊎◌}
use Rattle.fairness.specs.Plans.{Plan, total, Feasible}
use Rattle.fairness.specs.Laws.{Comparison, Lawful}
use Rattle.fairness.specs.Levels.{Fairer, Fairest, SameLevels, Countable}
use Rattle.fairness.specs.Routes.{FreeSlotTaken, FairExchange}
use Rattle.fairness.specs.Settled.{Settled, NoneFree, NoFairerRoute}

-- a settled plan is fairest
abbrev pub SettledFairest : Type 0
SettledFairest =
    (compare : Comparison) → Lawful compare → (n m : ℕ) (need : Plan) (capacity : ℕ → ℕ) → Countable n m need
    → (held : Plan) → Feasible n m need capacity held → Settled compare n m need capacity held → Fairest compare n m need capacity held

-- and a fairest plan is settled
abbrev pub FairestSettled : Type 0
FairestSettled =
    (compare : Comparison) → Lawful compare → (n m : ℕ) (need : Plan) (capacity : ℕ → ℕ) → Countable n m need
    → (held : Plan) → Fairest compare n m need capacity held → Settled compare n m need capacity held

-- a free slot taken gives a feasible and fairer plan
abbrev pub FreeSlotFairer : Type 0
FreeSlotFairer =
    (compare : Comparison) → Lawful compare → (n m : ℕ) (need : Plan) (capacity : ℕ → ℕ) → Countable n m need
    → (before after : Plan) → Feasible n m need capacity before → FreeSlotTaken n m need capacity before after
    → Feasible n m need capacity after × Fairer compare n m need after before

-- and so does an exchange that passes the test
abbrev pub ExchangeFairer : Type 0
ExchangeFairer =
    (compare : Comparison) → Lawful compare → (n m : ℕ) (need : Plan) (capacity : ℕ → ℕ) → Countable n m need
    → (before after : Plan) → Feasible n m need capacity before → FairExchange compare n m need before after
    → Feasible n m need capacity after × Fairer compare n m need after before

-- fairest is the same as: no free slot that a task needs, and no route that makes the plan fairer
abbrev pub FairestExactly : Type 0
FairestExactly =
    (compare : Comparison) → Lawful compare → (n m : ℕ) (need : Plan) (capacity : ℕ → ℕ) → Countable n m need
    → (held : Plan) → Feasible n m need capacity held
    → (Fairest compare n m need capacity held → NoneFree n m need capacity held × NoFairerRoute compare n m need held)
    × (NoneFree n m need capacity held → NoFairerRoute compare n m need held → Fairest compare n m need capacity held)

-- two fairest plans have the same list of levels
abbrev pub FairestSameLevels : Type 0
FairestSameLevels =
    (compare : Comparison) → Lawful compare → (n m : ℕ) (need : Plan) (capacity : ℕ → ℕ)
    → (first second : Plan) → Fairest compare n m need capacity first → Fairest compare n m need capacity second
    → SameLevels compare n m need first second

-- where no core has less capacity than before, no fairest plan takes two slots from a task;
-- so with the same capacities no task's totals differ by more than one
abbrev pub FairestWithinOne : Type 0
FairestWithinOne =
    (compare : Comparison) → Lawful compare → (n m : ℕ) (need : Plan) (capacity greater : ℕ → ℕ) → Countable n m need
    → ((core : ℕ) → core < m → capacity core ≤ greater core)
    → (first second : Plan) → Fairest compare n m need capacity first → Fairest compare n m need greater second
    → (task : ℕ) → task < n → total m first task ≤ total m second task + 1

-- a number that falls with every free slot taken and with every exchange that passes the test: levelling ends
abbrev pub LevellingEnds : Type 0
LevellingEnds =
    (compare : Comparison) → Lawful compare → (n m : ℕ) (need : Plan) (capacity : ℕ → ℕ) → Countable n m need
    → (measure : Plan → ℕ) × ((before after : Plan) → Feasible n m need capacity before
    → FreeSlotTaken n m need capacity before after ⊎ FairExchange compare n m need before after → measure after < measure before)
