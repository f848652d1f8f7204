-- How an order and a plan go from one board to another: task by task, and core by core within a task.
use Rattle.std.specs.Prelude.{◌≡◌, ℕ, ◌*◌, ◌<◌, ◌≤◌, refl, min, max, cond, ◌&&◌, ◌==◌, nat_lt}
use Rattle.std.proofs.Common.{arith}
use Rattle.fairness.specs.Plans.{Plan, given}
use Rattle.board.specs.Meaning.{Meaning, most_slots, planned}
use Rattle.board.specs.Outcomes.{after, set_held}

-- the tasks below the bound are as in the new plan, and the others as in the old one
abbrev pub tasks_to : Plan → Plan → ℕ → Plan
tasks_to new old bound task core = cond (nat_lt task bound) (new task core) (old task core)

-- the cores below the bound are, for this one task, as in the new plan, and all else as in the old one
abbrev pub row_to : Plan → Plan → ℕ → ℕ → Plan
row_to new old task bound t c = cond (t == task && nat_lt c bound) (new t c) (old t c)

-- pair by pair what is made of the numbers of two plans
abbrev pub pairwise : (ℕ → ℕ → ℕ) → Plan → Plan → Plan
pairwise make a b task core = make (a task core) (b task core)

pub lower-settled : (from to : ℕ) → min from (min from to) ≡ min from to
lower-settled from to = omega arith

pub raise-settled : (from to : ℕ) → from ≡ from
raise-settled from to = refl

-- to is as large as from, and can be given every capacity and a need at every pair
pub record Roomy (from to : Meaning) : Type 0 where
  pub tasks : to.tasks ≡ from.tasks
  pub cores : to.cores ≡ from.cores
  pub pairs : to.greatest_pairs ≡ from.tasks * from.cores
  pub capacities : (core : ℕ) → core < from.cores → to.greatest_capacity core ≡ most_slots

-- to with these capacities and needs, and no slots
abbrev pub ordered : Meaning → (ℕ → ℕ) → Plan → Meaning
ordered to capacity need = record {
  tasks = to.tasks;
  cores = to.cores;
  capacity = capacity;
  need = need;
  held = λ _ _. 0;
  greatest_pairs = to.greatest_pairs;
  greatest_capacity = to.greatest_capacity;
}

-- the capacities of the cores below the bound
abbrev pub capacities_to : (ℕ → ℕ) → ℕ → ℕ → ℕ
capacities_to capacity bound core = cond (nat_lt core bound) (capacity core) 0

-- the plan of from is feasible on to
pub record Holds (from to : Meaning) : Type 0 where
  pub tasks : to.tasks ≡ from.tasks
  pub cores : to.cores ≡ from.cores
  pub within : (task core : ℕ) → from.held task core ≤ to.need task core
  pub room : (core : ℕ) → core < to.cores → given to.tasks from.held core ≤ to.capacity core

-- the slots of to can go over to those of the plan, pair by pair: no need and no capacity is in the way
pub record Reachable (plan : Plan) (to : Meaning) : Type 0 where
  pub within : (task core : ℕ) → plan task core ≤ to.need task core
  pub room : (core : ℕ) → core < to.cores → given to.tasks (pairwise max plan to.held) core ≤ to.capacity core

-- every slot count on to can become what the change makes of those on from and to
abbrev pub CanChange : (ℕ → ℕ → ℕ) → Meaning → Meaning → Type 0
CanChange change from to = Reachable (pairwise change from.held to.held) to

-- to after the change was asked at a pair, and where it was made at all pairs of a task, and at all pairs
abbrev pub pair_changed : (ℕ → ℕ → ℕ) → Meaning → Meaning → ℕ → ℕ → Meaning
pair_changed change from to task core = after to (set_held to task core (change (from.held task core) (to.held task core)))

abbrev pub task_changed : (ℕ → ℕ → ℕ) → Meaning → Meaning → ℕ → Meaning
task_changed change from to task = planned to (row_to (pairwise change from.held to.held) to.held task to.cores)

abbrev pub all_changed : (ℕ → ℕ → ℕ) → Meaning → Meaning → Meaning
all_changed change from to = planned to (pairwise change from.held to.held)

-- the same tasks and cores, needs and capacities
pub record Mirrors (from to : Meaning) : Type 0 where
  pub tasks : to.tasks ≡ from.tasks
  pub cores : to.cores ≡ from.cores
  pub need : to.need ≡ from.need
  pub capacity : to.capacity ≡ from.capacity
