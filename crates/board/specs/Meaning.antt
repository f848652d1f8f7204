-- What a board says, and the condition that every board keeps.
use Rattle.std.specs.Prelude.{◌≡◌, ℕ, ◌-◌, ◌<◌, ◌≤◌, Bool, cond, not, ◌&&◌, ◌==◌, nat_le, nat_lt}
use Rattle.fairness.specs.Sums.{sum_to}
use Rattle.fairness.specs.Plans.{Plan, given, total}

-- needs and slots by task and core, capacities by core; 0 for a task or a core that the board does not have
pub record Meaning : Type 0 where
  pub tasks : ℕ
  pub cores : ℕ
  pub capacity : ℕ → ℕ
  pub need : Plan
  pub held : Plan
  -- how many pairs (task, core) may have a need above 0
  pub greatest_pairs : ℕ
  -- the greatest capacity that each core can be given
  pub greatest_capacity : ℕ → ℕ

abbrev pub most_tasks : ℕ
most_tasks = 64

abbrev pub most_cores : ℕ
most_cores = 16

abbrev pub most_slots : ℕ
most_slots = 1000

-- the slots that all tasks hold of a core
abbrev pub given_at : Meaning → ℕ → ℕ
given_at m core = given m.tasks m.held core

-- what a core could still give
abbrev pub free_at : Meaning → ℕ → ℕ
free_at m core = m.capacity core - given_at m core

-- what all cores could still give
abbrev pub free_slots : Meaning → ℕ
free_slots m = sum_to m.cores (free_at m)

-- what a task holds, and what it needs, over all cores
abbrev pub total_of : Meaning → ℕ → ℕ
total_of m task = total m.cores m.held task

abbrev pub whole_need_of : Meaning → ℕ → ℕ
whole_need_of m task = total m.cores m.need task

-- 1 where there is a need, and else 0
abbrev pub needed : ℕ → ℕ
needed need = cond (nat_lt 0 need) 1 0

-- how many pairs have a need
abbrev pub pair_count : Meaning → ℕ
pair_count m = sum_to m.tasks (λ task. sum_to m.cores (λ core. needed (m.need task core)))

-- whether the pair can have a need: it has one already, or one more pair may have one
abbrev pub has_place : Meaning → ℕ → ℕ → Bool
has_place m task core = not (m.need task core == 0 && nat_le m.greatest_pairs (pair_count m))

-- the plan with one number changed
abbrev pub put : Plan → ℕ → ℕ → ℕ → Plan
put plan task core amount t c = cond (t == task && c == core) amount (plan t c)

abbrev pub with_need : Meaning → ℕ → ℕ → ℕ → Meaning
with_need m task core amount = record {
  tasks = m.tasks;
  cores = m.cores;
  capacity = m.capacity;
  need = put m.need task core amount;
  held = m.held;
  greatest_pairs = m.greatest_pairs;
  greatest_capacity = m.greatest_capacity;
}

-- the same board with another plan on it
abbrev pub planned : Meaning → Plan → Meaning
planned m plan = record {
  tasks = m.tasks;
  cores = m.cores;
  capacity = m.capacity;
  need = m.need;
  held = plan;
  greatest_pairs = m.greatest_pairs;
  greatest_capacity = m.greatest_capacity;
}

abbrev pub with_held : Meaning → ℕ → ℕ → ℕ → Meaning
with_held m task core amount = planned m (put m.held task core amount)

abbrev pub with_capacity : Meaning → ℕ → ℕ → Meaning
with_capacity m core amount = record {
  tasks = m.tasks;
  cores = m.cores;
  capacity = λ c. cond (c == core) amount (m.capacity c);
  need = m.need;
  held = m.held;
  greatest_pairs = m.greatest_pairs;
  greatest_capacity = m.greatest_capacity;
}

-- the same board with nothing on it
abbrev pub cleared : Meaning → Meaning
cleared m = record {
  tasks = m.tasks;
  cores = m.cores;
  capacity = λ _. 0;
  need = λ _ _. 0;
  held = λ _ _. 0;
  greatest_pairs = m.greatest_pairs;
  greatest_capacity = m.greatest_capacity;
}

-- a clear board of n tasks and m cores, each of which can be given up to `greatest`
abbrev pub new_board : ℕ → ℕ → ℕ → ℕ → Meaning
new_board n m pairs greatest = record {
  tasks = n;
  cores = m;
  capacity = λ _. 0;
  need = λ _ _. 0;
  held = λ _ _. 0;
  greatest_pairs = pairs;
  greatest_capacity = λ core. cond (nat_lt core m) greatest 0;
}

-- how many tasks and cores a board may be made for
abbrev pub sizes_allowed : ℕ → ℕ → Bool
sizes_allowed n m = nat_le 1 n && nat_le n most_tasks && nat_le 1 m && nat_le m most_cores

-- all but the slots held is the same
abbrev pub SameOrder : Meaning → Meaning → Type 0
SameOrder a b = b ≡ planned a b.held

-- the condition that making gives and each call keeps
pub record Sound (m : Meaning) : Type 0 where
  -- a board has both tasks and cores, or it is the empty board and has neither
  pub few_tasks : m.tasks ≤ most_tasks
  pub few_cores : m.cores ≤ most_cores
  pub no_tasks : m.tasks ≡ 0 → m.cores ≡ 0
  pub no_cores : m.cores ≡ 0 → m.tasks ≡ 0
  -- no task holds more at a core than it needs there
  pub covered : (task core : ℕ) → m.held task core ≤ m.need task core
  -- no core gives more than its capacity
  pub fits : (core : ℕ) → core < m.cores → given_at m core ≤ m.capacity core
  pub small : (task core : ℕ) → m.need task core ≤ most_slots
  pub capped : (core : ℕ) → m.capacity core ≤ m.greatest_capacity core
  pub low : (core : ℕ) → m.greatest_capacity core ≤ most_slots
  pub few_pairs : pair_count m ≤ m.greatest_pairs
  -- what the board does not have is 0
  pub beyond_tasks : (task core : ℕ) → m.tasks ≤ task → m.need task core ≡ 0
  pub beyond_cores : (task core : ℕ) → m.cores ≤ core → m.need task core ≡ 0
  pub no_core : (core : ℕ) → m.cores ≤ core → m.greatest_capacity core ≡ 0
