-- Plans for n tasks on m cores, both numbered from 0.
use Rattle.std.specs.Prelude.{ℕ, ◌<◌, ◌≤◌}
use Rattle.fairness.specs.Sums.{sum_to}

-- a number for each task and core: slots held, or needs
abbrev pub Plan : Type 0
Plan = ℕ → ℕ → ℕ

-- the slots of a core that all n tasks hold together
abbrev pub given : ℕ → Plan → ℕ → ℕ
given n plan core = sum_to n (λ task. plan task core)

-- what a task has over all m cores
abbrev pub total : ℕ → Plan → ℕ → ℕ
total m plan task = sum_to m (plan task)

-- no task holds more at a core than it needs there, and no core gives more than its capacity
pub record Feasible (n m : ℕ) (need : Plan) (capacity : ℕ → ℕ) (held : Plan) : Type 0 where
  pub within : (task core : ℕ) → task < n → core < m → held task core ≤ need task core
  pub room : (core : ℕ) → core < m → given n held core ≤ capacity core
