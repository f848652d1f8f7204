-- Routes as lists of steps on a board, and what an exchange along one comes to.
use Rattle.std.specs.Prelude.{ℕ, ◌<◌, ◌≢◌, cond, List, length, nat_lt, slice_index_or}
use Rattle.fairness.specs.Moves.{Moved}
use Rattle.fairness.specs.Routes.{Route, Exchanged}
use Rattle.board.specs.Meaning.{Meaning, SameOrder}
use Rattle.routes.specs.declared.Step.{Step}

abbrev pub no_step : Step
no_step = record { task = 0; core = 0 }

-- the task at place i of the steps, and after the last step the loser
abbrev pub task_on : List Step → ℕ → ℕ → ℕ
task_on steps loser i = cond (nat_lt i (length steps)) (slice_index_or steps i no_step).task loser

-- the core of which the task at place i takes a slot from the next
abbrev pub core_on : List Step → ℕ → ℕ
core_on steps i = (slice_index_or steps i no_step).core

-- the steps are a route to the loser
abbrev pub RouteTo : Meaning → List Step → ℕ → Type 0
RouteTo m steps loser = Route m.tasks m.cores m.need m.held (length steps) (task_on steps loser) (core_on steps)

-- the board n is m, but that one slot was passed along the steps
pub record PassedAlong (m n : Meaning) (steps : List Step) (loser : ℕ) : Type 0 where
  pub same_order : SameOrder m n
  pub exchanged : Exchanged m.tasks m.cores (length steps) (task_on steps loser) (core_on steps) m.held n.held

-- a slot of the core may go from the giver to the taker
pub record MayShift (m : Meaning) (taker core giver : ℕ) : Type 0 where
  pub takes : taker < m.tasks
  pub gives : giver < m.tasks
  pub real : core < m.cores
  pub wants : m.held taker core < m.need taker core
  pub some : 0 < m.held giver core
  pub apart : taker ≢ giver

-- it went
pub record Shifted (m n : Meaning) (taker core giver : ℕ) : Type 0 where
  pub same_order : SameOrder m n
  pub moved : Moved m.tasks m.cores m.held n.held taker core giver
