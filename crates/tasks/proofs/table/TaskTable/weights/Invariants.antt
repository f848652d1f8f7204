use Rattle.std.proofs.Common.{◌≡◌, ℕ, ◌<◌, get_or}
use Rattle.tasks.specs.Table.{rows, weight_in}
use Rattle.tasks.proofs.table.TaskTable.weights.Given as goal

-- the weights so far are right
abbrev pub invariant-loop-task : goal.invariant-loop-task
invariant-loop-task l = (task : ℕ) → task < l.task → get_or l.weight-items task 1 ≡ weight_in (rows l.self) task
