use Rattle.tasks.specs.Table.{rows}
use Rattle.orders.specs.Encoding.{each, task_line}
use Rattle.order_writer.specs.Outputs.{Continued}
use Rattle.order_writer.proofs.output.Output.put_tasks.Given as goal

abbrev pub invariant-loop-task : goal.invariant-loop-task
invariant-loop-task l = Continued l.initial.self l.self (each l.task (task_line (rows l.tasks)))
