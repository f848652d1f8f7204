use Rattle.orders.specs.Encoding.{each, task_pairs}
use Rattle.order_writer.specs.Outputs.{Continued, amounts_of}
use Rattle.order_writer.proofs.output.Output.put_pairs.Given as goal

abbrev pub invariant-loop-task : goal.invariant-loop-task
invariant-loop-task g l =
    let m = g.B.Board.build.meaning l.board in
    Continued l.initial.self l.self (each l.task (task_pairs l.kind m.cores (amounts_of l.kind m)))
