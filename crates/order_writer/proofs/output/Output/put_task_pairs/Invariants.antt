use Rattle.orders.specs.Encoding.{each, pair_line}
use Rattle.order_writer.specs.Outputs.{Continued, amounts_of}
use Rattle.order_writer.proofs.output.Output.put_task_pairs.Given as goal

abbrev pub invariant-loop-core : goal.invariant-loop-core
invariant-loop-core g l =
    let m = g.B.Board.build.meaning l.board in
    Continued l.initial.self l.self (each l.core (λ core. pair_line l.kind l.task core (amounts_of l.kind m l.task core)))
