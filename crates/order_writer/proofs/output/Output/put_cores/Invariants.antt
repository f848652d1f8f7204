use Rattle.orders.specs.Encoding.{each, core_line}
use Rattle.order_writer.specs.Outputs.{Continued}
use Rattle.order_writer.proofs.output.Output.put_cores.Given as goal

abbrev pub invariant-loop-core : goal.invariant-loop-core
invariant-loop-core g l =
    let m = g.B.Board.build.meaning l.board in
    Continued l.initial.self l.self (each l.core (core_line m.capacity))
