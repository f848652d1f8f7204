use Rattle.board.specs.Meaning.{Meaning}
use Rattle.search.specs.Gains.{SafeFlags}
use Rattle.search.proofs.flag_safe.Given as goal

abbrev pub invariant-loop-task : goal.invariant-loop-task
invariant-loop-task g l =
    let m : Meaning = g.B.Board.build.meaning l.board in
    SafeFlags (g.R.Rule.order l.rule) m l.safe
