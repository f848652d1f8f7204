use Rattle.board.specs.Boards.{Good}
use Rattle.schedule_tests.proofs.chain.Given as goal

abbrev pub invariant-loop-core : goal.invariant-loop-core
invariant-loop-core g l = Good g.B.Board.build l.board
