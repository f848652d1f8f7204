use Rattle.board.specs.Boards.{Good}
use Rattle.schedule_tests.proofs.fill.Given as goal

abbrev pub invariant-loop-task : goal.invariant-loop-task
invariant-loop-task g l = Good g.B.Board.build l.board
