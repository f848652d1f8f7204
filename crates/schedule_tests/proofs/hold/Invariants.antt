use Rattle.board.specs.Boards.{Good}
use Rattle.schedule_tests.proofs.hold.Given as goal

abbrev pub invariant-loop-task : goal.invariant-loop-task
invariant-loop-task g l = Good g.B.Board.build l.board

abbrev pub invariant-loop-task-2 : goal.invariant-loop-task-2
invariant-loop-task-2 g l = Good g.B.Board.build l.board
