use Rattle.board.specs.Boards.{Good}
use Rattle.worked_plans.proofs.show_on.Given as goal

abbrev pub invariant-loop-slots : goal.invariant-loop-slots
invariant-loop-slots g l = Good g.B.Board.build l.board
