use Rattle.board.specs.Boards.{Went}
use Rattle.board_tests.proofs.first_surprise.Given as goal

abbrev pub invariant-loop-at : goal.invariant-loop-at
invariant-loop-at g l = Went g.B.Board.build l.initial.board l.board
