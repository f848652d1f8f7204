use Rattle.board.specs.Boards.{Rearranged}
use Rattle.levelling.proofs.filling.give_out.Given as goal

abbrev pub invariant-loop : goal.invariant-loop
invariant-loop g l = Rearranged g.B.Board.build l.initial.board l.board
