use Rattle.board.specs.Boards.{Rearranged}
use Rattle.levelling.proofs.passing.pass_more.Given as goal

abbrev pub invariant-loop-step : goal.invariant-loop-step
invariant-loop-step g l = Rearranged g.B.Board.build l.fn.board l.board
