use Rattle.board.specs.Boards.{Rearranged}
use Rattle.levelling.proofs.Measure.{unfairness}
use Rattle.levelling.proofs.level.Given as goal

abbrev pub invariant-loop : goal.invariant-loop
invariant-loop g l = Rearranged g.B.Board.build l.fn.board l.board

abbrev pub invariant-loop-improvement : goal.invariant-loop-improvement
invariant-loop-improvement g l = Rearranged g.B.Board.build l.fn.board l.board

abbrev pub decreases-loop-improvement : goal.decreases-loop-improvement
decreases-loop-improvement g l = unfairness (g.R.Rule.order l.rule) (g.B.Board.build.meaning l.board)
