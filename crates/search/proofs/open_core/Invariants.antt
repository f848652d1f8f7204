use Rattle.search.proofs.Openings.{Holders}
use Rattle.search.proofs.open_core.Given as goal

abbrev pub invariant-loop-task : goal.invariant-loop-task
invariant-loop-task g l = Holders (g.B.Board.build.meaning l.board) l.initial.search l.search l.core l.opening l.task
