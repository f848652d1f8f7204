use Rattle.std.proofs.Common.{◌≡◌}
use Rattle.fairness.specs.Sums.{sum_to}
use Rattle.board.proofs.Board.total.Given as goal

abbrev pub invariant-loop-core : goal.invariant-loop-core
invariant-loop-core g l = l.total ≡ sum_to l.core ((g.Self.Board.build.meaning l.self).held l.task)
