use Rattle.std.proofs.Common.{◌≡◌}
use Rattle.fairness.specs.Sums.{sum_to}
use Rattle.board.proofs.Board.whole_need.Given as goal

abbrev pub invariant-loop-core : goal.invariant-loop-core
invariant-loop-core g l = l.whole ≡ sum_to l.core ((g.Self.Board.build.meaning l.self).need l.task)
