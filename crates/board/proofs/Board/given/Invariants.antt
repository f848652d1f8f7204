use Rattle.std.proofs.Common.{◌≡◌}
use Rattle.fairness.specs.Sums.{sum_to}
use Rattle.board.proofs.Board.given.Given as goal

abbrev pub invariant-loop-task : goal.invariant-loop-task
invariant-loop-task g l = l.given ≡ sum_to l.task (λ task. (g.Self.Board.build.meaning l.self).held task l.core)
