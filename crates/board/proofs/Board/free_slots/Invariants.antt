use Rattle.std.proofs.Common.{◌≡◌}
use Rattle.fairness.specs.Sums.{sum_to}
use Rattle.board.specs.Meaning.{free_at}
use Rattle.board.proofs.Board.free_slots.Given as goal

abbrev pub invariant-loop-core : goal.invariant-loop-core
invariant-loop-core g l = l.free ≡ sum_to l.core (free_at (g.Self.Board.build.meaning l.self))
