use Rattle.std.proofs.Common.{◌≡◌, ℕ, ◌<◌, length, get_or}
use Rattle.board.specs.Meaning.{total_of}
use Rattle.plan.proofs.states.totals_on.Given as goal

abbrev pub invariant-loop-task : goal.invariant-loop-task
invariant-loop-task g l =
    (length l.total-items ≡ 64) × ((k : ℕ) → k < l.task → get_or l.total-items k 0 ≡ total_of (g.B.Board.build.meaning l.board) k)
