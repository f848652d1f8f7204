use Rattle.std.proofs.Common.{◌≡◌, ℕ, ◌<◌}
use Rattle.calls.specs.Turns.{phase_at, InTurn}
use Rattle.calls.proofs.first_out_of_turn.Given as goal

abbrev pub invariant-loop-place : goal.invariant-loop-place
invariant-loop-place l = (l.phase ≡ phase_at l.calls l.place) × ((k : ℕ) → k < l.place → InTurn l.calls k)
