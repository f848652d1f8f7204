use Rattle.std.proofs.Common.{◌≤◌}
use Rattle.levelling.proofs.passing.room_along.Given as goal

abbrev pub invariant-loop-step : goal.invariant-loop-step
invariant-loop-step g l = l.room ≤ 1000
