use Rattle.std.proofs.Common.{◌-◌, ◌<◌, ◌≤◌}
use Rattle.levelling.proofs.passing.fair_amount.Given as goal

abbrev pub invariant-loop-fair : goal.invariant-loop-fair
invariant-loop-fair g l = (l.fair < l.unfair) × (l.unfair ≤ 1001)

abbrev pub decreases-loop-fair : goal.decreases-loop-fair
decreases-loop-fair g l = l.unfair - l.fair
