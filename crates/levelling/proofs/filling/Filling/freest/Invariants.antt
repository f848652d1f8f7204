use Rattle.std.proofs.Common.{◌<◌}
use Rattle.levelling.proofs.filling.Filling.freest.Given as goal

abbrev pub invariant-loop-core : goal.invariant-loop-core
invariant-loop-core g l = l.freest < 16
