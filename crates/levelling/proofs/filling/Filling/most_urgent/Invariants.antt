use Rattle.std.proofs.Common.{◌<◌}
use Rattle.levelling.proofs.filling.Filling.most_urgent.Given as goal

abbrev pub invariant-loop-task : goal.invariant-loop-task
invariant-loop-task g l = l.lowest < 64
