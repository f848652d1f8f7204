use Rattle.std.proofs.Common.{arith}
use Rattle.tasks.proofs.Steps.{filled}
use Rattle.tasks.proofs.entries.Entries.fill.Goals as goal

pub returns : goal.returns
returns c = filled c.args.self.now.tasks c.args.at _ c.args.task c.copy_from_slice.new.self (omega arith) (omega arith) c.copy_from_slice.ensures.after
