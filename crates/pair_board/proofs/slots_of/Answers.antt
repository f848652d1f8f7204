use Rattle.std.proofs.Common.{rules}
use Rattle.pair_board.proofs.Given.{slots-room}
use Rattle.pair_board.proofs.slots_of.Goals as goal

pub overflow_add-slots : goal.overflow_add-slots
overflow_add-slots c = search (rules, slots-room c.args.entries.now c.args.core c.loop-entry.entry-index)
