use Rattle.std.proofs.Common.{◌≡◌, take}
use Rattle.pair_board.specs.Entries.{slots_of}
use Rattle.pair_board.proofs.slots_of.Given as goal

-- what the entries before this one hold
abbrev pub invariant-loop-entry : goal.invariant-loop-entry
invariant-loop-entry l = l.slots ≡ slots_of (take l.entry-index l.entries) l.core
