use Rattle.std.proofs.Common.{◌≡◌}
use Rattle.board.specs.Meaning.{Meaning, planned}
use Rattle.board.specs.Boards.{Went}
use Rattle.table_levelling.specs.Copies.{tasks_to, pairwise}
use Rattle.table_levelling.proofs.change_slots.Given as goal

abbrev pub invariant-loop-task : goal.invariant-loop-task
invariant-loop-task g l =
    let from : Meaning = g.A.Board.build.meaning l.from in
    let b = g.B.Board in
    let old : Meaning = b.build.meaning l.initial.to in
    Went b.build l.initial.to l.to × (b.build.meaning l.to ≡ planned old (tasks_to (pairwise g.C.Change.changed from.held old.held) old.held l.task))
