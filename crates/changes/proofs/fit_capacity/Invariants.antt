use Rattle.board.specs.Boards.{Rearranged}
use Rattle.changes.proofs.Fitting.{Fitting}
use Rattle.changes.proofs.fit_capacity.Given as goal

abbrev pub invariant-loop-task : goal.invariant-loop-task
invariant-loop-task g l =
    let b = g.B.Board in
    Rearranged b.build l.initial.board l.board × Fitting (b.build.meaning l.board) l.core l.capacity l.over l.task
