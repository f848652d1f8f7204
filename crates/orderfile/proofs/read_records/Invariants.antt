use Rattle.std.proofs.Common.{◌-◌, length}
use Rattle.tasks.specs.Table.{rows}
use Rattle.orders.specs.Steps.{reading}
use Rattle.orders.specs.Reads.{run_from}
use Rattle.orderfile.proofs.Loop.{Sofar, Onward}
use Rattle.orderfile.proofs.read_records.Given as goal

abbrev pub invariant-loop-records : goal.invariant-loop-records
invariant-loop-records g l =
    let b = g.B.Board in
    Onward b.build l.initial.board l.board
    × Sofar (run_from (b.build.meaning l.initial.board) (rows l.initial.tasks) l.file) (reading l.reader l.seen (b.build.meaning l.board) (rows l.tasks)) l.records.file.now l.records.at

abbrev pub decreases-loop-records : goal.decreases-loop-records
decreases-loop-records g l = length l.records.file.now - l.records.at
