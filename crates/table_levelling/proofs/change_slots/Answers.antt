use Rattle.std.proofs.Common.{arith}
use Rattle.board.specs.Meaning.{Meaning}
use Rattle.table_levelling.specs.Copies.{tasks_to, pairwise}
use Rattle.board.proofs.Going.{went-nowhere, went_on}
use Rattle.table_levelling.proofs.Copying.{tasks-none, change-tasks-more, change-whole, on-tasks, reach-on}
use Rattle.table_levelling.proofs.change_slots.Goals as goal

pub loop-task-init : goal.loop-task-init
loop-task-init g c =
    let b = g.B.Board in
    let from : Meaning = g.A.Board.build.meaning c.args.from.now in
    let old : Meaning = b.build.meaning c.args.to.now in
    (went-nowhere b.build c.args.to.now c.requires.to, tasks-none (pairwise g.C.Change.changed from.held old.held) old)

pub change_task-requires : goal.change_task-requires
change_task-requires g c =
    let b = g.B.Board in
    let from : Meaning = g.A.Board.build.meaning c.args.from.now in
    let old : Meaning = b.build.meaning c.args.to.now in
    let m : Meaning = b.build.meaning c.loop-task.to in
    let inv = c.loop-task.invariant.1 in
    let new = pairwise g.C.Change.changed from.held old.held in
    let tasks = on-tasks old m (tasks_to new old.held c.loop-task.task) inv in
    record {
      from = c.requires.from;
      to = c.loop-task.invariant.0.good;
      task = omega (arith, tasks, c.tasks-task-end.ensures, c.loop-task-test.true);
      reach = reach-on g.C.Change.changed from old m c.loop-task.task g.met.C.Change.settled inv c.requires.reach;
    }

pub loop-task-preserved : goal.loop-task-preserved
loop-task-preserved g c =
    let b = g.B.Board in
    let from : Meaning = g.A.Board.build.meaning c.args.from.now in
    let old : Meaning = b.build.meaning c.args.to.now in
    let m : Meaning = b.build.meaning c.loop-task.to in (
      went_on b.build c.args.to.now c.loop-task.to c.change_task.new.to c.loop-task.invariant.0 c.change_task.ensures.went.good c.change_task.ensures.went.keeps,
      change-tasks-more g.C.Change.changed from old m (b.build.meaning c.change_task.new.to) c.loop-task.task c.requires.to.sound c.requires.reach c.loop-task.invariant.1 c.change_task.ensures.changed,
    )

pub returns : goal.returns
returns g c =
    let b = g.B.Board in
    let from : Meaning = g.A.Board.build.meaning c.args.from.now in
    let old : Meaning = b.build.meaning c.args.to.now in
    record {
      went = c.loop-task.invariant.0;
      changed = change-whole g.C.Change.changed from old (b.build.meaning c.loop-task.to) c.loop-task.task c.requires.to.sound c.requires.reach (omega (arith, c.tasks-task-end.ensures, c.loop-task-test.false, c.loop-task.auto.task-end)) c.loop-task.invariant.1;
    }
