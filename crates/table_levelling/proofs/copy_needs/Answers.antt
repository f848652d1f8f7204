use Rattle.std.proofs.Common.{◌+◌, arith}
use Rattle.board.specs.Meaning.{Meaning}
use Rattle.table_levelling.specs.Copies.{tasks_to}
use Rattle.board.proofs.Going.{went-nowhere, went_on}
use Rattle.table_levelling.proofs.Copying.{needs-start, needs-whole, room-on, ordered-again, ordered-on}
use Rattle.table_levelling.proofs.copy_needs.Goals as goal

pub loop-task-init : goal.loop-task-init
loop-task-init g c =
    let b = g.B.Board in
    let from : Meaning = g.A.Board.build.meaning c.args.from.now in
    let old : Meaning = b.build.meaning c.args.to.now in
    (went-nowhere b.build c.args.to.now c.requires.to, needs-start from old c.requires.clear)

pub copy_task_needs-requires : goal.copy_task_needs-requires
copy_task_needs-requires g c =
    let b = g.B.Board in
    let from : Meaning = g.A.Board.build.meaning c.args.from.now in
    let old : Meaning = b.build.meaning c.args.to.now in
    let m : Meaning = b.build.meaning c.loop-task.to in
    let inv = c.loop-task.invariant.1 in
    let plan = tasks_to from.need (λ _ _. 0) c.loop-task.task in
    record {
      from = c.requires.from;
      to = c.loop-task.invariant.0.good;
      room = room-on from old m old.capacity plan inv c.requires.room;
      task = omega (arith, c.tasks-task-end.ensures, c.loop-task-test.true);
      clear = ordered-again old m old.capacity plan inv;
    }

pub loop-task-preserved : goal.loop-task-preserved
loop-task-preserved g c =
    let b = g.B.Board in
    let from : Meaning = g.A.Board.build.meaning c.args.from.now in
    let old : Meaning = b.build.meaning c.args.to.now in
    let m : Meaning = b.build.meaning c.loop-task.to in (
      went_on b.build c.args.to.now c.loop-task.to c.copy_task_needs.new.to c.loop-task.invariant.0 c.copy_task_needs.ensures.went.good c.copy_task_needs.ensures.went.keeps,
      ordered-on old m (b.build.meaning c.copy_task_needs.new.to) (tasks_to from.need (λ _ _. 0) c.loop-task.task) (tasks_to from.need (λ _ _. 0) (c.loop-task.task + 1))
          c.loop-task.invariant.1 c.copy_task_needs.ensures.copied,
    )

pub returns : goal.returns
returns g c =
    let b = g.B.Board in
    let from : Meaning = g.A.Board.build.meaning c.args.from.now in
    let old : Meaning = b.build.meaning c.args.to.now in
    record {
      went = c.loop-task.invariant.0;
      copied = needs-whole from old (b.build.meaning c.loop-task.to) c.loop-task.task c.requires.from.sound (omega (arith, c.tasks-task-end.ensures, c.loop-task-test.false, c.loop-task.auto.task-end)) c.loop-task.invariant.1;
    }
