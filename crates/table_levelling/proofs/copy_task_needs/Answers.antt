use Rattle.std.proofs.Common.{arith}
use Rattle.board.specs.Meaning.{Meaning}
use Rattle.board.proofs.Going.{went-nowhere, went_on}
use Rattle.table_levelling.proofs.Copying.{needs-none, needs-more, needs-row}
use Rattle.table_levelling.proofs.copy_task_needs.Goals as goal

pub loop-core-init : goal.loop-core-init
loop-core-init g c =
    let b = g.B.Board in
    let from : Meaning = g.A.Board.build.meaning c.args.from.now in
    let old : Meaning = b.build.meaning c.args.to.now in
    (went-nowhere b.build c.args.to.now c.requires.to, needs-none from old c.args.task c.requires.clear)

pub loop-core-preserved : goal.loop-core-preserved
loop-core-preserved g c =
    let b = g.B.Board in
    let from : Meaning = g.A.Board.build.meaning c.args.from.now in
    let old : Meaning = b.build.meaning c.args.to.now in (
      went_on b.build c.args.to.now c.loop-core.to c.set_need.new.self c.loop-core.invariant.0 c.set_need.ensures.good c.set_need.ensures.keeps,
      needs-more from old (b.build.meaning c.loop-core.to) (b.build.meaning c.set_need.new.self) c.args.task c.loop-core.core c.need.result
          c.requires.from.sound c.requires.room c.requires.task (omega (arith, c.cores-core-end.ensures, c.loop-core-test.true)) c.need.ensures c.loop-core.invariant.1 c.set_need.ensures.left,
    )

pub returns : goal.returns
returns g c =
    let b = g.B.Board in
    let from : Meaning = g.A.Board.build.meaning c.args.from.now in
    let old : Meaning = b.build.meaning c.args.to.now in
    record {
      went = c.loop-core.invariant.0;
      copied = needs-row from old (b.build.meaning c.loop-core.to) c.args.task c.loop-core.core c.requires.from.sound (omega (arith, c.cores-core-end.ensures, c.loop-core-test.false, c.loop-core.auto.core-end)) c.loop-core.invariant.1;
    }
