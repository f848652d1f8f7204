use Rattle.std.proofs.Common.{arith}
use Rattle.board.specs.Meaning.{Meaning}
use Rattle.table_levelling.specs.Copies.{pairwise}
use Rattle.board.proofs.Going.{went-nowhere, went_on}
use Rattle.table_levelling.proofs.Copying.{row-none, change-more, row-whole}
use Rattle.table_levelling.proofs.change_task.Goals as goal

pub loop-core-init : goal.loop-core-init
loop-core-init g c =
    let b = g.B.Board in
    let from : Meaning = g.A.Board.build.meaning c.args.from.now in
    let old : Meaning = b.build.meaning c.args.to.now in
    (went-nowhere b.build c.args.to.now c.requires.to, row-none (pairwise g.C.Change.changed from.held old.held) old c.args.task)

pub loop-core-preserved : goal.loop-core-preserved
loop-core-preserved g c =
    let b = g.B.Board in
    let from : Meaning = g.A.Board.build.meaning c.args.from.now in
    let old : Meaning = b.build.meaning c.args.to.now in (
      went_on b.build c.args.to.now c.loop-core.to c.change_pair.new.to c.loop-core.invariant.0 c.change_pair.ensures.went.good c.change_pair.ensures.went.keeps,
      change-more g.C.Change.changed from old (b.build.meaning c.loop-core.to) (b.build.meaning c.change_pair.new.to) c.args.task c.loop-core.core
          c.requires.task (omega (arith, c.cores-core-end.ensures, c.loop-core-test.true)) c.requires.reach c.loop-core.invariant.1 c.change_pair.ensures.changed,
    )

pub returns : goal.returns
returns g c =
    let b = g.B.Board in
    let from : Meaning = g.A.Board.build.meaning c.args.from.now in
    let old : Meaning = b.build.meaning c.args.to.now in
    record {
      went = c.loop-core.invariant.0;
      changed = row-whole (pairwise g.C.Change.changed from.held old.held) old (b.build.meaning c.loop-core.to) c.args.task c.loop-core.core (omega (arith, c.cores-core-end.ensures, c.loop-core-test.false, c.loop-core.auto.core-end)) c.loop-core.invariant.1;
    }
