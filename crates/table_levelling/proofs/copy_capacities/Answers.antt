use Rattle.std.proofs.Common.{arith}
use Rattle.board.specs.Meaning.{Meaning}
use Rattle.board.proofs.Going.{went-nowhere, went_on}
use Rattle.table_levelling.proofs.Copying.{capacities-none, capacities-more, capacities-whole}
use Rattle.table_levelling.proofs.copy_capacities.Goals as goal

pub loop-core-init : goal.loop-core-init
loop-core-init g c =
    let b = g.B.Board in
    let from : Meaning = g.A.Board.build.meaning c.args.from.now in
    let old : Meaning = b.build.meaning c.args.to.now in
    (went-nowhere b.build c.args.to.now c.requires.to, capacities-none from old c.requires.clear)

pub loop-core-preserved : goal.loop-core-preserved
loop-core-preserved g c =
    let b = g.B.Board in
    let from : Meaning = g.A.Board.build.meaning c.args.from.now in
    let old : Meaning = b.build.meaning c.args.to.now in (
      went_on b.build c.args.to.now c.loop-core.to c.set_capacity.new.self c.loop-core.invariant.0 c.set_capacity.ensures.good c.set_capacity.ensures.keeps,
      capacities-more from old (b.build.meaning c.loop-core.to) (b.build.meaning c.set_capacity.new.self) c.loop-core.core c.capacity.result
          c.requires.from.sound c.requires.room (omega (arith, c.cores-core-end.ensures, c.loop-core-test.true)) c.capacity.ensures c.loop-core.invariant.1 c.set_capacity.ensures.left,
    )

pub returns : goal.returns
returns g c =
    let b = g.B.Board in
    let from : Meaning = g.A.Board.build.meaning c.args.from.now in
    let old : Meaning = b.build.meaning c.args.to.now in
    record {
      went = c.loop-core.invariant.0;
      copied = capacities-whole from old (b.build.meaning c.loop-core.to) c.loop-core.core c.requires.from.sound (omega (arith, c.cores-core-end.ensures, c.loop-core-test.false, c.loop-core.auto.core-end)) c.loop-core.invariant.1;
    }
