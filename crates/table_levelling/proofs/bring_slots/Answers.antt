use Rattle.std.proofs.Common.{min}
use Rattle.board.specs.Meaning.{Meaning}
use Rattle.table_levelling.specs.Copies.{pairwise}
use Rattle.board.proofs.Going.{went_on}
use Rattle.table_levelling.proofs.Copying.{lower-reach, raise-reach, planned-on}
use Rattle.table_levelling.proofs.bring_slots.Goals as goal

pub change_slots-requires : goal.change_slots-requires
change_slots-requires g c =
    record { from = c.requires.from; to = c.requires.to; reach = lower-reach (g.A.Board.build.meaning c.args.from.now) (g.B.Board.build.meaning c.args.to.now) c.requires.to.sound }

pub change_slots-requires-2 : goal.change_slots-requires-2
change_slots-requires-2 g c =
    let b = g.B.Board in
    let from : Meaning = g.A.Board.build.meaning c.args.from.now in
    let old : Meaning = b.build.meaning c.args.to.now in
    record {
      from = c.requires.from;
      to = c.change_slots.ensures.went.good;
      reach = raise-reach from old (b.build.meaning c.change_slots.new.to) c.requires.holds c.change_slots.ensures.changed;
    }

pub returns : goal.returns
returns g c =
    let b = g.B.Board in
    let from : Meaning = g.A.Board.build.meaning c.args.from.now in
    let old : Meaning = b.build.meaning c.args.to.now in
    let raised = c.change_slots-2.ensures in
    record {
      went = went_on b.build c.args.to.now c.change_slots.new.to c.change_slots-2.new.to c.change_slots.ensures.went raised.went.good raised.went.keeps;
      brought = planned-on old (b.build.meaning c.change_slots.new.to) (b.build.meaning c.change_slots-2.new.to) (pairwise min from.held old.held) from.held c.change_slots.ensures.changed raised.changed;
    }
