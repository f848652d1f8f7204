use Rattle.board.specs.Meaning.{Meaning, SameOrder, with_need}
use Rattle.board.proofs.Going.{went_on, order-on}
use Rattle.changes.proofs.Taking.{need-taken, need-goes}
use Rattle.changes.proofs.change_need.Goals as goal

pub returns-clause-went : goal.returns-clause-went
returns-clause-went g c =
    let b = g.B.Board in
    let went = went_on b.build c.args.board.now c.fit_need.new.board c.set_need.new.self c.fit_need.ensures.went c.set_need.ensures.good c.set_need.ensures.keeps in
    let levelled = c.level_on_table.ensures in
    went_on b.build c.args.board.now c.set_need.new.self c.level_on_table.new.board went levelled.went.good levelled.went.keeps

pub returns-clause-order : goal.returns-clause-order
returns-clause-order g c =
    let b = g.B.Board in
    let m : Meaning = b.build.meaning c.args.board.now in
    let fit : Meaning = b.build.meaning c.fit_need.new.board in
    let asked : Meaning = b.build.meaning c.set_need.new.self in
    let t = need-taken m c.args.task c.args.core c.args.need c.requires.taken in
    let order : SameOrder (with_need m c.args.task c.args.core c.args.need) asked = need-goes m fit asked c.args.task c.args.core c.args.need t c.fit_need.ensures.fits c.set_need.ensures.left in
    order-on (with_need m c.args.task c.args.core c.args.need) asked (b.build.meaning c.level_on_table.new.board) order c.level_on_table.ensures.order
