use Rattle.board.specs.Meaning.{Meaning}
use Rattle.routes.proofs.Shifts.{shifted}
use Rattle.routes.proofs.shift.Goals as goal

pub returns-clause-shifted : goal.returns-clause-shifted
returns-clause-shifted g c =
    let b = g.B.Board in
    let m : Meaning = b.build.meaning c.args.board.now in
    shifted m c.args.taker c.args.core c.args.giver c.requires.good.sound c.requires.may (b.build.meaning c.set_held.new.self) (b.build.meaning c.set_held-2.new.self)
    c.held-less.result c.held-more.result c.held-less.ensures c.held-more.ensures c.set_held.ensures.left c.set_held-2.ensures.left
