use Rattle.std.proofs.Common.{min, ap, ◌∙◌, arith}
use Rattle.board.specs.Meaning.{Meaning, with_held}
use Rattle.board.specs.Outcomes.{after}
use Rattle.board.proofs.Changes.{done-fewer}
use Rattle.changes.proofs.fit_need.Goals as goal

pub returns-clause-fits : goal.returns-clause-fits
returns-clause-fits g c =
    let m : Meaning = g.B.Board.build.meaning c.args.board.now in
    let t = c.args.task in
    let k = c.args.core in
    c.set_held.ensures.left ∙ (ap (after m) (done-fewer m t k c.min.result c.requires.good.sound c.requires.task c.requires.core (omega (arith, c.min.ensures, c.held-held.ensures)))
    ∙ ap (with_held m t k) (c.min.ensures ∙ ap (λ z. min z c.args.need) c.held-held.ensures))
