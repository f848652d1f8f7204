use Rattle.std.proofs.Common.{arith}
use Rattle.board.specs.Meaning.{Meaning}
use Rattle.search.proofs.Shares.{share-small}
use Rattle.search.proofs.share_of.Goals as goal

pub returns-clause-small : goal.returns-clause-small
returns-clause-small g c =
    let m : Meaning = g.B.Board.build.meaning c.args.board.now in
    omega (arith, c.total.ensures, share-small m c.requires.sound c.args.task)
