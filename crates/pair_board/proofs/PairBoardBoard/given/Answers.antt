use Rattle.std.proofs.Common.{◌∙◌, arith}
use Rattle.board.proofs.Bounds.{given-within}
use Rattle.pair_board.specs.declared.PairBoard.{PairBoard}
use Rattle.pair_board.specs.Pairs.{pairs_of}
use Rattle.pair_board.proofs.Given.{given-slots}
use Rattle.pair_board.proofs.PairBoardBoard.given.Goals as goal

pub slots_of-requires : goal.slots_of-requires
slots_of-requires c =
    let b : PairBoard = c.args.self.now in
    let within = given-within (pairs_of b) c.requires.sound c.args.core in
    omega (arith, given-slots b c.args.core c.requires, within, c.requires.sound.capped c.args.core, c.requires.sound.low c.args.core)

pub returns : goal.returns
returns c = c.slots_of.ensures ∙ given-slots c.args.self.now c.args.core c.requires
