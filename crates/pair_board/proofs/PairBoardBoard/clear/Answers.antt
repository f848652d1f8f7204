use Rattle.std.proofs.Common.{refl}
use Rattle.board.proofs.Passed.{clears}
use Rattle.pair_board.specs.declared.PairBoard.{PairBoard}
use Rattle.pair_board.specs.Pairs.{pair_build}
use Rattle.pair_board.proofs.Steps.{all-clear, none-serving, none-counted}
use Rattle.pair_board.proofs.PairBoardBoard.clear.Goals as goal

pub returns : goal.returns
returns c =
    let b : PairBoard = c.args.self.now in
    clears pair_build b _ c.requires
    (all-clear b.tasks b.cores b.entries.now)
    (record { sixteen = refl; counted = none-counted b.tasks b.cores b.entries.now; serving = none-serving b.tasks b.cores b.entries.now })
    (record { whose = refl; past = refl; same_length = refl; same_tasks = refl; same_cores = refl })
