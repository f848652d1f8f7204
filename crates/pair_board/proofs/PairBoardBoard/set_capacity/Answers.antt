use Rattle.std.proofs.Common.{refl, arith, length-set}
use Rattle.board.proofs.Passed.{capacity-passed, capacity-changes}
use Rattle.pair_board.specs.declared.PairBoard.{PairBoard}
use Rattle.pair_board.specs.Pairs.{pairs_of, pair_build}
use Rattle.pair_board.proofs.Steps.{capacity-changed}
use Rattle.pair_board.proofs.PairBoardBoard.set_capacity.Goals as goal

pub returns : goal.returns
returns c =
    let b : PairBoard = c.args.self.now in
    let p = capacity-passed (pairs_of b) c.args.core c.args.capacity c.in_ok-test_capacity.ensures in
    capacity-changes pair_build b _ c.args.core c.args.capacity c.requires c.in_ok-test_capacity.ensures
    (capacity-changed b.tasks b.cores b.used b.capacities b.entries.now c.args.core c.args.capacity p.on_cores
    (omega (arith, c.requires.serves.sixteen, c.requires.sound.few_cores)))
    (record { sixteen = simp length-set c.requires.serves.sixteen; counted = c.requires.serves.counted; serving = c.requires.serves.serving })
    (record { whose = refl; past = refl; same_length = refl; same_tasks = refl; same_cores = refl })
