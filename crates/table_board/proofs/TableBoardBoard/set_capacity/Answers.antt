use Rattle.std.proofs.Common.{refl, arith, length-set, drop-set-lt}
use Rattle.board.proofs.Passed.{capacity-passed, capacity-changes}
use Rattle.table_board.specs.declared.TableBoard.{TableBoard}
use Rattle.table_board.specs.Table.{table_of, taken, table_build}
use Rattle.table_board.proofs.Writes.{capacity-written}
use Rattle.table_board.proofs.TableBoardBoard.set_capacity.Goals as goal

pub returns : goal.returns
returns c =
    let b : TableBoard = c.args.self.now in
    let p = capacity-passed (table_of b) c.args.core c.args.capacity c.in_ok-test_capacity.ensures in
    let at = c.capacity_place-at.ensures in
    capacity-changes table_build b _ c.args.core c.args.capacity c.requires c.in_ok-test_capacity.ensures
    (capacity-written b.tasks b.cores b.cells.now c.args.core _ c.args.capacity p.on_cores c.requires.serves at.place)
    (simp length-set c.requires.serves)
    (record { whose = refl; past = drop-set-lt (taken b) b.cells.now _ c.args.capacity (omega arith); same_tasks = refl; same_cores = refl })
