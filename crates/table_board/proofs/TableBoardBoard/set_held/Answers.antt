use Rattle.std.proofs.Common.{refl, arith, length-set, drop-set-lt}
use Rattle.board.proofs.Passed.{held-passed, held-changes}
use Rattle.table_board.specs.declared.TableBoard.{TableBoard}
use Rattle.table_board.specs.Table.{table_of, taken, table_build}
use Rattle.table_board.proofs.Writes.{held-written}
use Rattle.table_board.proofs.TableBoardBoard.set_held.Goals as goal

pub returns : goal.returns
returns c =
    let b : TableBoard = c.args.self.now in
    let p = held-passed (table_of b) c.args.task c.args.core c.args.held c.in_ok-test_held.ensures in
    let at = c.held_place-at.ensures in
    held-changes table_build b _ c.args.task c.args.core c.args.held c.requires c.in_ok-test_held.ensures
    (held-written b.tasks b.cores b.cells.now c.args.task c.args.core _ c.args.held p.on_tasks p.on_cores c.requires.serves at.place at.inside)
    (simp length-set c.requires.serves)
    (record { whose = refl; past = drop-set-lt (taken b) b.cells.now _ c.args.held (omega arith); same_tasks = refl; same_cores = refl })
