use Rattle.std.proofs.Common.{refl, arith, length-set, drop-set-lt}
use Rattle.board.proofs.Passed.{need-passed, need-changes}
use Rattle.table_board.specs.declared.TableBoard.{TableBoard}
use Rattle.table_board.specs.Table.{table_of, taken, table_build}
use Rattle.table_board.proofs.Writes.{need-written}
use Rattle.table_board.proofs.TableBoardBoard.set_need.Goals as goal

pub returns : goal.returns
returns c =
    let b : TableBoard = c.args.self.now in
    let p = need-passed (table_of b) c.args.task c.args.core c.args.need c.in_ok-test_need.ensures in
    let at = c.need_place-at.ensures in
    need-changes table_build b _ c.args.task c.args.core c.args.need c.requires c.in_ok-test_need.ensures
    (need-written b.tasks b.cores b.cells.now c.args.task c.args.core _ c.args.need p.on_tasks p.on_cores c.requires.serves at.place at.inside)
    (simp length-set c.requires.serves)
    (record { whose = refl; past = drop-set-lt (taken b) b.cells.now _ c.args.need (omega arith); same_tasks = refl; same_cores = refl })
