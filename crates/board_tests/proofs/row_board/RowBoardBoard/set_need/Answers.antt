use Rattle.std.proofs.Common.{◌<◌, refl, arith, length-set}
use Rattle.board.proofs.Passed.{need-passed, stays, need-changes}
use Rattle.board_tests.specs.declared.row_board.RowBoard.{RowBoard}
use Rattle.board_tests.specs.Rows.{row_at, rows_of, row_build}
use Rattle.board_tests.proofs.Rows.{with_row_need, need-written, still-whole}
use Rattle.board_tests.proofs.row_board.RowBoardBoard.set_need.Goals as goal

pub returns-in_err-test_need : goal.returns-in_err-test_need
returns-in_err-test_need c =
    stays row_build _ _ _ _ c.requires c.in_err-test_need.ensures c.from_residual.ensures.1

pub returns : goal.returns
returns c =
    let b : RowBoard = c.args.self.now in
    let p = need-passed (rows_of b) c.args.task c.args.core c.args.need c.in_ok-test_need.ensures in
    let on : c.args.core < 16 = omega (arith, p.on_cores, c.requires.sound.few_cores) in
    need-changes row_build b _ c.args.task c.args.core c.args.need c.requires c.in_ok-test_need.ensures
    (need-written b.tasks b.cores b.rows c.args.core p.on_cores (omega (arith, on, c.requires.serves.sixteen)) c.args.task c.args.need p.on_tasks (omega (arith, p.on_tasks, c.requires.sound.few_tasks, c.requires.serves.all_needs c.args.core on)))
    (still-whole b c.args.core (with_row_need (row_at b.rows c.args.core) c.args.task c.args.need) c.requires.serves on (length-set (row_at b.rows c.args.core).needs c.args.task c.args.need) refl)
    tt
