use Rattle.std.proofs.Common.{◌<◌, refl, arith, length-set}
use Rattle.board.proofs.Passed.{held-passed, stays, held-changes}
use Rattle.board_tests.specs.declared.row_board.RowBoard.{RowBoard}
use Rattle.board_tests.specs.Rows.{row_at, rows_of, row_build}
use Rattle.board_tests.proofs.Rows.{with_row_slots, held-written, still-whole}
use Rattle.board_tests.proofs.row_board.RowBoardBoard.set_held.Goals as goal

pub returns-in_err-test_held : goal.returns-in_err-test_held
returns-in_err-test_held c =
    stays row_build _ _ _ _ c.requires c.in_err-test_held.ensures c.from_residual.ensures.1

pub returns : goal.returns
returns c =
    let b : RowBoard = c.args.self.now in
    let p = held-passed (rows_of b) c.args.task c.args.core c.args.held c.in_ok-test_held.ensures in
    let on : c.args.core < 16 = omega (arith, p.on_cores, c.requires.sound.few_cores) in
    held-changes row_build b _ c.args.task c.args.core c.args.held c.requires c.in_ok-test_held.ensures
    (held-written b.tasks b.cores b.rows c.args.core p.on_cores (omega (arith, on, c.requires.serves.sixteen)) c.args.task c.args.held p.on_tasks (omega (arith, p.on_tasks, c.requires.sound.few_tasks, c.requires.serves.all_slots c.args.core on)))
    (still-whole b c.args.core (with_row_slots (row_at b.rows c.args.core) c.args.task c.args.held) c.requires.serves on refl (length-set (row_at b.rows c.args.core).slots c.args.task c.args.held))
    tt
