use Rattle.std.proofs.Common.{◌<◌, refl, arith}
use Rattle.board.proofs.Passed.{capacity-passed, capacity-changes}
use Rattle.board_tests.specs.declared.row_board.RowBoard.{RowBoard}
use Rattle.board_tests.specs.Rows.{row_at, rows_of, row_build}
use Rattle.board_tests.proofs.Rows.{with_row_capacity, capacity-written, still-whole}
use Rattle.board_tests.proofs.row_board.RowBoardBoard.set_capacity.Goals as goal

pub returns : goal.returns
returns c =
    let b : RowBoard = c.args.self.now in
    let p = capacity-passed (rows_of b) c.args.core c.args.capacity c.in_ok-test_capacity.ensures in
    let on : c.args.core < 16 = omega (arith, p.on_cores, c.requires.sound.few_cores) in
    capacity-changes row_build b _ c.args.core c.args.capacity c.requires c.in_ok-test_capacity.ensures
    (capacity-written b.tasks b.cores b.rows c.args.core p.on_cores (omega (arith, on, c.requires.serves.sixteen)) c.args.capacity)
    (still-whole b c.args.core (with_row_capacity (row_at b.rows c.args.core) c.args.capacity) c.requires.serves on refl refl)
    tt
