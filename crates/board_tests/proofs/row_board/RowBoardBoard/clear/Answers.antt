use Rattle.board.proofs.Passed.{clears}
use Rattle.board_tests.specs.declared.row_board.RowBoard.{RowBoard}
use Rattle.board_tests.specs.Rows.{row_build}
use Rattle.board_tests.proofs.Rows.{all-zero, zero-whole}
use Rattle.board_tests.proofs.row_board.RowBoardBoard.clear.Goals as goal

pub returns : goal.returns
returns c =
    let b : RowBoard = c.args.self.now in
    clears row_build b _ c.requires (all-zero b.tasks b.cores) (zero-whole b.tasks b.cores) tt
