use Rattle.std.proofs.Common.{◌≡◌, ◌*◌, true, false, sym, ◌∙◌, subst, arith}
use Rattle.board.specs.Meaning.{Sound, sizes_allowed}
use Rattle.board.proofs.New.{allowed, new-sound, empty-sound}
use Rattle.board_tests.specs.Rows.{greatest}
use Rattle.board_tests.proofs.Rows.{all-zero, zero-whole}
use Rattle.board_tests.proofs.row_board.RowBoard.make.Goals as goal

pub returns-then-sizes_allowed : goal.returns-then-sizes_allowed
returns-then-sizes_allowed c =
    let n = c.args.n in
    let m = c.args.m in
    let yes-sizes : sizes_allowed n m ≡ true = sym c.sizes_allowed.ensures ∙ c.if-sizes_allowed.true in
    record {
      good = record { serves = zero-whole n m; sound = subst Sound (sym (all-zero n m)) (new-sound n m (n * m) greatest (allowed n m yes-sizes) (omega arith)) };
      means = rw yes-sizes (all-zero n m);
    }

pub returns-else-sizes_allowed : goal.returns-else-sizes_allowed
returns-else-sizes_allowed c =
    let no-sizes : sizes_allowed c.args.n c.args.m ≡ false = sym c.sizes_allowed.ensures ∙ c.if-sizes_allowed.false in
    record {
      good = record { serves = zero-whole 0 0; sound = subst Sound (sym (all-zero 0 0)) (empty-sound 0 greatest (omega arith)) };
      means = rw no-sizes (all-zero 0 0);
    }
