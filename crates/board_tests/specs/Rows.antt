-- What a board of rows means, and what its rows must be like.
use Rattle.std.specs.Prelude.{◌≡◌, ℕ, ◌*◌, ◌<◌, cond, ◌&&◌, List, [], length, nat_lt, slice_index, slice_index_or}
use Rattle.board.specs.Meaning.{Meaning, new_board, sizes_allowed}
use Rattle.board.specs.Boards.{Build, Keeping, Good}
use Rattle.board_tests.specs.declared.row_board.Row.{Row}
use Rattle.board_tests.specs.declared.row_board.RowBoard.{RowBoard}

abbrev pub greatest : ℕ
greatest = 400

abbrev pub blank : Row
blank = record { capacity = 0; needs = []; slots = [] }

abbrev pub row_at : List Row → ℕ → Row
row_at rows core = slice_index_or rows core blank

abbrev pub rows_for : ℕ → ℕ → List Row → Meaning
rows_for n m rows = record {
  tasks = n;
  cores = m;
  capacity = λ core. cond (nat_lt core m) (row_at rows core).capacity 0;
  need = λ task core. cond (nat_lt task n && nat_lt core m) (slice_index (row_at rows core).needs task) 0;
  held = λ task core. cond (nat_lt task n && nat_lt core m) (slice_index (row_at rows core).slots task) 0;
  greatest_pairs = n * m;
  greatest_capacity = λ core. cond (nat_lt core m) greatest 0;
}

abbrev pub rows_of : RowBoard → Meaning
rows_of board = rows_for board.tasks board.cores board.rows

-- 16 rows of 64 tasks
pub record Whole (board : RowBoard) : Type 0 where
  pub sixteen : length board.rows ≡ 16
  pub all_needs : (core : ℕ) → core < 16 → length (row_at board.rows core).needs ≡ 64
  pub all_slots : (core : ℕ) → core < 16 → length (row_at board.rows core).slots ≡ 64

-- the meaning shows all that a board of rows is
abbrev pub Anyhow : RowBoard → RowBoard → Type 0
Anyhow a b = Unit {0}

pub anyhow-keeps : Keeping Anyhow
anyhow-keeps = record { same = λ _. tt; onward = λ _ _ _ _ _. tt }

-- how a board of rows is read
abbrev pub row_build : Build RowBoard
row_build = record { meaning = rows_of; ready = Whole; kept = Anyhow; keeping = anyhow-keeps }

pub record Made (n m : ℕ) (board : RowBoard) : Type 0 where
  pub good : Good row_build board
  pub means : rows_of board ≡ cond (sizes_allowed n m) (new_board n m (n * m) greatest) (new_board 0 0 0 greatest)
