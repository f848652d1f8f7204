-- What a table board means, what its memory must be like, and whose it is.
use Rattle.std.specs.Prelude.{◌≡◌, refl, ℕ, ◌*◌, ◌≤◌, cond, List, length, drop}
use Rattle.std.specs.Borrow.{MutBor}
use Rattle.std.proofs.Common.{◌∙◌}
use Rattle.board.specs.Meaning.{Meaning, most_slots, new_board}
use Rattle.board.specs.Boards.{Build, Keeping, Good}
use Rattle.table_board.specs.Cells.{numbers, table_fits, table}
use Rattle.table_board.specs.declared.TableBoard.{TableBoard}

abbrev pub table_of : TableBoard → Meaning
table_of board = table board.tasks board.cores board.cells.now

-- how many numbers of its memory the board takes; the empty board takes none
abbrev pub taken : TableBoard → ℕ
taken board = numbers board.tasks board.cores

-- its memory is long enough
abbrev pub Long : TableBoard → Type 0
Long board = taken board ≤ length board.cells.now

-- b lies in the memory of a, and the numbers past it are as they were
pub record Untouched (a b : TableBoard) : Type 0 where
  pub whose : b.cells.ghost_name ≡ a.cells.ghost_name
  pub past : drop (taken a) b.cells.now ≡ drop (taken a) a.cells.now
  pub same_tasks : b.tasks ≡ a.tasks
  pub same_cores : b.cores ≡ a.cores

-- what is untouched over any number of calls is untouched
pub untouched-keeps : Keeping Untouched
untouched-keeps = record {
  same = λ a. record { whose = refl; past = refl; same_tasks = refl; same_cores = refl };
  onward = λ a b c p q. record {
    whose = q.whose ∙ p.whose;
    past = rw (p.same_tasks, p.same_cores) at q.past ∙ p.past;
    same_tasks = q.same_tasks ∙ p.same_tasks;
    same_cores = q.same_cores ∙ p.same_cores;
  };
}

-- how such a board is read
abbrev pub table_build : Build TableBoard
table_build = record { meaning = table_of; ready = Long; kept = Untouched; keeping = untouched-keeps }

-- a board just made: clear where it can be made, and else empty; it lies in the lent memory, and the numbers past it are as they were
pub record Made (n m : ℕ) (lent : MutBor (List ℕ)) (board : TableBoard) : Type 0 where
  pub good : Good table_build board
  pub means : table_of board ≡ cond (table_fits n m (length lent.now)) (new_board n m (n * m) most_slots) (new_board 0 0 0 most_slots)
  pub whose : board.cells.ghost_name ≡ lent.ghost_name
  pub past : drop (taken board) board.cells.now ≡ drop (taken board) lent.now
