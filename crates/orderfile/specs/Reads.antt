-- What the reader answers, and what it leaves on the board and in the table.
use Rattle.std.specs.Prelude.{◌≡◌, ℕ, List, Ok, Err, Result}
use Rattle.board.specs.declared.fault.Fault.{Fault}
use Rattle.board.specs.Meaning.{Meaning, cleared}
use Rattle.board.specs.Boards.{Build, Good}
use Rattle.tasks.specs.Rows.{Row}
use Rattle.orders.specs.Reads.{Outcome, read_of, letter_of, board_of, rows_of}
use Rattle.orders.specs.Laws.{Lawful}

abbrev pub gave : Result ℕ Fault → Meaning → List Row → Outcome
gave (Ok letter) m rs = Ok (record { letter = letter; board = m; rows = rs })
gave (Err fault) m rs = Err fault

-- the records were read onto the board a, which became b; refused or not, the board can be cleared to what it was
pub record Filled {S : Type 0} (build : Build S) (a b : S) (rs : List Row) (outcome : Outcome) (r : Result ℕ Fault) : Type 0 where
  pub told : gave r (build.meaning b) rs ≡ outcome
  pub frame : cleared (build.meaning b) ≡ cleared (build.meaning a)
  pub good : Good build b
  pub keeps : build.kept a b

-- reading came to the outcome: the answer is its letter or its fault, board and table hold what the file says or are clear
pub record Read {S : Type 0} (build : Build S) (a b : S) (rs : List Row) (outcome : Outcome) (r : Result ℕ Fault) : Type 0 where
  pub told : r ≡ letter_of outcome
  pub left : build.meaning b ≡ board_of (build.meaning a) outcome
  pub listed : rs ≡ rows_of outcome
  pub good : Good build b
  pub keeps : build.kept a b

-- the file was read onto the board a, which became b; it is accepted just where it is the encoding of an order that the board can hold, and then that order stands there
pub record LawfullyRead {S : Type 0} (build : Build S) (a b : S) (file : List ℕ) (rs : List Row) (r : Result ℕ Fault) : Type 0 where
  pub read : Read build a b rs (read_of (build.meaning a) file) r
  pub lawful : Lawful (build.meaning a) file (gave r (build.meaning b) rs)
