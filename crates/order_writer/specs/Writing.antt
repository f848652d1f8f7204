-- What writing answers, and what it leaves in the output.
use Rattle.std.specs.Prelude.{◌≡◌, ℕ, ◌+◌, ◌≤◌, cond, not, ◌||◌, List, ◌++◌, length, take, drop, Some, None, Ok, Err, Option, Result, ◌==◌, nat_lt}
use Rattle.board.specs.declared.fault.Refusal.{Refusal}
use Rattle.board.specs.declared.fault.Refusal.TheVariants.{ValueOutOfBounds, SizesDiffer, OutputTooShort}
use Rattle.board.specs.declared.fault.Fault.{Fault}
use Rattle.board.specs.Refusals.{fault_at}
use Rattle.board.specs.Meaning.{Meaning}
use Rattle.sections.specs.declared.letter.Sharing.{Sharing}
use Rattle.sections.specs.Letters.{sharing_of}
use Rattle.tasks.specs.Rows.{Row}
use Rattle.orders.specs.Encoding.{file_of}

abbrev pub lettered : Option Sharing → Option Refusal → Option Refusal
lettered None later = Some ValueOutOfBounds
lettered (Some sharing) later = later

-- why there is no file: the letter is unknown, the table has not the board's tasks or the board is empty, the output is too short
abbrev pub write_why : ℕ → List Row → Meaning → ℕ → Option Refusal
write_why letter rows m room =
    lettered (sharing_of letter)
    (cond (not (length rows == m.tasks) || m.tasks == 0) (Some SizesDiffer)
    (cond (nat_lt room (length (file_of letter rows m))) (Some OutputTooShort) None))

abbrev pub told : Option Refusal → ℕ → Result ℕ Fault
told None length = Ok length
told (Some why) length = Err (fault_at why 0)

-- the output with the bytes at its front, and all behind them as it was
abbrev pub fronted : List ℕ → List ℕ → List ℕ
fronted bytes out = bytes ++ drop (length bytes) out

abbrev pub left : Option Refusal → List ℕ → List ℕ → List ℕ
left None bytes out = fronted bytes out
left (Some why) bytes out = out

-- the order of a board and a table was written into an output, or refused: the answer, and what the output holds afterwards
pub record Written (letter : ℕ) (rows : List Row) (m : Meaning) (before after : List ℕ) (r : Result ℕ Fault) : Type 0 where
  pub told : r ≡ told (write_why letter rows m (length before)) (length (file_of letter rows m))
  pub left : after ≡ left (write_why letter rows m (length before)) (file_of letter rows m) before

-- the output with the bytes in place of those from `at` on
abbrev pub pasted : List ℕ → ℕ → List ℕ → List ℕ
pasted out at bytes = take at out ++ (bytes ++ drop (at + length bytes) out)

-- the bytes belong at `at` and end at `next`; where the output reaches so far, they stand there and all else is as it was
pub record Put (before after : List ℕ) (at next : ℕ) (bytes : List ℕ) : Type 0 where
  pub onward : next ≡ at + length bytes
  pub fits : next ≤ length before → after ≡ pasted before at bytes
  pub size : length after ≡ length before
