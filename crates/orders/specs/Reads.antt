-- What reading a whole file comes to.
use Rattle.std.specs.Prelude.{ℕ, zero, suc, ◌+◌, cond, List, [], length, Ok, Err, Result}
use Rattle.board.specs.declared.fault.Fault.{Fault}
use Rattle.board.specs.declared.fault.Refusal.TheVariants.{RecordCutShort}
use Rattle.board.specs.Refusals.{fault_at}
use Rattle.board.specs.Meaning.{Meaning, cleared}
use Rattle.tasks.specs.Rows.{Row}
use Rattle.records.specs.Cuts.{open_of, cut_at, finish_at}
use Rattle.sections.specs.Turns.{start, is_ended}
use Rattle.orders.specs.Steps.{then, Reading, reading, step}

-- what a file gives: the letter, the board that it fills and the rows of its tasks
pub record Order : Type 0 where
  pub letter : ℕ
  pub board : Meaning
  pub rows : List Row

-- the order that a file is, or the first thing that is wrong with it
abbrev pub Outcome : Type 0
Outcome = Result Order Fault

-- what the caller is told
abbrev pub letter_of : Outcome → Result ℕ Fault
letter_of (Ok order) = Ok order.letter
letter_of (Err fault) = Err fault

-- what stands on the board and in the table afterwards: refused, nothing
abbrev pub board_of : Meaning → Outcome → Meaning
board_of m (Ok order) = order.board
board_of m (Err fault) = cleared m

abbrev pub rows_of : Outcome → List Row
rows_of (Ok order) = order.rows
rows_of (Err fault) = []

-- nothing may follow the end
abbrev pub finished : Reading → List ℕ → ℕ → Result Reading Fault
finished s file at = then (finish_at file at) (λ _. Ok s)

-- the records from `at` on, front to back; there are more steps than bytes, and each record has four bytes at least, so the steps never run out
abbrev pub run : ℕ → Reading → List ℕ → ℕ → Result Reading Fault
run zero s file at = Err (fault_at RecordCutShort at)
run (suc steps) s file at =
    cond (is_ended s.reader.section) (finished s file at)
    (then (cut_at file at) (λ cut. then (step s cut) (λ next. run steps next file (at + 4 + length cut.body))))

-- before the first record
abbrev pub before : Meaning → List Row → Reading
before m rs = reading (start m.tasks m.cores) 0 m rs

abbrev pub run_from : Meaning → List Row → List ℕ → Result Reading Fault
run_from m rs file = then (open_of file) (λ walk. run (suc (length file)) (before m rs) walk.file walk.at)

abbrev pub order_of : Result Reading Fault → Outcome
order_of (Ok s) = Ok (record { letter = s.reader.letter; board = s.board; rows = s.rows })
order_of (Err fault) = Err fault

-- what a file gives on a board with this meaning, whatever was on it before
abbrev pub read_of : Meaning → List ℕ → Outcome
read_of m file = order_of (run_from (cleared m) [] file)
