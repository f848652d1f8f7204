-- What one record does to a board and a task table.
use Rattle.std.specs.Prelude.{ℕ, ◌+◌, List, Ok, Err, Result}
use Rattle.board.specs.declared.fault.Fault.{Fault}
use Rattle.board.specs.declared.fault.Refusal.{Refusal}
use Rattle.board.specs.Refusals.{fault_at}
use Rattle.board.specs.Meaning.{Meaning}
use Rattle.board.specs.Outcomes.{answered, after, set_need, set_held, set_capacity}
use Rattle.tasks.specs.Rows.{Row}
use Rattle.tasks.specs.Table.{push_answer, push_after}
use Rattle.records.specs.Cuts.{Cut}
use Rattle.sections.specs.declared.state.Reader.{Reader}
use Rattle.sections.specs.Lines.{Said, head, core, task, need, slots, end, line_of, line_left}

-- what comes after an accepted step; a fault ends all
abbrev pub then : {A B : Type 0} → Result A Fault → (A → Result B Fault) → Result B Fault
then (Ok found) next = next found
then (Err fault) next = Err fault

-- the answer of the board or the table
abbrev pub told_by : Said → Meaning → List Row → Result (Unit {0}) Fault
told_by head m rs = Ok tt
told_by (core line) m rs = answered (set_capacity m line.core line.capacity)
told_by (task line) m rs = push_answer rs line.task line.weight line.name
told_by (need line) m rs = answered (set_need m line.task line.core line.amount)
told_by (slots line) m rs = answered (set_held m line.task line.core line.amount)
told_by end m rs = Ok tt

-- the board afterwards
abbrev pub board_by : Said → Meaning → Meaning
board_by head m = m
board_by (core line) m = after m (set_capacity m line.core line.capacity)
board_by (task line) m = m
board_by (need line) m = after m (set_need m line.task line.core line.amount)
board_by (slots line) m = after m (set_held m line.task line.core line.amount)
board_by end m = m

-- the rows afterwards
abbrev pub rows_by : Said → List Row → List Row
rows_by head rs = rs
rows_by (core line) rs = rs
rows_by (task line) rs = push_after rs line.task line.weight line.name
rows_by (need line) rs = rs
rows_by (slots line) rs = rs
rows_by end rs = rs

-- all that is known when some records have been read
pub record Reading : Type 0 where
  pub reader : Reader
  pub seen : ℕ
  pub board : Meaning
  pub rows : List Row

abbrev pub reading : Reader → ℕ → Meaning → List Row → Reading
reading reader seen board rows = record { reader = reader; seen = seen; board = board; rows = rows }

abbrev pub step_done : Result (Unit {0}) Fault → ℕ → Reading → Result Reading Fault
step_done (Ok _) place next = Ok next
step_done (Err fault) place next = Err (fault_at fault.refusal place)

abbrev pub step_said : Reading → Cut → Result Said Refusal → Result Reading Fault
step_said s cut (Err why) = Err (fault_at why cut.place)
step_said s cut (Ok said) = step_done (told_by said s.board s.rows) cut.place (reading (line_left s.reader s.seen cut) (s.seen + 1) (board_by said s.board) (rows_by said s.rows))

-- what is known after one more record, or why it is refused
abbrev pub step : Reading → Cut → Result Reading Fault
step s cut = step_said s cut (line_of s.reader s.seen cut)
