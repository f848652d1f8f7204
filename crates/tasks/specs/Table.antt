-- The table as a list of rows, and what adding a row comes to.
use Rattle.std.specs.Prelude.{ℕ, cond, List, [], ◌∷◌, ◌++◌, length, Some, None, Ok, Err, Option, Result, ◌==◌, nat_lt, slice_index_or}
use Rattle.board.specs.declared.fault.Refusal.{Refusal}
use Rattle.board.specs.declared.fault.Refusal.TheVariants.{NumberOutOfTurn, ValueOutOfBounds, BadName}
use Rattle.board.specs.declared.fault.Fault.{Fault}
use Rattle.board.specs.Refusals.{fault_at}
use Rattle.board.specs.Meaning.{most_tasks}
use Rattle.tasks.specs.declared.task.Task.{Task}
use Rattle.tasks.specs.declared.table.TaskTable.{TaskTable}
use Rattle.tasks.specs.Rows.{Row, row, row_of, rows_of, taken, good_weight}
use Rattle.tasks.specs.Names.{good_name}

abbrev pub rows : TaskTable → List Row
rows table = rows_of table.entries table.count

-- what stands for a task that the table does not have
abbrev pub no_row : Row
no_row = row 1 []

abbrev pub name_in : List Row → ℕ → List ℕ
name_in rs task = (slice_index_or rs task no_row).name

abbrev pub weight_in : List Row → ℕ → ℕ
weight_in rs task = (slice_index_or rs task no_row).weight

-- why a row cannot be added: it is not the next one or there is no room, its weight is out of bounds, its name is bad or repeated
abbrev pub push_why : List Row → ℕ → ℕ → List ℕ → Option Refusal
push_why rs task weight name =
    cond (task == length rs) (cond (nat_lt (length rs) most_tasks)
    (cond (good_weight weight)
    (cond (good_name name) (cond (taken name rs) (Some BadName) None)
    (Some BadName))
    (Some ValueOutOfBounds))
    (Some NumberOutOfTurn)) (Some NumberOutOfTurn)

-- the row itself, if it can be added
abbrev pub row_unless : Option Refusal → Row → Result Row Refusal
row_unless None new = Ok new
row_unless (Some why) new = Err why

abbrev pub row_seen : Result Task Refusal → Result Row Refusal
row_seen (Ok task) = Ok (row_of task)
row_seen (Err why) = Err why

abbrev pub answered : Option Refusal → Result (Unit {0}) Fault
answered None = Ok tt
answered (Some why) = Err (fault_at why 0)

abbrev pub push_answer : List Row → ℕ → ℕ → List ℕ → Result (Unit {0}) Fault
push_answer rs task weight name = answered (push_why rs task weight name)

abbrev pub unless_refused : Option Refusal → List Row → Row → List Row
unless_refused None rs new = rs ++ new ∷ []
unless_refused (Some why) rs new = rs

-- the rows afterwards
abbrev pub push_after : List Row → ℕ → ℕ → List ℕ → List Row
push_after rs task weight name = unless_refused (push_why rs task weight name) rs (row weight name)
