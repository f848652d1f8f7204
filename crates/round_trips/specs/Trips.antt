-- What is read and written again, and what is written and read again, is the same.
use Rattle.std.specs.Prelude.{◌≡◌, ℕ, ◌≤◌, cond, List, length, Some, None, Ok, Err, Option, Result, nat_lt}
use Rattle.board.specs.declared.fault.Fault.{Fault}
use Rattle.board.specs.declared.fault.Refusal.{Refusal}
use Rattle.board.specs.declared.fault.Refusal.TheVariants.{OutputTooShort}
use Rattle.board.specs.Refusals.{fault_at}
use Rattle.board.specs.Meaning.{Meaning, pair_count}
use Rattle.board.specs.Boards.{Build, Good}
use Rattle.tasks.specs.declared.table.TaskTable.{TaskTable}
use Rattle.tasks.specs.Rows.{Row}
use Rattle.tasks.specs.Table.{rows}
use Rattle.orders.specs.Encoding.{file_of}
use Rattle.orders.specs.Reads.{Outcome, read_of, board_of, rows_of}
use Rattle.orderfile.specs.Reads.{LawfullyRead}
use Rattle.order_writer.specs.Writing.{told, left, fronted}

-- an output that is too short for the file takes nothing of it
abbrev pub room_for : List ℕ → List ℕ → Option Refusal
room_for file out = cond (nat_lt (length out) (length file)) (Some OutputTooShort) None

-- a file that was accepted is written again byte for byte, where the output has room; a refused one is not written
abbrev pub Copied : List ℕ → List ℕ → List ℕ → Result ℕ Fault → Outcome → Type 0
Copied file before after r (Ok order) = (r ≡ told (room_for file before) (length file)) × (after ≡ left (room_for file before) file before)
Copied file before after r (Err fault) = (r ≡ Err fault) × (after ≡ before)

-- the file was read onto the board a, which became b, and written again into an output
pub record Rewritten {S : Type 0} (build : Build S) (a b : S) (file : List ℕ) (rs : List Row) (before after : List ℕ) (r : Result ℕ Fault) : Type 0 where
  -- board and table hold what the file says, or are clear
  pub filled : build.meaning b ≡ board_of (build.meaning a) (read_of (build.meaning a) file)
  pub listed : rs ≡ rows_of (read_of (build.meaning a) file)
  pub copied : Copied file before after r (read_of (build.meaning a) file)
  pub good : Good build b
  pub keeps : build.kept a b

-- the second board can hold all that the first has: their sizes are equal, it has pairs enough, and no capacity is beyond its greatest
pub record CanHold (second first : Meaning) : Type 0 where
  pub tasks : second.tasks ≡ first.tasks
  pub cores : second.cores ≡ first.cores
  pub pairs : pair_count first ≤ second.greatest_pairs
  pub capacities : (core : ℕ) → first.capacity core ≤ second.greatest_capacity core

-- the second board with the capacities, needs and slots of the first on it
abbrev pub carried : Meaning → Meaning → Meaning
carried second first = record {
  tasks = second.tasks;
  cores = second.cores;
  capacity = first.capacity;
  need = first.need;
  held = first.held;
  greatest_pairs = second.greatest_pairs;
  greatest_capacity = second.greatest_capacity;
}

-- where the second board can hold what was written, it holds the same, with the same letter and tasks
pub record Same (first second-before second-after : Meaning) (letter : ℕ) (rs second-rs : List Row) (r : Result ℕ Fault) : Type 0 where
  pub told : r ≡ Ok letter
  pub left : second-after ≡ carried second-before first
  pub listed : second-rs ≡ rs

-- what stands on the first board and in its table was written, and read from there onto the second board a, which became b, with its table
pub record Delivered {S : Type 0} (build : Build S) (first : Meaning) (letter : ℕ) (rs : List Row) (a b : S) (second-rs : List Row) (before after : List ℕ) (r : Result ℕ Fault) : Type 0 where
  pub written : after ≡ fronted (file_of letter rs first) before
  pub read : LawfullyRead build a b (file_of letter rs first) second-rs r
  pub same : CanHold (build.meaning a) first → Same first (build.meaning a) (build.meaning b) letter rs second-rs r

-- refused in writing, nothing is touched
abbrev pub Carried : {S : Type 0} (build : Build S) → Option Refusal → Meaning → ℕ → List Row → S → S → TaskTable → TaskTable → List ℕ → List ℕ → Result ℕ Fault → Type 0
Carried build (Some why) first letter rs a b table table-after before after r = (r ≡ Err (fault_at why 0)) × (b ≡ a) × (table-after ≡ table) × (after ≡ before)
Carried build None first letter rs a b table table-after before after r = Delivered build first letter rs a b (rows table-after) before after r
