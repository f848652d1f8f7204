-- How a board of n tasks and m cores lies in a list of numbers.
use Rattle.std.specs.Prelude.{◌≡◌, ℕ, ◌+◌, ◌*◌, ◌<◌, Bool, cond, ◌&&◌, List, length, drop, nat_le, nat_lt, slice_index}
use Rattle.fairness.specs.Plans.{Plan}
use Rattle.board.specs.Meaning.{Meaning, most_slots, sizes_allowed}

-- how many numbers the board takes
abbrev pub numbers : ℕ → ℕ → ℕ
numbers n m = 2 * (n * m) + m

-- whether a board can be made in a memory so long
abbrev pub table_fits : ℕ → ℕ → ℕ → Bool
table_fits n m long = sizes_allowed n m && nat_le (numbers n m) long

-- a number for each task and core, task by task from a place on; 0 for a task or a core that the board does not have
abbrev pub grid : ℕ → ℕ → List ℕ → ℕ → Plan
grid n m cells from task core = cond (nat_lt task n && nat_lt core m) (slice_index cells (from + (task * m + core))) 0

-- the needs, then the slots held, then the capacities
abbrev pub table : ℕ → ℕ → List ℕ → Meaning
table n m cells = record {
  tasks = n;
  cores = m;
  capacity = λ core. cond (nat_lt core m) (slice_index cells (2 * (n * m) + core)) 0;
  need = grid n m cells 0;
  held = grid n m cells (n * m);
  greatest_pairs = n * m;
  greatest_capacity = λ core. cond (nat_lt core m) most_slots 0;
}

-- the first numbers are 0, and those past them are as they were
pub record Wiped (count : ℕ) (before after : List ℕ) : Type 0 where
  pub zero : (at : ℕ) → at < count → slice_index after at ≡ 0
  pub past : drop count after ≡ drop count before
  pub long : length after ≡ length before
