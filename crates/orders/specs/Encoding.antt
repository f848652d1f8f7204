-- The one file that says an order: its records, and their bytes.
use Rattle.std.specs.Prelude.{ℕ, zero, suc, cond, List, [], ◌∷◌, ◌++◌, length, nat_lt}
use Rattle.fairness.specs.Plans.{Plan}
use Rattle.board.specs.Meaning.{Meaning}
use Rattle.records.specs.declared.kind.Kind.{Kind}
use Rattle.records.specs.declared.kind.Kind.TheVariants.{Head, Core, Task, Need, Slots, End}
use Rattle.records.specs.Wire.{word, record_bytes}
use Rattle.tasks.specs.Rows.{Row}
use Rattle.tasks.specs.Table.{name_in, weight_in}

-- a record by its kind and body
pub record Line : Type 0 where
  pub kind : Kind
  pub body : List ℕ

abbrev pub line : Kind → List ℕ → Line
line kind body = record { kind = kind; body = body }

abbrev pub bytes_of : List Line → List ℕ
bytes_of [] = []
bytes_of (first ∷ rest) = record_bytes first.kind first.body ++ bytes_of rest

-- the lines for 0, 1 and so on below a bound, one after another
abbrev pub each : ℕ → (ℕ → List Line) → List Line
each zero lines = []
each (suc n) lines = each n lines ++ lines n

abbrev pub head_line : ℕ → ℕ → ℕ → List Line
head_line letter tasks cores = line Head (letter ∷ tasks ∷ cores ∷ []) ∷ []

abbrev pub core_line : (ℕ → ℕ) → ℕ → List Line
core_line capacity core = line Core (core ∷ word (capacity core)) ∷ []

abbrev pub task_line : List Row → ℕ → List Line
task_line rows task = line Task (task ∷ weight_in rows task ∷ name_in rows task) ∷ []

-- a pair has a line only where its amount is above 0
abbrev pub pair_line : Kind → ℕ → ℕ → ℕ → List Line
pair_line kind task core amount = cond (nat_lt 0 amount) (line kind (task ∷ core ∷ word amount) ∷ []) []

-- the lines of a task's pairs, rising by core
abbrev pub task_pairs : Kind → ℕ → Plan → ℕ → List Line
task_pairs kind cores amounts task = each cores (λ core. pair_line kind task core (amounts task core))

abbrev pub pair_lines : Kind → ℕ → ℕ → Plan → List Line
pair_lines kind tasks cores amounts = each tasks (task_pairs kind cores amounts)

-- all that an order says: head, cores, tasks, needs, slots held
abbrev pub order_lines : ℕ → ℕ → (ℕ → ℕ) → List Row → Plan → Plan → List Line
order_lines letter cores capacity rows needs slots =
    head_line letter (length rows) cores ++ (each cores (core_line capacity) ++ (each (length rows) (task_line rows)
    ++ (pair_lines Need (length rows) cores needs ++ pair_lines Slots (length rows) cores slots)))

-- the last line tells how many stand before it
abbrev pub with_end : List Line → List Line
with_end lines = lines ++ line End (word (length lines)) ∷ []

abbrev pub encode : ℕ → ℕ → (ℕ → ℕ) → List Row → Plan → Plan → List ℕ
encode letter cores capacity rows needs slots = bytes_of (with_end (order_lines letter cores capacity rows needs slots))

-- the file of what a board and a task table hold
abbrev pub file_of : ℕ → List Row → Meaning → List ℕ
file_of letter rows m = encode letter m.cores m.capacity rows m.need m.held
