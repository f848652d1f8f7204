-- The report's lines as bytes: 32 is the blank, 10 the end of a line.
use Rattle.std.specs.Prelude.{ℕ, zero, suc, ◌+◌, ◌-◌, ◌*◌, ◌/◌, ◌%◌, cond, List, [], ◌∷◌, ◌++◌, length, replicate, codes, decimal, ◌==◌, slice_index}
use Rattle.fairness.specs.Sums.{sum_to}
use Rattle.board.specs.declared.fault.Fault.{Fault}
use Rattle.board.specs.Refusals.{fault_text}
use Rattle.tasks.specs.Rows.{Row}
use Rattle.tasks.specs.Table.{name_in}

-- a text at the left of a field, or at its right; one that is longer than the field is left whole
abbrev pub left_in : ℕ → List ℕ → List ℕ
left_in width text = text ++ replicate (width - length text) 32

abbrev pub right_in : ℕ → List ℕ → List ℕ
right_in width text = replicate (width - length text) 32 ++ text

-- tenths of a percent, rounded down; 0 where there are no slots
abbrev pub tenths : ℕ → ℕ → ℕ
tenths total slots = cond (slots == 0) 0 (total * 1000 / slots)

-- as 50.0%
abbrev pub percent : ℕ → List ℕ
percent share = decimal (share / 10) ++ (codes "." ++ (decimal (share % 10) ++ codes "%"))

-- a task's name, its total, and its share of the slots of all cores
abbrev pub task_line : List ℕ → ℕ → ℕ → List ℕ
task_line name total slots = left_in 12 name ++ (right_in 6 (decimal total) ++ (right_in 8 (percent (tenths total slots)) ++ 10 ∷ []))

abbrev pub free_line : ℕ → List ℕ
free_line free = left_in 12 (codes "free") ++ (right_in 6 (decimal free) ++ 10 ∷ [])

-- the slots of all cores: what the tasks hold, and what is free
abbrev pub slots_of : List ℕ → ℕ → ℕ → ℕ
slots_of totals count free = free + sum_to count (λ task. slice_index totals task)

-- the lines of the tasks below the bound
abbrev pub task_lines : List Row → List ℕ → ℕ → ℕ → List ℕ
task_lines rows totals slots zero = []
task_lines rows totals slots (suc task) = task_lines rows totals slots task ++ task_line (name_in rows task) (slice_index totals task) slots

-- a report whose shares are of so many slots
abbrev pub share_lines : List Row → List ℕ → ℕ → ℕ → List ℕ
share_lines rows totals slots free = task_lines rows totals slots (length rows) ++ free_line free

-- the whole report
abbrev pub report_lines : List Row → List ℕ → ℕ → List ℕ
report_lines rows totals free = task_lines rows totals (slots_of totals (length rows) free) (length rows) ++ free_line free

-- the line of a refusal
abbrev pub refusal_line : Fault → List ℕ
refusal_line fault = fault_text fault ++ 10 ∷ []
