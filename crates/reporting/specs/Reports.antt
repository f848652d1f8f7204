-- What the report of an order file says.
use Rattle.std.specs.Prelude.{◌≡◌, ℕ, ◌*◌, ◌<◌, min, cond, List, length, Ok, Err, Result, String, string_bytes, slice_index}
use Rattle.fairness.specs.Sums.{sum_to}
use Rattle.fairness.specs.Plans as plans
use Rattle.fairness.specs.Laws.{Comparison}
use Rattle.board.specs.Meaning.{Meaning, planned, free_slots, new_board, most_slots}
use Rattle.std.specs.declared.alloc.Global.{Global}
use Rattle.letters.specs.Letters.{ByLetter}
use Rattle.pair_board.specs.Pairs.{pair_fits}
use Rattle.tasks.specs.Rows.{Row}
use Rattle.tasks.specs.Table.{name_in}
use Rattle.orders.specs.Steps.{then}
use Rattle.orderfile.specs.Sizes.{sizes_of}
use Rattle.orders.specs.Reads.{Outcome, read_of}
use Rattle.levelling.specs.Levelled.{FairestOn}
use Rattle.plan.specs.Plans.{Totals}
use Rattle.reporting.specs.declared.NoPlan.{NoPlan}
use Rattle.reporting.specs.declared.NoPlan.TheVariants.{Refused, OutOfMemory}
use Rattle.reporting.specs.declared.Report.{Report}
use Rattle.reporting.specs.declared.Report.TheVariants.{Plan, Refusal}
use Rattle.summary.specs.Lines.{task_line, free_line, report_lines, share_lines, refusal_line}

-- the pair board that is made for n tasks and m cores in 1,024 entries
abbrev pub board_for : ℕ → ℕ → Meaning
board_for n m = cond (pair_fits n m 1024) (new_board n m (min 1024 (n * m)) most_slots) (new_board 0 0 0 most_slots)

-- what a file gives on a board of its own tasks and cores: an order, or the first fault
abbrev pub outcome_of : List ℕ → Outcome
outcome_of file = then (sizes_of file) (λ told. read_of (board_for told.1 told.2) file)

-- the slots of all cores together
abbrev pub capacities : Meaning → ℕ
capacities m = sum_to m.cores m.capacity

-- each task's line has 12 places for the name, 6 for the total, 8 for the share and the line's end; the last line likewise, without a share
pub record Aligned (rows : List Row) (totals : List ℕ) (slots free : ℕ) : Type 0 where
  pub tasks : (task : ℕ) → task < length rows → length (task_line (name_in rows task) (slice_index totals task) slots) ≡ 27
  pub last : length (free_line free) ≡ 19

-- the text shows a plan that is fairest for the needs and capacities of a board
pub record Shown (compare : Comparison) (m : Meaning) (rows : List Row) (text : List ℕ) : Type 0 where
  pub held : plans.Plan
  pub fairest : FairestOn compare (planned m held)
  pub totals : List ℕ
  pub listed : Totals (planned m held) totals
  pub reads : text ≡ report_lines rows totals (free_slots (planned m held))
  -- shares are of the sum of all capacities
  pub shares : text ≡ share_lines rows totals (capacities m) (free_slots (planned m held))
  pub aligned : Aligned rows totals (capacities m) (free_slots (planned m held))

-- the same under the rule of the letter, with the weights of the task table
abbrev pub ShownBy : ℕ → Meaning → List Row → List ℕ → Type 0
ShownBy letter m rows text = ByLetter letter rows (λ compare. Shown compare m rows text)

-- not a refusal
abbrev pub WantOfMemory : NoPlan → Type 0
WantOfMemory (Refused fault) = ⊥
WantOfMemory (OutOfMemory want) = Unit {0}

-- what a file came to: the text of its plan, the fault that it is refused for, or want of memory for the text
abbrev pub PlanTold : Outcome → Result (String Global) NoPlan → Type 0
PlanTold (Ok order) (Ok text) = ShownBy order.letter order.board order.rows (string_bytes text)
PlanTold (Ok order) (Err why) = WantOfMemory why
PlanTold (Err fault) r = r ≡ Err (Refused fault)

-- a file that gives an order is answered with its plan, and any other with the line of its fault
abbrev pub Reported : Outcome → Report → Type 0
Reported (Ok order) (Plan text) = ShownBy order.letter order.board order.rows (string_bytes text)
Reported (Ok order) (Refusal line) = ⊥
Reported (Err fault) (Plan text) = ⊥
Reported (Err fault) (Refusal line) = string_bytes line ≡ refusal_line fault
