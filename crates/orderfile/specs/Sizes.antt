-- What the first record of a file tells of its sizes.
use Rattle.std.specs.Prelude.{◌≡◌, ℕ, List, Ok, Err, Result}
use Rattle.board.specs.declared.fault.Fault.{Fault}
use Rattle.board.specs.declared.fault.Refusal.{Refusal}
use Rattle.board.specs.declared.fault.Refusal.TheVariants.{KindOutOfTurn}
use Rattle.board.specs.Refusals.{fault_at}
use Rattle.board.specs.Meaning.{Meaning}
use Rattle.records.specs.declared.kind.Kind.{Kind}
use Rattle.records.specs.declared.kind.Kind.TheVariants as kind
use Rattle.records.specs.declared.fields.HeadLine.{HeadLine}
use Rattle.records.specs.Cuts.{open_of, cut_at}
use Rattle.sections.specs.Letters.{head_test}
use Rattle.orders.specs.Steps.{then}
use Rattle.orders.specs.Reads.{read_of}

abbrev pub sizes_in : ℕ → Result HeadLine Refusal → Result (ℕ × ℕ × ℕ) Fault
sizes_in place (Ok head) = Ok (head.letter, head.tasks, head.cores)
sizes_in place (Err why) = Err (fault_at why place)

abbrev pub sizes_by : Kind → ℕ → List ℕ → Result (ℕ × ℕ × ℕ) Fault
sizes_by kind.Head place body = sizes_in place (head_test body)
sizes_by kind.Core place body = Err (fault_at KindOutOfTurn place)
sizes_by kind.Task place body = Err (fault_at KindOutOfTurn place)
sizes_by kind.Need place body = Err (fault_at KindOutOfTurn place)
sizes_by kind.Slots place body = Err (fault_at KindOutOfTurn place)
sizes_by kind.End place body = Err (fault_at KindOutOfTurn place)

-- the file's letter, tasks and cores by its first record, or why that is no head
abbrev pub sizes_of : List ℕ → Result (ℕ × ℕ × ℕ) Fault
sizes_of file = then (open_of file) (λ walk. then (cut_at walk.file walk.at) (λ cut. sizes_by cut.kind cut.place cut.body))

-- a file whose sizes are refused is refused with the same fault in reading, onto any board
abbrev pub SizesRefusedAsRead : Type 0
SizesRefusedAsRead = (m : Meaning) (file : List ℕ) (fault : Fault) → sizes_of file ≡ Err fault → read_of m file ≡ Err fault
