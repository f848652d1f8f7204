-- A file whose sizes are refused is refused with the same fault in reading: both put the head to the same tests, in the same order.
use Rattle.std.proofs.Common.{◌≡◌, ℕ, suc, ◌+◌, [], length, Ok, Err, Result, ap, subst}
use Rattle.board.specs.declared.fault.Fault.{Fault}
use Rattle.board.specs.declared.fault.Refusal.{Refusal}
use Rattle.board.specs.Meaning.{Meaning, cleared}
use Rattle.records.specs.declared.kind.Kind.{Kind}
use Rattle.records.specs.declared.kind.Kind.TheVariants as kind
use Rattle.records.specs.declared.fields.HeadLine.{HeadLine}
use Rattle.records.specs.Cuts.{Cut, Walk, open_of, cut_at}
use Rattle.sections.specs.declared.state.Section.TheVariants.{Head}
use Rattle.sections.specs.Letters.{head_test}
use Rattle.sections.specs.Turns.{head_fits, accepted}
use Rattle.sections.specs.Lines.{head, saying, line_in}
use Rattle.orders.specs.Steps.{then, Reading, step, step_said}
use Rattle.orders.specs.Reads.{order_of, run, before}
use Rattle.orderfile.specs.Sizes.{sizes_in, sizes_by, SizesRefusedAsRead}

-- the fault of one refusal, as that of an answer of another kind
pub same-fault : {A B : Type 0} (a b : Fault) → ◌≡◌ {A = Result A Fault} (Err a) (Err b) → ◌≡◌ {A = Result B Fault} (Err a) (Err b)
same-fault {A} {B} a b e = ap (λ (r : Result A Fault). elim r [ Ok _ ↦ Err a | Err f ↦ Err f ]) e

-- what a test of the head refuses, reading refuses
pub head-refused : (tested : Result HeadLine Refusal) (s : Reading) (cut : Cut) (next : Reading → Result Reading Fault) (fault : Fault) → sizes_in cut.place tested ≡ Err fault
    → order_of (then (step_said s cut (saying (λ _. head) (accepted (head_fits s.reader tested)))) next) ≡ Err fault
head-refused (Err why) s cut next fault e = same-fault _ _ e
head-refused (Ok line) s cut next fault e = absurd (subst IsOk e tt)
  where
    IsOk : Result (ℕ × ℕ × ℕ) Fault → Type 0
    IsOk (Ok told) = Unit {0}
    IsOk (Err f) = ⊥

-- and so is a record of another kind
pub kind-refused : (k : Kind) (s : Reading) (cut : Cut) (next : Reading → Result Reading Fault) (fault : Fault) → sizes_by k cut.place cut.body ≡ Err fault
    → order_of (then (step_said s cut (line_in Head k s.reader s.seen cut.body)) next) ≡ Err fault
kind-refused kind.Head s cut next fault e = head-refused (head_test cut.body) s cut next fault e
kind-refused kind.Core s cut next fault e = same-fault _ _ e
kind-refused kind.Task s cut next fault e = same-fault _ _ e
kind-refused kind.Need s cut next fault e = same-fault _ _ e
kind-refused kind.Slots s cut next fault e = same-fault _ _ e
kind-refused kind.End s cut next fault e = same-fault _ _ e

pub first-refused : (first : Result Cut Fault) (m : Meaning) (next : Cut → Reading → Result Reading Fault) (fault : Fault)
    → then first (λ cut. sizes_by cut.kind cut.place cut.body) ≡ Err fault → order_of (then first (λ cut. then (step (before m []) cut) (next cut))) ≡ Err fault
first-refused (Err f) m next fault e = same-fault _ _ e
first-refused (Ok cut) m next fault e = kind-refused cut.kind (before m []) cut (next cut) fault e

pub walk_refused : (opened : Result Walk Fault) (m : Meaning) (steps : ℕ) (fault : Fault)
    → then opened (λ walk. then (cut_at walk.file walk.at) (λ cut. sizes_by cut.kind cut.place cut.body)) ≡ Err fault
    → order_of (then opened (λ walk. run (suc steps) (before m []) walk.file walk.at)) ≡ Err fault
walk_refused (Err f) m steps fault e = same-fault _ _ e
walk_refused (Ok walk) m steps fault e =
    first-refused (cut_at walk.file walk.at) m (λ cut next. run steps next walk.file (walk.at + 4 + length cut.body)) fault e

pub sizes-refused-as-read : SizesRefusedAsRead
sizes-refused-as-read m file fault e = walk_refused (open_of file) (cleared m) (length file) fault e
