-- What is known after each kind of record that was taken in.
use Rattle.std.proofs.Common.{◌≡◌, ℕ, ◌+◌, List, [], ◌∷◌, ◌++◌, length, Some, None, Ok, Err, Option, Result, sym, refl, ap, ◌∙◌, subst}
use Rattle.board.specs.declared.fault.Refusal.{Refusal}
use Rattle.board.specs.Meaning.{Sound, with_need, with_held, with_capacity}
use Rattle.board.specs.Outcomes.{after}
use Rattle.board.proofs.Changes.{set_need-sound, set_held-sound, set_capacity-sound}
use Rattle.board.proofs.Passed.{need-passed, held-passed, capacity-passed}
use Rattle.tasks.specs.Rows.{row}
use Rattle.tasks.specs.Table.{push_why, answered, unless_refused}
use Rattle.tasks.proofs.Steps.{Fresh, fresh}
use Rattle.records.specs.declared.kind.Kind.TheVariants as kind
use Rattle.records.specs.declared.fields.HeadLine.{HeadLine}
use Rattle.records.specs.declared.fields.CoreLine.{CoreLine}
use Rattle.records.specs.declared.fields.PairLine.{PairLine}
use Rattle.records.specs.Fields.{TaskSaid}
use Rattle.records.specs.Wire.{word_at}
use Rattle.sections.specs.declared.state.Section.TheVariants as section
use Rattle.sections.specs.declared.state.Reader.{Reader}
use Rattle.sections.specs.Letters.{head_test}
use Rattle.sections.specs.Turns.{accepted, head_fits, head_next, core_told, core_next, task_told, task_next, pair_told, pair_next, pair_left, end_told, end_next, end_left}
use Rattle.sections.specs.Turns as turns
use Rattle.sections.specs.Lines.{Said, head, core, task, need, slots, end, saying, at_slots}
use Rattle.orders.specs.Steps.{Reading, reading}
use Rattle.orders.proofs.Told.{never, HeadTold, head-told, CoreTold, core-told, TaskTold, task-told, PairTold, pair-told, end-told}
use Rattle.orders.proofs.Accepted.{step_to, step_in, took}

abbrev pub head_done : Reading → HeadLine → Reading
head_done s line = reading (head_next s.reader line) (s.seen + 1) s.board s.rows

pub record HeadTaken (s t : Reading) (body : List ℕ) : Type 0 where
  pub line : HeadLine
  pub told : HeadTold s.reader body line
  pub comes : t ≡ head_done s line

saying-head : (r : Result HeadLine Refusal) → saying (λ _. head) (accepted r) ≡ saying (λ _. head) r
saying-head (Ok found) = refl
saying-head (Err why) = refl

pub head-taken : (s t : Reading) (body : List ℕ) (at : ℕ) → step_in section.Head kind.Head s body at ≡ Ok t → HeadTaken s t body
head-taken s t body at e =
    let r = head_fits s.reader (head_test body) in
    let w = took (λ _. head) s t at s.reader (head_next s.reader) r (ap (step_to s at (turns.unless_refused r s.reader (head_next s.reader))) (sym (saying-head r)) ∙ e) in
    record { line = w.found; told = head-told s.reader body w.found w.says; comes = w.comes }

abbrev pub core_done : Reading → CoreLine → Reading
core_done s line = reading (core_next s.reader line) (s.seen + 1) (with_capacity s.board line.core line.capacity) s.rows

pub record CoreTaken (s t : Reading) (body : List ℕ) : Type 0 where
  pub line : CoreLine
  pub told : CoreTold s.reader body line
  pub comes : t ≡ core_done s line
  pub board : Sound s.board → Sound (core_done s line).board

pub core-taken : (s t : Reading) (body : List ℕ) (at : ℕ) → step_in section.Cores kind.Core s body at ≡ Ok t → CoreTaken s t body
core-taken s t body at e =
    let w = took core s t at s.reader (core_next s.reader) (core_told s.reader body) e in
    let line = w.found in
    let passed = capacity-passed s.board line.core line.capacity (sym w.told) in
    let changed = ap (after s.board) passed.comes in
    record {
      line = line;
      told = core-told s.reader body line w.says;
      comes = w.comes ∙ ap (λ b. reading (core_next s.reader line) (s.seen + 1) b s.rows) changed;
      board = λ sound. subst Sound changed (set_capacity-sound s.board line.core line.capacity sound);
    }

abbrev pub task_done : Reading → TaskSaid → Reading
task_done s line = reading (task_next s.reader line) (s.seen + 1) s.board (s.rows ++ row line.weight line.name ∷ [])

pub record TaskTaken (s t : Reading) (body : List ℕ) : Type 0 where
  pub line : TaskSaid
  pub told : TaskTold s.reader body line
  pub comes : t ≡ task_done s line
  pub new : Fresh s.rows line.task line.weight line.name

was-answered : (o : Option Refusal) → answered o ≡ Ok tt → o ≡ None
was-answered None e = refl
was-answered (Some why) e = never _ tt e

pub task-taken : (s t : Reading) (body : List ℕ) (at : ℕ) → step_in section.Tasks kind.Task s body at ≡ Ok t → TaskTaken s t body
task-taken s t body at e =
    let w = took task s t at s.reader (task_next s.reader) (task_told s.reader body) e in
    let line = w.found in
    let passed = was-answered (push_why s.rows line.task line.weight line.name) w.told in
    record {
      line = line;
      told = task-told s.reader body line w.says;
      comes = w.comes ∙ ap (λ o. reading (task_next s.reader line) (s.seen + 1) s.board (unless_refused o s.rows (row line.weight line.name))) passed;
      new = fresh s.rows line.task line.weight line.name (sym passed);
    }

abbrev pub need_done : Reading → PairLine → Reading
need_done s line = reading (pair_next s.reader line) (s.seen + 1) (with_need s.board line.task line.core line.amount) s.rows

pub record NeedTaken (s t : Reading) (body : List ℕ) : Type 0 where
  pub line : PairLine
  pub told : PairTold s.reader body line
  pub comes : t ≡ need_done s line
  pub board : Sound s.board → Sound (need_done s line).board

pub need-taken : (s t : Reading) (body : List ℕ) (at : ℕ) → step_in section.Needs kind.Need s body at ≡ Ok t → NeedTaken s t body
need-taken s t body at e =
    let w = took need s t at s.reader (pair_next s.reader) (pair_told s.reader body) e in
    let line = w.found in
    let passed = need-passed s.board line.task line.core line.amount (sym w.told) in
    let changed = ap (after s.board) passed.comes in
    record {
      line = line;
      told = pair-told s.reader body line w.says;
      comes = w.comes ∙ ap (λ b. reading (pair_next s.reader line) (s.seen + 1) b s.rows) changed;
      board = λ sound. subst Sound changed (set_need-sound s.board line.task line.core line.amount sound);
    }

abbrev pub slots_done : Reading → PairLine → Reading
slots_done s line = reading (pair_next s.reader line) (s.seen + 1) (with_held s.board line.task line.core line.amount) s.rows

pub record SlotsTaken (s t : Reading) (body : List ℕ) : Type 0 where
  pub line : PairLine
  pub told : PairTold s.reader body line
  pub comes : t ≡ slots_done s line
  pub board : Sound s.board → Sound (slots_done s line).board

pub slots-taken : (s t : Reading) (body : List ℕ) (at : ℕ) → step_in section.Slots kind.Slots s body at ≡ Ok t → SlotsTaken s t body
slots-taken s t body at e =
    let w = took slots s t at s.reader (pair_next s.reader) (pair_told s.reader body) e in
    let line = w.found in
    let passed = held-passed s.board line.task line.core line.amount (sym w.told) in
    let changed = ap (after s.board) passed.comes in
    record {
      line = line;
      told = pair-told s.reader body line w.says;
      comes = w.comes ∙ ap (λ b. reading (pair_next s.reader line) (s.seen + 1) b s.rows) changed;
      board = λ sound. subst Sound changed (set_held-sound s.board line.task line.core line.amount sound);
    }

-- the first slots are taken in as if their section had begun before them
abbrev pub slots_begun : Reading → Reading
slots_begun s = reading (at_slots s.reader) s.seen s.board s.rows

step-turned : (s : Reading) (at : ℕ) (left : Reader) (r : Result Said Refusal) → step_to (slots_begun s) at left r ≡ step_to s at left r
step-turned s at left (Ok said) = refl
step-turned s at left (Err why) = refl

pub first-slots-taken : (s t : Reading) (body : List ℕ) (at : ℕ) → step_in section.Needs kind.Slots s body at ≡ Ok t → SlotsTaken (slots_begun s) t body
first-slots-taken s t body at e = slots-taken (slots_begun s) t body at (step-turned s at (pair_left (at_slots s.reader) body) (saying slots (pair_told (at_slots s.reader) body)) ∙ e)

abbrev pub end_done : Reading → Reading
end_done s = reading (end_next s.reader tt) (s.seen + 1) s.board s.rows

pub record EndTaken (s t : Reading) (body : List ℕ) : Type 0 where
  pub size : length body ≡ 2
  pub count : word_at body 0 ≡ s.seen
  pub comes : t ≡ end_done s

pub end-taken : (s t : Reading) (body : List ℕ) (at : ℕ) → step_to s at (end_left s.reader s.seen body) (saying (λ _. end) (end_told s.seen body)) ≡ Ok t → EndTaken s t body
end-taken s t body at e =
    let w = took (λ _. end) s t at s.reader (end_next s.reader) (end_told s.seen body) e in
    let p = end-told s.seen body w.says in
    record { size = p.0; count = p.1; comes = w.comes }
