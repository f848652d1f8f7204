-- A step that is accepted, by the section that the reader has reached.
use Rattle.std.proofs.Common.{◌≡◌, ℕ, ◌+◌, List, Ok, Err, Result, sym, refl}
use Rattle.board.specs.declared.fault.Fault.{Fault}
use Rattle.board.specs.declared.fault.Refusal.{Refusal}
use Rattle.board.specs.Refusals.{fault_at}
use Rattle.records.specs.declared.kind.Kind.{Kind}
use Rattle.records.specs.Cuts.{Cut}
use Rattle.sections.specs.declared.state.Section.{Section}
use Rattle.sections.specs.declared.state.Reader.{Reader}
use Rattle.sections.specs.Turns as turns
use Rattle.sections.specs.Lines.{Said, saying, line_in, left_in, line_left}
use Rattle.orders.specs.Steps.{Reading, reading, told_by, board_by, rows_by, step_done, step_said, step}
use Rattle.orders.proofs.Told.{never, ok_same}

-- a step by what the record says and how far the file is read with it
abbrev pub step_to : Reading → ℕ → Reader → Result Said Refusal → Result Reading Fault
step_to s at left (Ok said) = step_done (told_by said s.board s.rows) at (reading left (s.seen + 1) (board_by said s.board) (rows_by said s.rows))
step_to s at left (Err why) = Err (fault_at why at)

-- a step by the section that the reader has reached
abbrev pub step_in : Section → Kind → Reading → List ℕ → ℕ → Result Reading Fault
step_in section kind s body at = step_to s at (left_in section kind s.reader s.seen body) (line_in section kind s.reader s.seen body)

step-to : (s : Reading) (cut : Cut) (r : Result Said Refusal) → step_said s cut r ≡ step_to s cut.place (line_left s.reader s.seen cut) r
step-to s cut (Ok said) = refl
step-to s cut (Err why) = refl

pub step_in-section : (s : Reading) (cut : Cut) → step s cut ≡ step_in s.reader.section cut.kind s cut.body cut.place
step_in-section s cut = step-to s cut (line_in s.reader.section cut.kind s.reader s.seen cut.body)

was-done : (r : Result (Unit {0}) Fault) (at : ℕ) (next t : Reading) → step_done r at next ≡ Ok t → (r ≡ Ok tt) × (t ≡ next)
was-done (Ok u) at next t e = (refl, sym (ok_same next t e))
was-done (Err fault) at next t e = never _ t e

-- the reader let the record pass, and the board and the table took it
pub record Took {A : Type 0} (name : A → Said) (s t : Reading) (r : Result A Refusal) (next : A → Reader) : Type 0 where
  pub found : A
  pub says : r ≡ Ok found
  pub told : told_by (name found) s.board s.rows ≡ Ok tt
  pub comes : t ≡ reading (next found) (s.seen + 1) (board_by (name found) s.board) (rows_by (name found) s.rows)

pub took : {A : Type 0} (name : A → Said) (s t : Reading) (at : ℕ) (stay : Reader) (next : A → Reader) (r : Result A Refusal)
    → step_to s at (turns.unless_refused r stay next) (saying name r) ≡ Ok t → Took name s t r next
took name s t at stay next (Ok found) e =
    let p = was-done (told_by (name found) s.board s.rows) at _ t e in
    record { found = found; says = refl; told = p.0; comes = p.1 }
took name s t at stay next (Err why) e = never _ t e
