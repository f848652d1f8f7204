-- Lines that are taken in up to an end are those of the order that they give.
use Rattle.std.proofs.Common.{◌≡◌, ℕ, ◌+◌, true, List, [], ◌∷◌, ◌++◌, length, Ok, sym, refl, ap, ◌∙◌, subst, append_assoc, append-nil}
use Rattle.std.specs.List.{AllByRecursion}
use Rattle.std.proofs.lemmas.Bool.{false≢true}
use Rattle.board.specs.Meaning.{Meaning, Sound, cleared}
use Rattle.records.specs.declared.kind.Kind.{Kind}
use Rattle.records.specs.declared.kind.Kind.TheVariants as kind
use Rattle.records.specs.Wire.{word}
use Rattle.sections.specs.declared.state.Section.{Section}
use Rattle.sections.specs.declared.state.Section.TheVariants as section
use Rattle.sections.specs.Turns.{is_ended}
use Rattle.orders.specs.Encoding.{Line, line, with_end, order_lines}
use Rattle.orders.specs.Steps.{Reading, step}
use Rattle.orders.specs.Reads.{before}
use Rattle.orders.specs.Laws.{Byte, Valid}
use Rattle.orders.proofs.Lines.{cut_of, folded, then_ok}
use Rattle.orders.proofs.Bodies.{count-body}
use Rattle.orders.proofs.Told.{never, ok_same}
use Rattle.orders.proofs.Accepted.{step_in, step_in-section}
use Rattle.orders.proofs.Taken.{EndTaken, head-taken, core-taken, task-taken, need-taken, slots-taken, slots_begun, first-slots-taken, end-taken}
use Rattle.orders.proofs.Sofar.{parts, Sofar, Done, Read, lines_in}
use Rattle.orders.proofs.Opening.{Next, head_read, core-read, task-read}
use Rattle.orders.proofs.Pairs.{need-read, slots_read, slots-begin}

-- once all cores and tasks have been read, the lines are an order's
all_read : (m : Meaning) (s : Reading) (lines : List Line) → Sofar m s lines → s.reader.core ≡ m.cores → length s.rows ≡ m.tasks → lines ≡ lines_in s
all_read m s lines h cores listed =
    let rows : m.tasks ≡ length s.rows = sym listed in
    let own : m.cores ≡ s.board.cores = sym (ap (λ b. b.cores) h.fits) in
    let read : s.reader.core ≡ s.board.cores = cores ∙ own in
    h.front ∙ (λ i. parts s.reader.letter (rows i) (own i) (read i) s.board.capacity s.rows s.board.need s.board.held)

end_read : (m : Meaning) (s t : Reading) (lines : List Line) (body : List ℕ) → AllByRecursion Byte body → Sofar m s lines → s.reader.core ≡ m.cores → length s.rows ≡ m.tasks
    → EndTaken s t body → Next m t lines (line kind.End body)
end_read m s t lines body bytes h cores listed w =
    let all = all_read m s lines h cores listed in
    let shape : body ≡ word (length (lines_in s)) = count-body body bytes w.size ∙ ap word (w.count ∙ h.seen ∙ ap length all) in
    subst (λ z. Next m z lines (line kind.End body)) (sym w.comes) (record {
      valid = record { letter = h.letter; tasks = h.some; listed = listed; rows = h.rows; board = h.board; fits = h.fits };
      whole = λ i. all i ++ line kind.End (shape i) ∷ [];
    })

-- one line more, by the section reached and the line's kind
line_read : (m : Meaning) (z : Section) (k : Kind) (s t : Reading) (lines : List Line) (body : List ℕ) (at : ℕ) → Sound m → AllByRecursion Byte body → s.reader.section ≡ z → Read m z s lines
    → step_in z k s body at ≡ Ok t → Next m t lines (line k body)
line_read m section.Head kind.Head s t lines body at sound bytes q r e = head_read m s t lines body sound r (head-taken s t body at e)
line_read m section.Head kind.Core s t lines body at sound bytes q r e = never _ t e
line_read m section.Head kind.Task s t lines body at sound bytes q r e = never _ t e
line_read m section.Head kind.Need s t lines body at sound bytes q r e = never _ t e
line_read m section.Head kind.Slots s t lines body at sound bytes q r e = never _ t e
line_read m section.Head kind.End s t lines body at sound bytes q r e = never _ t e
line_read m section.Cores kind.Head s t lines body at sound bytes q r e = never _ t e
line_read m section.Cores kind.Core s t lines body at sound bytes q r e = core-read m s t lines body bytes q r (core-taken s t body at e)
line_read m section.Cores kind.Task s t lines body at sound bytes q r e = never _ t e
line_read m section.Cores kind.Need s t lines body at sound bytes q r e = never _ t e
line_read m section.Cores kind.Slots s t lines body at sound bytes q r e = never _ t e
line_read m section.Cores kind.End s t lines body at sound bytes q r e = never _ t e
line_read m section.Tasks kind.Head s t lines body at sound bytes q r e = never _ t e
line_read m section.Tasks kind.Core s t lines body at sound bytes q r e = never _ t e
line_read m section.Tasks kind.Task s t lines body at sound bytes q r e = task-read m s t lines body q r (task-taken s t body at e)
line_read m section.Tasks kind.Need s t lines body at sound bytes q r e = never _ t e
line_read m section.Tasks kind.Slots s t lines body at sound bytes q r e = never _ t e
line_read m section.Tasks kind.End s t lines body at sound bytes q r e = never _ t e
line_read m section.Needs kind.Head s t lines body at sound bytes q r e = never _ t e
line_read m section.Needs kind.Core s t lines body at sound bytes q r e = never _ t e
line_read m section.Needs kind.Task s t lines body at sound bytes q r e = never _ t e
line_read m section.Needs kind.Need s t lines body at sound bytes q r e = need-read m s t lines body bytes q r (need-taken s t body at e)
line_read m section.Needs kind.Slots s t lines body at sound bytes q r e = slots_read m (slots_begun s) t lines body bytes refl (slots-begin m s lines r) (first-slots-taken s t body at e)
line_read m section.Needs kind.End s t lines body at sound bytes q r e = end_read m s t lines body bytes r.sofar r.cores r.listed (end-taken s t body at e)
line_read m section.Slots kind.Head s t lines body at sound bytes q r e = never _ t e
line_read m section.Slots kind.Core s t lines body at sound bytes q r e = never _ t e
line_read m section.Slots kind.Task s t lines body at sound bytes q r e = never _ t e
line_read m section.Slots kind.Need s t lines body at sound bytes q r e = never _ t e
line_read m section.Slots kind.Slots s t lines body at sound bytes q r e = slots_read m s t lines body bytes q r (slots-taken s t body at e)
line_read m section.Slots kind.End s t lines body at sound bytes q r e = end_read m s t lines body bytes r.sofar r.cores r.listed (end-taken s t body at e)
line_read m section.Ended k s t lines body at sound bytes q r e = never _ t e

lines-read : (m : Meaning) → Sound m → (s t : Reading) (front rest : List Line) (at : ℕ) → AllByRecursion (λ line. AllByRecursion Byte line.body) rest → Read m s.reader.section s front
    → folded s at rest ≡ Ok t → Read m t.reader.section t (front ++ rest)
lines-read m sound s t front [] at bytes r e = subst (λ z. Read m z.reader.section z (front ++ [])) (ok_same s t e) (subst (Read m s.reader.section s) (sym (append-nil front)) r)
lines-read m sound s t front (first ∷ rest) at bytes r e =
    let p = then_ok (step s (cut_of first at)) (λ next. folded next (at + 4 + length first.body) rest) t e in
    let u = p.0 in
    let taken = line_read m s.reader.section first.kind s u front first.body at sound bytes.0 refl r (sym (step_in-section s (cut_of first at)) ∙ p.1) in
    subst (Read m t.reader.section t) (append_assoc front (first ∷ []) rest) (lines-read m sound u t (front ++ first ∷ []) rest (at + 4 + length first.body) bytes.1 taken p.2)

ended : (m : Meaning) (z : Section) (s : Reading) (lines : List Line) → is_ended z ≡ true → Read m z s lines → Done m s lines
ended m section.Head s lines e r = absurd (false≢true e)
ended m section.Cores s lines e r = absurd (false≢true e)
ended m section.Tasks s lines e r = absurd (false≢true e)
ended m section.Needs s lines e r = absurd (false≢true e)
ended m section.Slots s lines e r = absurd (false≢true e)
ended m section.Ended s lines e r = r

-- lines that are all taken in, up to an end, are the lines of the order that they give, and a board can hold it
pub folds-order : (m : Meaning) → Sound m → (lines : List Line) (at : ℕ) (t : Reading) → AllByRecursion (λ line. AllByRecursion Byte line.body) lines
    → folded (before (cleared m) []) at lines ≡ Ok t → is_ended t.reader.section ≡ true
    → Valid m (record { letter = t.reader.letter; board = t.board; rows = t.rows })
    × (lines ≡ with_end (order_lines t.reader.letter t.board.cores t.board.capacity t.rows t.board.need t.board.held))
folds-order m sound lines at t bytes e end =
    let done = ended m t.reader.section t lines end (lines-read m sound (before (cleared m) []) t [] lines at bytes (refl, refl) e) in
    (done.valid, done.whole)
