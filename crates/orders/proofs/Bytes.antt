-- The bytes of lines are read as just these lines, and accepted bytes are the bytes of lines.
use Rattle.std.proofs.Common.{◌≡◌, ℕ, zero, suc, ◌+◌, ◌-◌, ◌*◌, ◌<◌, Bool, true, false, cond, ltb, List, [], ◌∷◌, ◌++◌, length, get_or, take, drop, Some, Ok, Err, Result, sym, refl, ap, ◌∙◌, subst, append_assoc, arith, length-append}
use Rattle.std.specs.List.{AllByRecursion}
use Rattle.std.proofs.lemmas.List.{take_at, take-append-drop, drop_all, drop_at, drop_more, get_or-append-add, drop-drop}
use Rattle.std.proofs.ByRecursion.{All-get_or, All-take, All-drop}
use Rattle.std.proofs.lemmas.Bool.Decides.{nat_tests}
use Rattle.std.proofs.lemmas.Bool.{le-ltb, cond-false, ltb-false}
use Rattle.board.specs.declared.fault.Fault.{Fault}
use Rattle.board.specs.declared.fault.Refusal.TheVariants.{KindOutOfTurn, BytesAfterEnd}
use Rattle.board.specs.Refusals.{fault_at}
use Rattle.records.specs.declared.kind.Kind.{Kind}
use Rattle.records.specs.declared.kind.Kind.TheVariants.{Head, Core, Task, Need, Slots, End}
use Rattle.records.specs.Wire.{word_at, word, number_of, kind_of, record_bytes}
use Rattle.records.specs.Cuts.{Cut, cut_as, cut_to, cut_at, finish_at}
use Rattle.records.proofs.Framing.{Found, found, found-end}
use Rattle.sections.specs.declared.state.Section.{Section}
use Rattle.sections.specs.declared.state.Section.TheVariants as section
use Rattle.sections.specs.Turns.{is_ended}
use Rattle.sections.specs.Lines.{line_in}
use Rattle.orders.specs.Encoding.{Line, bytes_of}
use Rattle.orders.specs.Steps.{then, Reading, step, step_said}
use Rattle.orders.specs.Reads.{run, finished}
use Rattle.orders.specs.Laws.{Byte}
use Rattle.orders.proofs.Lines.{cut_of, folded, folded-step, then_ok, word_back, word-forth}

kind-back : (kind : Kind) → kind_of (number_of kind) ≡ Some kind
kind-back Head = refl
kind-back Core = refl
kind-back Task = refl
kind-back Need = refl
kind-back Slots = refl
kind-back End = refl

kind-number : (n : ℕ) (kind : Kind) → kind_of n ≡ Some kind → n ≡ number_of kind
kind-number n Head e = grind (arith, nat_tests)
kind-number n Core e = grind (arith, nat_tests)
kind-number n Task e = grind (arith, nat_tests)
kind-number n Need e = grind (arith, nat_tests)
kind-number n Slots e = grind (arith, nat_tests)
kind-number n End e = grind (arith, nat_tests)

behind : (front xs : List ℕ) (at j i : ℕ) → length front ≡ at → i ≡ at + j → get_or (front ++ xs) i 0 ≡ get_or xs j 0
behind front xs at j i e d = ap (λ n. get_or (front ++ xs) n 0) (d ∙ ap (λ n. n + j) (sym e)) ∙ get_or-append-add front xs j 0

-- a record that stands behind `front` is found there
cut-there : (front : List ℕ) (line : Line) (rest : List ℕ) (at : ℕ) → length front ≡ at → cut_at (front ++ (record_bytes line.kind line.body ++ rest)) at ≡ Ok (cut_of line at)
cut-there front line rest at e =
    let body = line.body in
    let xs = record_bytes line.kind body ++ rest in
    let f = front ++ xs in
    let n = length-append front xs in
    let m = length-append body rest in
    let b0 = behind front xs at 0 at e (omega arith) in
    let b1 = behind front xs at 1 (at + 1) e refl in
    let b2 = behind front xs at 2 (at + 2) e refl in
    let b3 = behind front xs at 3 (at + 2 + 1) e (omega arith) in
    let u0 : word_at f at ≡ 2 + length body = (λ i. b0 i + 256 * b1 i) ∙ word_back (2 + length body) in
    let u2 : word_at f (at + 2) ≡ number_of line.kind = (λ i. b2 i + 256 * b3 i) ∙ word_back (number_of line.kind) in
    let c1 : ltb (length f - at) 2 ≡ false = le-ltb _ _ (omega arith) in
    let c2 : ltb (word_at f at) 2 ≡ false = le-ltb _ _ (omega arith) in
    let c3 : ltb (length f - at - 2) (word_at f at) ≡ false = le-ltb _ _ (omega arith) in
    let long : at + 2 + word_at f at - (at + 4) ≡ length body = omega arith in
    let there : drop (at + 4) f ≡ body ++ rest = sym (drop-drop 4 at f) ∙ ap (drop 4) (drop_at front xs at e) in
    let part : take (at + 2 + word_at f at - (at + 4)) (drop (at + 4) f) ≡ body = (λ i. take (long i) (there i)) ∙ take_at body rest (length body) refl in
    ap (cut_to f at) (cond-false (ltb (length f - at) 2) _ _ c1 ∙ cond-false (ltb (word_at f at) 2) _ _ c2 ∙ cond-false (ltb (length f - at - 2) (word_at f at)) _ _ c3)
    ∙ ap (cut_as f at (word_at f at)) (ap kind_of u2 ∙ kind-back line.kind) ∙ ap (λ b. Ok (record { kind = line.kind; body = b; place = at })) part

-- a record once found: the rest of the file begins with its bytes
cut-front : (file : List ℕ) (at : ℕ) (cut : Cut) → AllByRecursion Byte file → Found file at cut → drop at file ≡ record_bytes cut.kind cut.body ++ drop (at + 4 + length cut.body) file
cut-front file at cut bytes w =
    let n = length cut.body in
    let z = found-end file at cut w in
    let long = w.long in
    let within = w.within in
    let h0 : at < length file = omega arith in
    let h1 : at + 1 < length file = omega arith in
    let h2 : at + 2 < length file = omega arith in
    let h3 : at + 2 + 1 < length file = omega arith in
    let b0 = get_or file at 0 in
    let b1 = get_or file (at + 1) 0 in
    let b2 = get_or file (at + 2) 0 in
    let b3 = get_or file (at + 2 + 1) 0 in
    let two : at + 1 + 1 ≡ at + 2 = omega arith in
    let four : at + 2 + 1 + 1 ≡ at + 4 = omega arith in
    let front : drop at file ≡ b0 ∷ b1 ∷ b2 ∷ b3 ∷ drop (at + 4) file =
    drop_more file at 0 h0 ∙ ap (λ l. b0 ∷ l) (drop_more file (at + 1) 0 h1 ∙ ap (λ l. b1 ∷ l) (ap (λ k. drop k file) two ∙ drop_more file (at + 2) 0 h2 ∙ ap (λ l. b2 ∷ l) (drop_more file (at + 2 + 1) 0 h3 ∙ ap (λ l. b3 ∷ drop l file) four))) in
    let size : n ≡ at + 2 + word_at file at - (at + 4) = omega arith in
    let body : take n (drop (at + 4) file) ≡ cut.body = ap (λ k. take k (drop (at + 4) file)) size ∙ sym w.body in
    let rest : drop (at + 4) file ≡ cut.body ++ drop (at + 4 + n) file =
    sym (take-append-drop n (drop (at + 4) file)) ∙ (λ i. body i ++ drop-drop n (at + 4) file i) in
    let first : b0 ∷ b1 ∷ [] ≡ word (2 + n) = sym (word-forth b0 b1 (All-get_or Byte file at 0 h0 bytes)) ∙ ap word (let e : word_at file at ≡ 2 + n = omega arith in e) in
    let second : b2 ∷ b3 ∷ [] ≡ word (number_of cut.kind) = sym (word-forth b2 b3 (All-get_or Byte file (at + 2) 0 h2 bytes)) ∙ ap word (kind-number (word_at file (at + 2)) cut.kind w.kind) in
    front ∙ (λ i. first i ++ (second i ++ rest i))

-- a reader that has ended takes in no line more
step-ended : (s t : Reading) (cut : Cut) → s.reader.section ≡ section.Ended → step s cut ≡ Ok t → ⊥
step-ended s t cut e d =
    let no : step_said s cut (Err KindOutOfTurn) ≡ Ok t = sym (ap (λ here. step_said s cut (line_in here cut.kind s.reader s.seen cut.body)) e) ∙ d in
    let z : ◌≡◌ {A = ℕ} 0 1 = cc in
    absurd (omega arith)

-- what a turn of the run comes to, where reading has ended and where it has not
run_by : (k : ℕ) (s : Reading) (file : List ℕ) (at : ℕ) (b : Bool) → is_ended s.reader.section ≡ b → run (suc k) s file at ≡ cond b (finished s file at) (then (cut_at file at) (λ cut. then (step s cut) (λ next. run k next file (at + 4 + length cut.body))))
run_by k s file at b e = ap (λ b. cond b (finished s file at) (then (cut_at file at) (λ cut. then (step s cut) (λ next. run k next file (at + 4 + length cut.body))))) e

-- lines that are taken in up to an end are read from their bytes
pub lines-run : (lines : List Line) (s t : Reading) (front : List ℕ) (at k : ℕ) → length front ≡ at → folded s at lines ≡ Ok t → is_ended t.reader.section ≡ true → length lines < k → run k s (front ++ bytes_of lines) at ≡ Ok t
lines-run [] s t front at k e d ended enough =
    let j = k - 1 in
    let file = front ++ [] in
    let fuel : k ≡ suc j = omega arith in
    let same : s ≡ t = cc in
    let long : length file ≡ at = length-append front [] ∙ omega arith in
    let none : ltb at (length file) ≡ false = le-ltb _ _ (omega arith) in
    ap (λ n. run n s file at) fuel
    ∙ ap (λ x. run (suc j) x file at) same
    ∙ run_by j t file at true ended
    ∙ ap (λ r. then r (λ _. Ok t)) (cond-false (ltb at (length file)) (Err (fault_at BytesAfterEnd at)) (Ok tt) none)
lines-run (line ∷ lines) s t front at k e d ended enough =
    let j = k - 1 in
    let first = record_bytes line.kind line.body in
    let file = front ++ (first ++ bytes_of lines) in
    let p = then_ok (step s (cut_of line at)) (λ next. folded next (at + 4 + length line.body) lines) t d in
    let next = p.0 in
    let fuel : k ≡ suc j = omega arith in
    let going : is_ended s.reader.section ≡ false = not-ended s s.reader.section refl next line at p.1 in
    let long : length (front ++ first) ≡ at + 4 + length line.body = length-append front first ∙ omega arith in
    let more : run j next ((front ++ first) ++ bytes_of lines) (at + 4 + length line.body) ≡ Ok t = lines-run lines next t (front ++ first) (at + 4 + length line.body) j long p.2 ended (omega arith) in
    ap (λ n. run n s file at) fuel
    ∙ run_by j s file at false going
    ∙ ap (λ r. then r (λ cut. then (step s cut) (λ next. run j next file (at + 4 + length cut.body)))) (cut-there front line (bytes_of lines) at e)
    ∙ ap (λ r. then r (λ next. run j next file (at + 4 + length line.body))) p.1
    ∙ ap (λ f. run j next f (at + 4 + length line.body)) (sym (append_assoc front first (bytes_of lines)))
    ∙ more
  where
    not-ended : (s : Reading) (here : Section) → s.reader.section ≡ here → (next : Reading) (line : Line) (at : ℕ) → step s (cut_of line at) ≡ Ok next → is_ended here ≡ false
    not-ended s section.Head e next line at d = refl
    not-ended s section.Cores e next line at d = refl
    not-ended s section.Tasks e next line at d = refl
    not-ended s section.Needs e next line at d = refl
    not-ended s section.Slots e next line at d = refl
    not-ended s section.Ended e next line at d = absurd (step-ended s next (cut_of line at) e d)

-- what is left of a file from `at` on, as lines that are taken in up to an end
pub record Lined (s : Reading) (file : List ℕ) (at : ℕ) (t : Reading) : Type 0 where
  pub lines : List Line
  pub bytes : drop at file ≡ bytes_of lines
  pub small : AllByRecursion (λ line. AllByRecursion Byte line.body) lines
  pub taken : folded s at lines ≡ Ok t
  pub ended : is_ended t.reader.section ≡ true

nothing_left : (b : Bool) (fault : Fault) (y : Unit {0}) → cond b (Err fault) (Ok tt) ≡ Ok y → b ≡ false
nothing_left true fault y e = let z : ◌≡◌ {A = ℕ} 0 1 = cc in absurd (omega arith)
nothing_left false fault y e = refl

module _ (k : ℕ) (s t : Reading) (file : List ℕ) (at : ℕ) (bytes : AllByRecursion Byte file) (ih : (next : Reading) (to : ℕ) → run k next file to ≡ Ok t → Lined next file to t) where
  lined-by : (b : Bool) → is_ended s.reader.section ≡ b → cond b (finished s file at) (then (cut_at file at) (λ cut. then (step s cut) (λ next. run k next file (at + 4 + length cut.body)))) ≡ Ok t → Lined s file at t
  lined-by true ended e =
      let p = then_ok (finish_at file at) (λ _. Ok s) t e in
      let none = ltb-false at (length file) (nothing_left (ltb at (length file)) _ p.0 p.1) in
      let last : ◌≡◌ {A = Result Reading Fault} (Ok s) (Ok t) = p.2 in
      let same : s ≡ t = cc in
      record { lines = []; bytes = drop_all at file none; small = tt; taken = last; ended = subst (λ x. is_ended x.reader.section ≡ true) same ended }
  lined-by false ended e =
      let p = then_ok (cut_at file at) (λ cut. then (step s cut) (λ next. run k next file (at + 4 + length cut.body))) t e in
      let cut = p.0 in
      let q = then_ok (step s cut) (λ next. run k next file (at + 4 + length cut.body)) t p.2 in
      let w = found file at cut p.1 in
      let rest = ih q.0 (at + 4 + length cut.body) q.2 in
      let line : Line = record { kind = cut.kind; body = cut.body } in
      let there : cut_of line at ≡ cut = λ i. record { kind = cut.kind; body = cut.body; place = sym w.place i } in
      record {
        lines = line ∷ rest.lines;
        bytes = cut-front file at cut bytes w ∙ ap (λ l. record_bytes cut.kind cut.body ++ l) rest.bytes;
        small = (subst (AllByRecursion Byte) (sym w.body) (All-take Byte _ _ (All-drop Byte (at + 4) file bytes)), rest.small);
        taken = folded-step s q.0 at line rest.lines (ap (step s) there ∙ q.1) ∙ rest.taken;
        ended = rest.ended;
      }

-- a file that is accepted is made of lines that are taken in up to an end
pub run-lines : (k : ℕ) (s t : Reading) (file : List ℕ) (at : ℕ) → AllByRecursion Byte file → run k s file at ≡ Ok t → Lined s file at t
run-lines zero s t file at bytes e = let z : ◌≡◌ {A = ℕ} 0 1 = cc in absurd (omega arith)
run-lines (suc k) s t file at bytes e = lined-by k s t file at bytes (λ next to d. run-lines k next t file to bytes d) (is_ended s.reader.section) refl e
