-- One turn of reading, against what a whole reading comes to.
use Rattle.std.proofs.Common.{◌≡◌, ℕ, zero, suc, ◌+◌, ◌-◌, ◌<◌, ◌≤◌, false, cond, List, length, Ok, Err, Result, sym, refl, ap, ◌∙◌, arith}
use Rattle.board.specs.declared.fault.Fault.{Fault}
use Rattle.board.specs.Meaning.{Meaning, cleared}
use Rattle.board.specs.Boards.{Build, Good}
use Rattle.tasks.specs.Rows.{Row}
use Rattle.records.specs.Wire.{longest_file}
use Rattle.records.specs.Cuts.{Cut, Walk, cut_at, open_of}
use Rattle.records.proofs.Framing.{found, found-end, begun}
use Rattle.sections.specs.declared.state.Reader.{Reader}
use Rattle.sections.specs.Turns.{is_ended}
use Rattle.orders.specs.Steps.{then, Reading, reading, step}
use Rattle.orders.specs.Reads.{run, finished, before, run_from, order_of}
use Rattle.orderfile.specs.Reads.{gave}

-- what stands at `at`, taken in, is the next turn of the run
unended : (k : ℕ) (s : Reading) (file : List ℕ) (at : ℕ) → is_ended s.reader.section ≡ false → run (suc k) s file at ≡ then (cut_at file at) (λ cut. then (step s cut) (λ next. run k next file (at + 4 + length cut.body)))
unended k s file at e = ap (λ b. cond b (finished s file at) (then (cut_at file at) (λ cut. then (step s cut) (λ next. run k next file (at + 4 + length cut.body))))) e

pub run-refused : (k : ℕ) (s : Reading) (file : List ℕ) (at : ℕ) (cut : Cut) (fault : Fault) → is_ended s.reader.section ≡ false → cut_at file at ≡ Ok cut → step s cut ≡ Err fault → run (suc k) s file at ≡ Err fault
run-refused k s file at cut fault n e t =
    unended k s file at n
    ∙ ap (λ r. then r (λ cut. then (step s cut) (λ next. run k next file (at + 4 + length cut.body)))) e
    ∙ ap (λ r. then r (λ next. run k next file (at + 4 + length cut.body))) t

pub run_step : (k : ℕ) (s : Reading) (file : List ℕ) (at : ℕ) (cut : Cut) (next : Reading) → is_ended s.reader.section ≡ false → cut_at file at ≡ Ok cut → step s cut ≡ Ok next → run (suc k) s file at ≡ run k next file (at + 4 + length cut.body)
run_step k s file at cut next n e t =
    unended k s file at n
    ∙ ap (λ r. then r (λ cut. then (step s cut) (λ next. run k next file (at + 4 + length cut.body)))) e
    ∙ ap (λ r. then r (λ next. run k next file (at + 4 + length cut.body))) t

-- reading stands at `at`, and what is left of the file gives what the whole gives; there are steps enough for each byte that is left
pub record Sofar (whole : Result Reading Fault) (s : Reading) (file : List ℕ) (at : ℕ) : Type 0 where
  pub short : length file ≤ longest_file
  pub within : at ≤ length file
  pub few : s.seen ≤ at
  pub steps : ℕ
  pub enough : length file - at ≤ steps
  pub same : run (suc steps) s file at ≡ whole

pub begin : (m : Meaning) (rs : List Row) (file : List ℕ) (walk : Walk) (reader : Reader) → Ok walk ≡ open_of file → reader ≡ (before m rs).reader → Sofar (run_from m rs file) (reading reader 0 m rs) walk.file walk.at
begin m rs file walk reader e r =
    let b = begun file walk (sym e) in
    let f = ap length b.0 in
    let z = b.1 in
    let l = b.2 in
    record {
      short = omega arith;
      within = omega arith;
      few = omega arith;
      steps = length file;
      enough = omega arith;
      same = ap (λ x. run (suc (length file)) (reading x 0 m rs) walk.file walk.at) r ∙ ap (λ o. then o (λ walk. run (suc (length file)) (before m rs) walk.file walk.at)) e;
    }

fewer : (k n : ℕ) → n < k → (j : ℕ) × ((k ≡ suc j) × (n ≤ j))
fewer zero n h = absurd (omega arith)
fewer (suc k) n h = (k, (refl, omega arith))

pub more : (whole : Result Reading Fault) (s : Reading) (file : List ℕ) (at : ℕ) (cut : Cut) (reader : Reader) (m : Meaning) (rs : List Row) → Sofar whole s file at → is_ended s.reader.section ≡ false → cut_at file at ≡ Ok cut → step s cut ≡ Ok (reading reader (s.seen + 1) m rs) → Sofar whole (reading reader (s.seen + 1) m rs) file (at + 4 + length cut.body)
more whole s file at cut reader m rs h n e t =
    let w = found file at cut e in
    let z = found-end file at cut w in
    let a = w.within in
    let l = w.long in
    let b = h.few in
    let c = h.enough in
    let left = fewer h.steps (length file - (at + 4 + length cut.body)) (omega arith) in
    let j = left.0 in
    record {
      short = h.short;
      within = omega arith;
      few = omega arith;
      steps = j;
      enough = left.1.1;
      same = ap (λ k. run k (reading reader (s.seen + 1) m rs) file (at + 4 + length cut.body)) (sym left.1.0) ∙ sym (run_step h.steps s file at cut (reading reader (s.seen + 1) m rs) n e t) ∙ h.same;
    }

-- the board a has become b: still good, in the same memory, with the same sizes and greatest numbers
pub record Onward {S : Type 0} (build : Build S) (a b : S) : Type 0 where
  pub frame : cleared (build.meaning b) ≡ cleared (build.meaning a)
  pub good : Good build b
  pub keeps : build.kept a b

pub onward : {S : Type 0} (build : Build S) (a b c : S) → Onward build a b → Onward build b c → Onward build a c
onward build a b c h j = record { frame = j.frame ∙ h.frame; good = j.good; keeps = build.keeping.onward a b c h.keeps j.keeps }

-- where reading leaves, the whole comes to the same

pub refused-told : (r : Result ℕ Fault) (m : Meaning) (rs : List Row) (whole : Result Reading Fault) (fault : Fault) → r ≡ Err fault → whole ≡ Err fault → gave r m rs ≡ order_of whole
refused-told r m rs whole fault e w = ap (λ x. gave x m rs) e ∙ sym (ap order_of w)

pub ends-refused : (whole : Result Reading Fault) (s : Reading) (file : List ℕ) (at : ℕ) (cut : Cut) (fault : Fault) → Sofar whole s file at → is_ended s.reader.section ≡ false → Ok cut ≡ cut_at file at → Err fault ≡ step s cut → whole ≡ Err fault
ends-refused whole s file at cut fault h n e t = sym h.same ∙ run-refused h.steps s file at cut fault n (sym e) (sym t)
