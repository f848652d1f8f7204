-- Why a written file is the one that was read, and why a board takes what another has.
use Rattle.std.proofs.Common.{◌≡◌, ℕ, ◌-◌, ◌≤◌, true, cond, not, ◌||◌, eqb, ltb, List, length, take, drop, Some, None, Ok, Err, Option, Result, sym, refl, ap, ◌∙◌, subst, arith}
use Rattle.std.proofs.lemmas.List.{take_at}
use Rattle.std.proofs.lemmas.Bool.Decides.{nat_tests}
use Rattle.board.specs.declared.fault.Fault.{Fault}
use Rattle.board.specs.declared.fault.Refusal.{Refusal}
use Rattle.board.specs.declared.fault.Refusal.TheVariants.{SizesDiffer, OutputTooShort}
use Rattle.fairness.specs.Sums.{sum_to}
use Rattle.fairness.specs.Plans.{given}
use Rattle.board.specs.Meaning.{Meaning, Sound, needed}
use Rattle.board.specs.Boards.{Build}
use Rattle.tasks.specs.declared.table.TaskTable.{TaskTable}
use Rattle.tasks.specs.Rows.{Row, sound}
use Rattle.tasks.specs.Table.{rows}
use Rattle.sections.specs.declared.letter.Sharing.{Sharing}
use Rattle.sections.specs.declared.letter.Sharing.TheVariants.{Even, Weighted, ByNeed}
use Rattle.sections.specs.Letters.{sharing_of}
use Rattle.orders.specs.Encoding.{encode, file_of}
use Rattle.orders.specs.Reads.{Order, read_of, letter_of as outcome_letter, board_of, rows_of}
use Rattle.orders.specs.Laws.{Known, Valid, EncodingsRead}
use Rattle.orderfile.specs.Reads.{LawfullyRead}
use Rattle.order_writer.specs.Writing.{write_why, lettered, told, left}
use Rattle.round_trips.specs.Trips.{CanHold, carried, Same, Carried}

-- only a known letter is not refused
passed-by : (letter : ℕ) (later : Option Refusal) (o : Option Sharing) → sharing_of letter ≡ o → lettered o later ≡ None → Known letter
passed-by letter later None e d = let z : ◌≡◌ {A = ℕ} 0 1 = cc in absurd (omega arith)
passed-by letter later (Some Even) e d = (Even, grind (arith, nat_tests))
passed-by letter later (Some Weighted) e d = (Weighted, grind (arith, nat_tests))
passed-by letter later (Some ByNeed) e d = (ByNeed, grind (arith, nat_tests))

pub passed-known : (letter : ℕ) (later : Option Refusal) → lettered (sharing_of letter) later ≡ None → Known letter
passed-known letter later e = passed-by letter later (sharing_of letter) refl e

-- what the first board has keeps the second board's condition, if that can hold it
carried-sound : (second first : Meaning) → Sound second → Sound first → CanHold second first → Sound (carried second first)
carried-sound second first there here holds = record {
  few_tasks = there.few_tasks;
  few_cores = there.few_cores;
  no_tasks = there.no_tasks;
  no_cores = there.no_cores;
  covered = here.covered;
  fits = λ core h. subst (λ n. given n first.held core ≤ first.capacity core) (sym holds.tasks) (here.fits core (omega (arith, holds.cores, h)));
  small = here.small;
  capped = holds.capacities;
  low = there.low;
  few_pairs = subst (λ n. n ≤ second.greatest_pairs) (λ i. sum_to (sym holds.tasks i) (λ task. sum_to (sym holds.cores i) (λ core. needed (first.need task core)))) holds.pairs;
  beyond_tasks = λ task core h. here.beyond_tasks task core (omega (arith, holds.tasks, h));
  beyond_cores = λ task core h. here.beyond_cores task core (omega (arith, holds.cores, h));
  no_core = there.no_core;
}

pub carried-valid : (second first : Meaning) → Sound second → Sound first → CanHold second first → (letter : ℕ) (rs : List Row) → Known letter → 1 ≤ first.tasks → length rs ≡ first.tasks → sound rs ≡ true → Valid second (record { letter = letter; board = carried second first; rows = rs })
carried-valid second first there here holds letter rs known some listed fine = record {
  letter = known;
  tasks = omega (arith, holds.tasks);
  listed = listed ∙ sym holds.tasks;
  rows = fine;
  board = carried-sound second first there here holds;
  fits = refl;
}

-- it is written as the same file
pub carried-file : (second first : Meaning) → CanHold second first → (letter : ℕ) (rs : List Row) → file_of letter rs (carried second first) ≡ file_of letter rs first
carried-file second first holds letter rs = ap (λ n. encode letter n first.capacity rs first.need first.held) holds.cores

-- what writing has tested
later-none : (o : Option Sharing) (later : Option Refusal) → lettered o later ≡ None → later ≡ None
later-none None later e = let z : ◌≡◌ {A = ℕ} 0 1 = cc in absurd (omega arith)
later-none (Some sharing) later e = e

pub record Writable (letter : ℕ) (rs : List Row) (first : Meaning) : Type 0 where
  pub known : Known letter
  pub some : 1 ≤ first.tasks
  pub listed : length rs ≡ first.tasks

writable : (letter : ℕ) (rs : List Row) (first : Meaning) (room : ℕ) → write_why letter rs first room ≡ None → Writable letter rs first
writable letter rs first room e =
    let short = ltb room (length (file_of letter rs first)) in
    let later = cond (not (eqb (length rs) first.tasks) || eqb first.tasks 0) (Some SizesDiffer) (cond short (Some OutputTooShort) None) in
    let none : later ≡ None = later-none (sharing_of letter) later e in
    record { known = passed-known letter later e; some = grind (arith, nat_tests); listed = grind (arith, nat_tests) }

-- what a board can hold is there once it was read
pub same-there : {S : Type 0} {build : Build S} → EncodingsRead → (first : Meaning) (letter : ℕ) (rs : List Row) (a b : S) (second-rs : List Row) (r : Result ℕ Fault) → Sound first → Sound (build.meaning a) → sound rs ≡ true → Writable letter rs first → LawfullyRead build a b (file_of letter rs first) second-rs r → CanHold (build.meaning a) first → Same first (build.meaning a) (build.meaning b) letter rs second-rs r
same-there {build = build} law first letter rs a b second-rs r here there fine can read holds =
    let order : Order = record { letter = letter; board = carried (build.meaning a) first; rows = rs } in
    let valid = carried-valid (build.meaning a) first there here holds letter rs can.known can.some can.listed fine in
    let e : read_of (build.meaning a) (file_of letter rs first) ≡ Ok order = ap (read_of (build.meaning a)) (sym (carried-file (build.meaning a) first holds letter rs)) ∙ law (build.meaning a) order valid in
    record { told = read.read.told ∙ ap outcome_letter e; left = read.read.left ∙ ap (board_of (build.meaning a)) e; listed = read.read.listed ∙ ap rows_of e }

module _ {S : Type 0} (build : Build S) (first : Meaning) (letter : ℕ) (rs : List Row) (a b : S) (table table-after : TaskTable) (before after : List ℕ) where
  pub not_written : (why : Option Refusal) (fault : Fault) (r : Result ℕ Fault) → told why (length (file_of letter rs first)) ≡ Err fault → r ≡ Err fault → after ≡ left why (file_of letter rs first) before → b ≡ a → table-after ≡ table → Carried build why first letter rs a b table table-after before after r
  not_written None fault r e d f g h = let z : ◌≡◌ {A = ℕ} 0 1 = cc in absurd (omega arith)
  not_written (Some why) fault r e d f g h = (d ∙ sym e, g, h, f)

  pub so-written : EncodingsRead → (why : Option Refusal) → write_why letter rs first (length before) ≡ why → (n : ℕ) (r : Result ℕ Fault) → told why (length (file_of letter rs first)) ≡ Ok n → after ≡ left why (file_of letter rs first) before → Sound first → Sound (build.meaning a) → sound rs ≡ true → LawfullyRead build a b (take (n - 0) (drop 0 after)) (rows table-after) r → Carried build why first letter rs a b table table-after before after r
  so-written law (Some why) q n r e f here there fine read = let z : ◌≡◌ {A = ℕ} 0 1 = cc in absurd (omega arith)
  so-written law None q n r e f here there fine read =
      let long : length (file_of letter rs first) ≡ n = cc in
      let part : take (n - 0) (drop 0 after) ≡ file_of letter rs first = ap (λ k. take k after) (omega arith) ∙ ap (take n) f ∙ take_at (file_of letter rs first) (drop (length (file_of letter rs first)) before) n long in
      let there-read = subst (λ x. LawfullyRead build a b x (rows table-after) r) part read in
      record {
        written = f;
        read = there-read;
        same = same-there law first letter rs a b (rows table-after) r here there fine (writable letter rs first (length before) q) there-read;
      }
