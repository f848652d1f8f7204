-- The head and the cores of an order are taken in.
use Rattle.std.proofs.Common.{◌≡◌, ℕ, zero, suc, ◌<◌, ◌≤◌, cond, eqb, ltb, [], ◌∷◌, Some, None, Ok, sym, refl, ap, ◌∙◌, subst, subst₂, inl, inr, add-one, arith}
use Rattle.std.proofs.lemmas.Bool.Decides.{nat_tests}
use Rattle.std.proofs.lemmas.Bool.{cases_lt, cond-true, cond-false, eq-eqb, ne_eqb}
use Rattle.board.specs.Meaning.{Meaning, Sound, cleared}
use Rattle.board.specs.Outcomes.{answered, after}
use Rattle.board.proofs.Bounds.{sum-none}
use Rattle.board.proofs.Changes.{done-capacity}
use Rattle.records.specs.declared.kind.Kind.TheVariants as kind
use Rattle.records.specs.declared.fields.CoreLine.{CoreLine}
use Rattle.records.specs.Fields.{core_in}
use Rattle.records.specs.Wire.{word}
use Rattle.sections.specs.declared.letter.Sharing.{Sharing}
use Rattle.sections.specs.declared.letter.Sharing.TheVariants.{Even, Weighted, ByNeed}
use Rattle.sections.specs.declared.state.Section.{Section}
use Rattle.sections.specs.declared.state.Section.TheVariants.{Cores, Tasks}
use Rattle.sections.specs.declared.state.Reader.{Reader}
use Rattle.sections.specs.Letters.{letter_of, head_test}
use Rattle.sections.specs.Turns.{start, head_fits, accepted, unless_refused, head_next, core_fits, core_told, core_next, section_at}
use Rattle.sections.specs.Lines.{Said, saying}
use Rattle.orders.specs.Encoding.{line, each, head_line, core_line}
use Rattle.orders.specs.Laws.{Known}
use Rattle.orders.proofs.Lines.{cut_of, word_back}
use Rattle.orders.proofs.Takes.{State, state, Takes, takes_none-stays, takes-line, takes-join, step-done}

-- the reader in the sections of cores and tasks
abbrev pub reader : Section → ℕ → ℕ → ℕ → ℕ → ℕ → Reader
reader section letter tasks cores core task = record { section = section; letter = letter; tasks = tasks; cores = cores; core = core; task = task; last = None }

-- a head with the letter of a rule and with sizes that a board can have
head-fits : (letter tasks cores : ℕ) → Known letter → 1 ≤ tasks → tasks ≤ 64 → 1 ≤ cores → cores ≤ 16
    → head_fits (start tasks cores) (head_test (letter ∷ tasks ∷ cores ∷ [])) ≡ Ok (record { letter = letter; tasks = tasks; cores = cores })
head-fits letter tasks cores known some few some-core few_cores =
    subst (λ l. head_fits (start tasks cores) (head_test (l ∷ tasks ∷ cores ∷ [])) ≡ Ok (record { letter = l; tasks = tasks; cores = cores })) (sym known.1) (go known.0)
  where
    go : (sharing : Sharing) → head_fits (start tasks cores) (head_test (letter_of sharing ∷ tasks ∷ cores ∷ [])) ≡ Ok (record { letter = letter_of sharing; tasks = tasks; cores = cores })
    go Even = grind (arith, nat_tests)
    go Weighted = grind (arith, nat_tests)
    go ByNeed = grind (arith, nat_tests)

-- a board with tasks has cores
pub some-cores : (board : Meaning) → Sound board → 1 ≤ board.tasks → 1 ≤ board.cores
some-cores board sound some = elim (cases_lt 0 board.cores) [
  | inl h ↦ h
  | inr none ↦ (let empty = sound.no_cores (omega arith) in absurd (omega arith))
]

pub head-taken : (board : Meaning) (letter : ℕ) → Known letter → 1 ≤ board.tasks → Sound board
    → Takes (state (start board.tasks board.cores) (cleared board) []) (head_line letter board.tasks board.cores)
    (state (reader Cores letter board.tasks board.cores 0 0) (cleared board) [])
head-taken board letter known some sound =
    let n = board.tasks in
    let m = board.cores in
    let r = start n m in
    let some-core = some-cores board sound some in
    let fit = head-fits letter n m known some sound.few_tasks some-core sound.few_cores in
    takes-line (state r (cleared board) []) (state (reader Cores letter n m 0 0) (cleared board) []) (line kind.Head (letter ∷ n ∷ m ∷ [])) (λ seen at.
    step-done r (cleared board) [] (reader Cores letter n m 0 0) (cleared board) [] seen (cut_of (line kind.Head (letter ∷ n ∷ m ∷ [])) at) Said.head
    (ap (λ found. saying (λ _. Said.head) (accepted found)) fit) (ap (λ found. unless_refused found r (head_next r)) fit) refl refl refl)

-- a board on which only capacities stand
abbrev pub roomy : Meaning → (ℕ → ℕ) → Meaning
roomy board capacity = record {
  tasks = board.tasks;
  cores = board.cores;
  capacity = capacity;
  need = λ _ _. 0;
  held = λ _ _. 0;
  greatest_pairs = board.greatest_pairs;
  greatest_capacity = board.greatest_capacity;
}

-- the capacities of the cores below k, and no others
abbrev pub below : ℕ → (ℕ → ℕ) → ℕ → ℕ
below k capacity core = cond (ltb core k) (capacity core) 0

below_none : (capacity : ℕ → ℕ) → below 0 capacity ≡ (λ _. 0)
below_none capacity i core = zero-here core i
  where
    zero-here : (core : ℕ) → below 0 capacity core ≡ 0
    zero-here core = grind (arith, nat_tests)

below_more : (k : ℕ) (capacity : ℕ → ℕ) → (λ c. cond (eqb c k) (capacity k) (below k capacity c)) ≡ below (suc k) capacity
below_more k capacity i c = more c i
  where
    more : (c : ℕ) → cond (eqb c k) (capacity k) (below k capacity c) ≡ below (suc k) capacity c
    more c = grind (arith, nat_tests)

below_all : (k : ℕ) (capacity : ℕ → ℕ) → ((c : ℕ) → k ≤ c → capacity c ≡ 0) → below k capacity ≡ capacity
below_all k capacity none i c = all c i
  where
    all : (c : ℕ) → below k capacity c ≡ capacity c
    all c = grind (arith, nat_tests, none c)

module _ (board : Meaning) (letter : ℕ) (sound : Sound board) where
  abbrev cores_state : ℕ → State
  cores_state k = state (reader (section_at k board.cores Tasks Cores) letter board.tasks board.cores k 0) (roomy board (below k board.capacity)) []

  core-taken : (k : ℕ) → k < board.cores → Takes (cores_state k) (core_line board.capacity k) (cores_state (suc k))
  core-taken k on =
      let m = board.cores in
      let n = board.tasks in
      let amount = board.capacity k in
      let body = k ∷ word amount in
      let now = roomy board (below k board.capacity) in
      let next = roomy board (below (suc k) board.capacity) in
      let r = reader Cores letter n m k 0 in
      let r' = reader (section_at (suc k) m Tasks Cores) letter n m (suc k) 0 in
      let said : CoreLine = record { core = k; capacity = amount } in
      let here : section_at k m Tasks Cores ≡ Cores = cond-false (eqb k m) Tasks Cores (ne_eqb k m (λ e. omega arith)) in
      let small : amount ≤ 1000 = omega (arith, sound.capped k, sound.low k) in
      let inside : core_in body ≡ Some said = λ i. Some (record { core = k; capacity = word_back amount i }) in
      let accepts : core_fits r (Some said) ≡ Ok said = grind (arith, nat_tests) in
      let told : core_told r body ≡ Ok said = ap (core_fits r) inside ∙ accepts in
      let leaves : core_next r said ≡ r' = ap (λ u. reader (section_at u m Tasks Cores) letter n m u 0) (add-one k) in
      let free = sum-none n (λ _. 0) (λ _. refl) in
      let fits = done-capacity now k amount on (sound.capped k) (omega (arith, free)) in
      let step : (seen at : ℕ) → _ = λ seen at. step-done r now [] r' next [] seen (cut_of (line kind.Core body) at) (Said.core said)
      (ap (saying Said.core) told) (ap (λ found. unless_refused found r (core_next r)) told ∙ leaves)
      (ap answered fits) (ap (after now) fits ∙ ap (roomy board) (below_more k board.capacity)) refl in
      subst (λ section. Takes (state (reader section letter n m k 0) now []) (core_line board.capacity k) (cores_state (suc k))) (sym here)
      (takes-line (state r now []) (cores_state (suc k)) (line kind.Core body) step)

  cores-below : (k : ℕ) → k ≤ board.cores → Takes (cores_state 0) (each k (core_line board.capacity)) (cores_state k)
  cores-below zero on = takes_none-stays (cores_state 0)
  cores-below (suc k) on = takes-join (cores_state 0) (cores_state k) (cores_state (suc k)) (each k (core_line board.capacity)) (core_line board.capacity k) (cores-below k (omega arith)) (core-taken k on)

  -- from the first core on to the first task
  pub cores-taken : 1 ≤ board.cores → Takes (state (reader Cores letter board.tasks board.cores 0 0) (cleared board) []) (each board.cores (core_line board.capacity))
      (state (reader Tasks letter board.tasks board.cores board.cores 0) (roomy board board.capacity) [])
  cores-taken some =
      let m = board.cores in
      let n = board.tasks in
      let first : section_at 0 m Tasks Cores ≡ Cores = cond-false (eqb 0 m) Tasks Cores (ne_eqb 0 m (λ e. omega arith)) in
      let last : section_at m m Tasks Cores ≡ Tasks = cond-true (eqb m m) Tasks Cores (eq-eqb m m refl) in
      let whole = below_all m board.capacity (λ c off. omega (arith, sound.capped c, sound.no_core c off)) in
      let from : cores_state 0 ≡ state (reader Cores letter n m 0 0) (cleared board) [] = λ i. state (reader (first i) letter n m 0 0) (roomy board (below_none board.capacity i)) [] in
      let to : cores_state m ≡ state (reader Tasks letter n m m 0) (roomy board board.capacity) [] = λ i. state (reader (last i) letter n m m 0) (roomy board (whole i)) [] in
      subst₂ (λ s t. Takes s (each m (core_line board.capacity)) t) from to (cores-below m (omega arith))
