-- The pairs of an order are taken in, be they needs or slots held.
use Rattle.std.proofs.Common.{◌≡◌, ℕ, zero, suc, ◌<◌, ◌≤◌, ltb, List, [], ◌∷◌, Some, None, Ok, Option, sym, refl, ap, ◌∙◌, subst, inl, inr, arith}
use Rattle.std.proofs.lemmas.Bool.Decides.{nat_tests}
use Rattle.std.proofs.lemmas.Bool.{cases_lt, cond-true, cond-false, lt-ltb, le-ltb}
use Rattle.fairness.specs.Plans.{Plan}
use Rattle.board.specs.Meaning.{Meaning}
use Rattle.tasks.specs.Rows.{Row}
use Rattle.records.specs.declared.kind.Kind.{Kind}
use Rattle.records.specs.declared.fields.PairLine.{PairLine}
use Rattle.records.specs.Fields.{pair_in}
use Rattle.records.specs.Wire.{word}
use Rattle.sections.specs.declared.state.Section.{Section}
use Rattle.sections.specs.declared.state.Pair.{Pair}
use Rattle.sections.specs.declared.state.Reader.{Reader}
use Rattle.sections.specs.Turns.{unless_refused, pair_fits, pair_told, pair_next, pair_left}
use Rattle.sections.specs.Lines.{Said, saying, line_in, left_in}
use Rattle.orders.specs.Encoding.{Line, line, each, pair_line, task_pairs, pair_lines}
use Rattle.orders.specs.Steps.{told_by, board_by, rows_by}
use Rattle.orders.proofs.Lines.{cut_of, word_back}
use Rattle.orders.proofs.Takes.{State, state, Takes, takes_none-stays, takes-line, takes-join, step-done}
use Rattle.orders.proofs.Amounts.{up_to, up-to-same, up-to-next, Before, before-core, before-task, before_self}

-- the reader in the sections of pairs, after the pair `last`
abbrev pub paired : Section → ℕ → ℕ → ℕ → Option Pair → Reader
paired section letter tasks cores last = record { section = section; letter = letter; tasks = tasks; cores = cores; core = cores; task = tasks; last = last }

abbrev pub pair_said : Plan → ℕ → ℕ → PairLine
pair_said plan task core = record { task = task; core = core; amount = plan task core }

-- a kind of pairs: where they stand, what they say, which reader waits for them, and what the board holds of them
pub record Pairs : Type 0 where
  pub kind : Kind
  pub section : Section
  pub say : PairLine → Said
  pub waits : Option Pair → Reader
  pub holds : Plan → Meaning

-- what makes all pairs of a plan be taken in
pub record Fit (letter tasks cores : ℕ) (rows : List Row) (plan : Plan) (p : Pairs) : Type 0 where
  pub told : (last : Option Pair) (seen : ℕ) (body : List ℕ)
      → line_in (p.waits last).section p.kind (p.waits last) seen body ≡ saying p.say (pair_told (paired p.section letter tasks cores last) body)
  pub left : (last : Option Pair) (seen : ℕ) (body : List ℕ)
      → left_in (p.waits last).section p.kind (p.waits last) seen body ≡ pair_left (paired p.section letter tasks cores last) body
  pub waiting : (pair : Pair) → paired p.section letter tasks cores (Some pair) ≡ p.waits (Some pair)
  pub small : (task core : ℕ) → plan task core ≤ 1000
  pub beyond : (task core : ℕ) → cores ≤ core → plan task core ≡ 0
  pub accepts : (task core : ℕ) → task < tasks → core < cores → 0 < plan task core → told_by (p.say (pair_said plan task core)) (p.holds (up_to task core plan)) rows ≡ Ok tt
  pub fills : (task core : ℕ) → task < tasks → core < cores → 0 < plan task core → board_by (p.say (pair_said plan task core)) (p.holds (up_to task core plan)) ≡ p.holds (up_to task (suc core) plan)
  pub keeps : (line : PairLine) → rows_by (p.say line) rows ≡ rows

module _ (letter tasks cores : ℕ) (rows : List Row) (plan : Plan) (p : Pairs) (fit : Fit letter tasks cores rows plan p) where
  abbrev pairs_state : Option Pair → Plan → State
  pairs_state last held = state (p.waits last) (p.holds held) rows

  -- after some pairs, before the pair (task, core)
  abbrev Reached : State → List Line → ℕ → ℕ → Type 0
  Reached s lines task core = (last : Option Pair) × Before last task core × Takes s lines (pairs_state last (up_to task core plan))

  line_taken : (task core : ℕ) (last : Option Pair) → task < tasks → core < cores → 0 < plan task core → Before last task core
      → Takes (pairs_state last (up_to task core plan)) (line p.kind (task ∷ core ∷ word (plan task core)) ∷ []) (pairs_state (Some (record { task = task; core = core })) (up_to task (suc core) plan))
  line_taken task core last tn cm some turn =
      let amount = plan task core in
      let body = task ∷ core ∷ word amount in
      let pair : Pair = record { task = task; core = core } in
      let r = paired p.section letter tasks cores last in
      let said = pair_said plan task core in
      let few = fit.small task core in
      let inside : pair_in body ≡ Some said = λ i. Some (record { task = task; core = core; amount = word_back amount i }) in
      let accept : pair_fits r (Some said) ≡ Ok said = grind (arith, nat_tests) in
      let told : pair_told r body ≡ Ok said = ap (pair_fits r) inside ∙ accept in
      takes-line (pairs_state last (up_to task core plan)) (pairs_state (Some pair) (up_to task (suc core) plan)) (line p.kind body)
      (λ seen at. step-done (p.waits last) (p.holds (up_to task core plan)) rows (p.waits (Some pair)) (p.holds (up_to task (suc core) plan)) rows seen (cut_of (line p.kind body) at) (p.say said)
      (fit.told last seen body ∙ ap (saying p.say) told)
      (fit.left last seen body ∙ ap (λ found. unless_refused found r (pair_next r)) told ∙ fit.waiting pair)
      (fit.accepts task core tn cm some) (fit.fills task core tn cm some) (fit.keeps said))

  pair-taken : (task core : ℕ) (last : Option Pair) → task < tasks → core < cores → Before last task core
      → Reached (pairs_state last (up_to task core plan)) (pair_line p.kind task core (plan task core)) task (suc core)
  pair-taken task core last tn cm turn =
      let amount = plan task core in
      let here = line p.kind (task ∷ core ∷ word amount) ∷ [] in
      let from = pairs_state last (up_to task core plan) in
      elim (cases_lt 0 amount) [
        | inl some ↦ subst (λ lines. Reached from lines task (suc core)) (sym (cond-true (ltb 0 amount) here [] (lt-ltb 0 amount some)))
            (Some (record { task = task; core = core }), before_self task core, line_taken task core last tn cm some turn)
        | inr none ↦ subst (λ lines. Reached from lines task (suc core)) (sym (cond-false (ltb 0 amount) here [] (le-ltb 0 amount none)))
            (last, before-core last task core turn, subst (λ held. Takes from [] (pairs_state last held)) (up-to-same task core plan none) (takes_none-stays from))
      ]

  row-taken : (task : ℕ) (first : Option Pair) → task < tasks → Before first task 0 → (core : ℕ) → core ≤ cores
      → Reached (pairs_state first (up_to task 0 plan)) (each core (λ c. pair_line p.kind task c (plan task c))) task core
  row-taken task first tn turn zero le = (first, turn, takes_none-stays (pairs_state first (up_to task 0 plan)))
  row-taken task first tn turn (suc core) le =
      let from = pairs_state first (up_to task 0 plan) in
      let done = row-taken task first tn turn core (omega arith) in
      let more = pair-taken task core done.0 tn le done.1 in
      (more.0, more.1, takes-join from (pairs_state done.0 (up_to task core plan)) (pairs_state more.0 (up_to task (suc core) plan)) (each core (λ c. pair_line p.kind task c (plan task c))) (pair_line p.kind task core (plan task core)) done.2 more.2)

  rows_taken : (task : ℕ) → task ≤ tasks → Reached (pairs_state None (up_to 0 0 plan)) (each task (task_pairs p.kind cores plan)) task 0
  rows_taken zero le = (None, refl, takes_none-stays (pairs_state None (up_to 0 0 plan)))
  rows_taken (suc task) le =
      let from = pairs_state None (up_to 0 0 plan) in
      let done = rows_taken task (omega arith) in
      let more = row-taken task done.0 le done.1 cores (omega arith) in
      let last = more.0 in
      let whole : Takes (pairs_state done.0 (up_to task 0 plan)) (task_pairs p.kind cores plan task) (pairs_state last (up_to (suc task) 0 plan)) =
      subst (λ held. Takes (pairs_state done.0 (up_to task 0 plan)) (task_pairs p.kind cores plan task) (pairs_state last held)) (up-to-next task cores plan fit.beyond) more.2 in
      (last, before-task last task cores more.1, takes-join from (pairs_state done.0 (up_to task 0 plan)) (pairs_state last (up_to (suc task) 0 plan)) (each task (task_pairs p.kind cores plan)) (task_pairs p.kind cores plan task) done.2 whole)

  -- all pairs, from the first on
  pub pairs-taken : (last : Option Pair) × Takes (state (p.waits None) (p.holds (up_to 0 0 plan)) rows) (pair_lines p.kind tasks cores plan) (state (p.waits last) (p.holds (up_to tasks 0 plan)) rows)
  pairs-taken = let all = rows_taken tasks (omega arith) in (all.0, all.2)
