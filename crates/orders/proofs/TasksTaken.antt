-- The tasks of an order are taken in.
use Rattle.std.proofs.Common.{◌≡◌, ℕ, zero, suc, ◌-◌, ◌<◌, ◌≤◌, true, false, eqb, ltb, List, [], ◌∷◌, ◌++◌, length, take, Some, None, Ok, sym, refl, ap, ◌∙◌, subst, subst₂, add-one, arith}
use Rattle.std.specs.Str.{bytes_eq}
use Rattle.std.proofs.lemmas.Bool.Decides.{nat_tests, same_from_decides, Decides-like}
use Rattle.std.proofs.lemmas.Slice.Eq.{bytes_eq-Decides}
use Rattle.std.proofs.lemmas.List.{take_more, take_all, length-take-le}
use Rattle.std.proofs.lemmas.Bool.{cond-true, cond-false, eq-eqb, ne_eqb}
use Rattle.board.specs.Meaning.{Meaning}
use Rattle.tasks.specs.Rows.{Row, row, taken, good_weight, sound}
use Rattle.tasks.specs.Names.{good_name}
use Rattle.tasks.specs.Table.{no_row, name_in, weight_in, push_why, answered, unless_refused}
use Rattle.records.specs.declared.kind.Kind.TheVariants as kind
use Rattle.records.specs.Fields.{TaskSaid, task_in}
use Rattle.sections.specs.declared.state.Section.TheVariants.{Tasks, Needs}
use Rattle.sections.specs.Turns as turns
use Rattle.sections.specs.Turns.{task_fits, task_told, task_next, section_at}
use Rattle.sections.specs.Lines.{Said, saying}
use Rattle.orders.specs.Encoding.{line, each, task_line}
use Rattle.orders.proofs.Lines.{cut_of}
use Rattle.orders.proofs.Takes.{State, state, Takes, takes_none-stays, takes-line, takes-join, step-done}
use Rattle.orders.proofs.CoresTaken.{reader}

good-weight : (rs : List Row) (k : ℕ) → sound rs ≡ true → k < length rs → good_weight (weight_in rs k) ≡ true
good-weight [] k s h = absurd (omega arith)
good-weight (r ∷ rs) zero s h = grind (arith, nat_tests)
good-weight (r ∷ rs) (suc k) s h = good-weight rs k (grind (arith, nat_tests)) (omega arith)

good-name : (rs : List Row) (k : ℕ) → sound rs ≡ true → k < length rs → good_name (name_in rs k) ≡ true
good-name [] k s h = absurd (omega arith)
good-name (r ∷ rs) zero s h = grind (arith, nat_tests)
good-name (r ∷ rs) (suc k) s h = good-name rs k (grind (arith, nat_tests)) (omega arith)

-- a name that no row has
others : (name : List ℕ) (rs : List Row) (k : ℕ) → taken name rs ≡ false → k < length rs → bytes_eq name (name_in rs k) ≡ false
others name [] k free h = absurd (omega arith)
others name (r ∷ rs) zero free h =
    let turned : bytes_eq name r.name ≡ bytes_eq r.name name = same_from_decides _ _ (Decides-like _ sym sym (bytes_eq-Decides name r.name)) (bytes_eq-Decides r.name name) in
    grind (arith, nat_tests)
others name (r ∷ rs) (suc k) free h = others name rs k (grind (arith, nat_tests)) (omega arith)

-- no row before the task has its name
new-name : (rs : List Row) (k : ℕ) → sound rs ≡ true → k < length rs → taken (name_in rs k) (take k rs) ≡ false
new-name [] k s h = absurd (omega arith)
new-name (r ∷ rs) zero s h = refl
new-name (r ∷ rs) (suc k) s h =
    let before = new-name rs k (grind (arith, nat_tests)) (omega arith) in
    let first = others r.name rs k (grind (arith, nat_tests)) (omega arith) in
    grind (arith, nat_tests)

-- the rows of a sound table can be added one after another
next_row : (rs : List Row) (k : ℕ) → sound rs ≡ true → length rs ≤ 64 → k < length rs → push_why (take k rs) k (weight_in rs k) (name_in rs k) ≡ None
next_row rs k s few h =
    let size = length-take-le k rs (omega arith) in
    let weight = good-weight rs k s h in
    let name = good-name rs k s h in
    let new = new-name rs k s h in
    grind (arith, nat_tests)

named : (name : List ℕ) → good_name name ≡ true → (1 ≤ length name) × (length name ≤ 12)
named name good = (grind (arith, nat_tests), grind (arith, nat_tests))

-- the body of a task's line says the task
task-in : (task weight : ℕ) (name : List ℕ) → good_name name ≡ true → task_in (task ∷ weight ∷ name) ≡ Some (record { task = task; weight = weight; name = name })
task-in task weight name good =
    let body = task ∷ weight ∷ name in
    let size = named name good in
    let long : ltb (length body) 3 ≡ false = grind (arith, nat_tests) in
    let short : ltb 14 (length body) ≡ false = grind (arith, nat_tests) in
    let whole : take (length body - 2) name ≡ name = take_all (length body - 2) name (omega arith) in
    cond-false (ltb (length body) 3) _ _ long ∙ cond-false (ltb 14 (length body)) _ _ short ∙ (λ i. Some (record { task = task; weight = weight; name = whole i }))

module _ (board : Meaning) (letter tasks cores : ℕ) (rows : List Row) (s : sound rows ≡ true) (few : length rows ≤ 64) (all : length rows ≡ tasks) where
  abbrev tasks_state : ℕ → State
  tasks_state k = state (reader (section_at k tasks Needs Tasks) letter tasks cores cores k) board (take k rows)

  task-taken : (k : ℕ) → k < tasks → Takes (tasks_state k) (task_line rows k) (tasks_state (suc k))
  task-taken k on =
      let weight = weight_in rows k in
      let name = name_in rows k in
      let body = k ∷ weight ∷ name in
      let inside : k < length rows = omega arith in
      let r = reader Tasks letter tasks cores cores k in
      let r' = reader (section_at (suc k) tasks Needs Tasks) letter tasks cores cores (suc k) in
      let said : TaskSaid = record { task = k; weight = weight; name = name } in
      let here : section_at k tasks Needs Tasks ≡ Tasks = cond-false (eqb k tasks) Needs Tasks (ne_eqb k tasks (λ e. omega arith)) in
      let accepts : task_fits r (Some said) ≡ Ok said = grind (arith, nat_tests) in
      let told : task_told r body ≡ Ok said = ap (task_fits r) (task-in k weight name (good-name rows k s inside)) ∙ accepts in
      let leaves : task_next r said ≡ r' = ap (λ u. reader (section_at u tasks Needs Tasks) letter tasks cores cores u) (add-one k) in
      let free = next_row rows k s few inside in
      let more : take k rows ++ row weight name ∷ [] ≡ take (suc k) rows = sym (take_more rows k no_row inside) ∙ ap (λ n. take n rows) (add-one k) in
      let step : (seen at : ℕ) → _ = λ seen at. step-done r board (take k rows) r' board (take (suc k) rows) seen (cut_of (line kind.Task body) at) (Said.task said)
      (ap (saying Said.task) told) (ap (λ found. turns.unless_refused found r (task_next r)) told ∙ leaves)
      (ap answered free) refl (ap (λ why. unless_refused why (take k rows) (row weight name)) free ∙ more) in
      subst (λ section. Takes (state (reader section letter tasks cores cores k) board (take k rows)) (task_line rows k) (tasks_state (suc k))) (sym here)
      (takes-line (state r board (take k rows)) (tasks_state (suc k)) (line kind.Task body) step)

  tasks-below : (k : ℕ) → k ≤ tasks → Takes (tasks_state 0) (each k (task_line rows)) (tasks_state k)
  tasks-below zero on = takes_none-stays (tasks_state 0)
  tasks-below (suc k) on = takes-join (tasks_state 0) (tasks_state k) (tasks_state (suc k)) (each k (task_line rows)) (task_line rows k) (tasks-below k (omega arith)) (task-taken k on)

  -- from the first task on to the needs
  pub tasks-taken : 1 ≤ tasks → Takes (state (reader Tasks letter tasks cores cores 0) board []) (each tasks (task_line rows)) (state (reader Needs letter tasks cores cores tasks) board rows)
  tasks-taken some =
      let first : section_at 0 tasks Needs Tasks ≡ Tasks = cond-false (eqb 0 tasks) Needs Tasks (ne_eqb 0 tasks (λ e. omega arith)) in
      let last : section_at tasks tasks Needs Tasks ≡ Needs = cond-true (eqb tasks tasks) Needs Tasks (eq-eqb tasks tasks refl) in
      let whole : take tasks rows ≡ rows = take_all tasks rows (omega arith) in
      let from : tasks_state 0 ≡ state (reader Tasks letter tasks cores cores 0) board [] = λ i. state (reader (first i) letter tasks cores cores 0) board [] in
      let to : tasks_state tasks ≡ state (reader Needs letter tasks cores cores tasks) board rows = λ i. state (reader (last i) letter tasks cores cores tasks) board (whole i) in
      subst₂ (λ s t. Takes s (each tasks (task_line rows)) t) from to (tasks-below tasks (omega arith))
