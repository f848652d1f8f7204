-- A table of its own for a board: it is roomy, holds the board's order, and its fairest plan is the board's.
use Rattle.std.proofs.Common.{◌≡◌, ℕ, ◌*◌, ◌<◌, ◌≤◌, true, false, cond, ◌⊎◌, sym, refl, ap, ◌∙◌, subst, inl, inr, mul-le-mul_right, arith}
use Rattle.std.proofs.lemmas.Bool.Decides.{nat_tests}
use Rattle.std.proofs.lemmas.Bool.{cases_lt}
use Rattle.fairness.specs.Plans.{Plan}
use Rattle.fairness.specs.Laws.{Comparison}
use Rattle.fairness.specs.Levels.{Fairest}
use Rattle.board.specs.Meaning.{Meaning, Sound, SameOrder, planned, new_board, most_slots}
use Rattle.levelling.specs.Levelled.{FairestOn}
use Rattle.table_board.specs.Cells.{table_fits}
use Rattle.table_levelling.specs.Copies.{ordered, Roomy, Holds, Mirrors}

-- a new table for a board
abbrev pub NewTable : Meaning → Meaning → Type 0
NewTable from table = table ≡ cond (table_fits from.tasks from.cores 2064) (new_board from.tasks from.cores (from.tasks * from.cores) most_slots) (new_board 0 0 0 most_slots)

table_is : (from table : Meaning) → Sound from → NewTable from table
    → (table ≡ new_board from.tasks from.cores (from.tasks * from.cores) most_slots) ⊎ ((from.tasks ≡ 0) × (from.cores ≡ 0) × (table ≡ new_board 0 0 0 most_slots))
table_is from table so made = elim (cases_lt 0 from.tasks) [
  | inl some ↦
      let cores : 0 < from.cores = elim (cases_lt 0 from.cores) [ inl l ↦ l | inr l ↦ absurd (omega (arith, so.no_cores (omega arith))) ] in
      let few : from.tasks * from.cores ≤ 1024 = omega (arith, mul-le-mul_right from.cores so.few_tasks, so.few_cores) in
      let fits : table_fits from.tasks from.cores 2064 ≡ true = let n = so.few_tasks in let m = so.few_cores in grind (arith, nat_tests) in
      inl (made ∙ ap (λ b. cond b (new_board from.tasks from.cores (from.tasks * from.cores) most_slots) (new_board 0 0 0 most_slots)) fits)
  | inr none ↦
      let tasks : from.tasks ≡ 0 = omega arith in
      let cores : from.cores ≡ 0 = so.no_tasks tasks in
      let small : table_fits from.tasks from.cores 2064 ≡ false = grind (arith, nat_tests) in
      inr (tasks, cores, made ∙ ap (λ b. cond b (new_board from.tasks from.cores (from.tasks * from.cores) most_slots) (new_board 0 0 0 most_slots)) small)
]

pub table-roomy : (from table : Meaning) → Sound from → NewTable from table → Roomy from table
table-roomy from table so made =
    let P : Meaning → Type 0 = λ z. Roomy from z in
    elim (table_is from table so made) [
      | inl e ↦ subst P (sym e) (record { tasks = refl; cores = refl; pairs = refl; capacities = λ core l. grind (arith, nat_tests) })
      | inr e ↦ subst P (sym e.2) (record { tasks = sym e.0; cores = sym e.1; pairs = omega (arith, ap (λ z. z * from.cores) e.0); capacities = λ core l. absurd (omega (arith, e.1)) })
    ]

pub table-clear : (from table : Meaning) → Sound from → NewTable from table → table ≡ ordered table (λ _. 0) (λ _ _. 0)
table-clear from table so made =
    let P : Meaning → Type 0 = λ z. z ≡ ordered z (λ _. 0) (λ _ _. 0) in
    elim (table_is from table so made) [ inl e ↦ subst P (sym e) refl | inr e ↦ subst P (sym e.2) refl ]

pub ordered-mirrors : (from old with-capacities to : Meaning) → Roomy from old → with-capacities ≡ ordered old from.capacity (λ _ _. 0)
    → to ≡ ordered with-capacities with-capacities.capacity from.need → Mirrors from to
ordered-mirrors from old with-capacities to room e f =
    let w : to ≡ ordered old from.capacity from.need = f ∙ ap (λ (z : Meaning). ordered z z.capacity from.need) e in
    let P : Meaning → Type 0 = λ z. Mirrors from z in
    subst P (sym w) (record { tasks = room.tasks; cores = room.cores; need = refl; capacity = refl })

pub planned-mirrors : (from a b : Meaning) (plan : Plan) → b ≡ planned a plan → Mirrors from a → Mirrors from b
planned-mirrors from a b plan e m =
    let P : Meaning → Type 0 = λ z. Mirrors from z in
    subst P (sym e) (record { tasks = m.tasks; cores = m.cores; need = m.need; capacity = m.capacity })

-- what is feasible on a board is so on its mirror
pub mirror-holds : (from to : Meaning) → Sound from → Mirrors from to → Holds from to
mirror-holds from to so m = record {
  tasks = m.tasks;
  cores = m.cores;
  within = λ t c. omega (arith, so.covered t c, ap (λ (z : Plan). z t c) m.need);
  room = λ c l. rw (m.tasks, m.capacity) (so.fits c (omega (arith, m.cores)));
}

pub holds-mirror : (from to : Meaning) → Sound to → Mirrors from to → Holds to from
holds-mirror from to so m = record {
  tasks = sym m.tasks;
  cores = sym m.cores;
  within = λ t c. omega (arith, so.covered t c, ap (λ (z : Plan). z t c) m.need);
  room = λ c l. rw (← m.tasks, ← m.capacity) (so.fits c (omega (arith, m.cores)));
}

-- the plan that is fairest on the mirror is fairest on the board
pub fairest-back : (compare : Comparison) (from to b : Meaning) → Mirrors from to → FairestOn compare to → b ≡ planned from to.held → FairestOn compare b
fairest-back compare from to b m fairest e =
    let P : Meaning → Type 0 = λ z. FairestOn compare z in
    let h : Plan = to.held in
    let A : ℕ → Type 0 = λ z. Fairest compare z to.cores to.need to.capacity h in
    let B : ℕ → Type 0 = λ z. Fairest compare from.tasks z to.need to.capacity h in
    let C : Plan → Type 0 = λ z. Fairest compare from.tasks from.cores z to.capacity h in
    let D : (ℕ → ℕ) → Type 0 = λ z. Fairest compare from.tasks from.cores from.need z h in
    subst P (sym e) (subst D m.capacity (subst C m.need (subst B m.cores (subst A m.tasks fairest))))

pub planned-order : (from b : Meaning) (plan : Plan) → b ≡ planned from plan → SameOrder from b
planned-order from b plan e = e ∙ ap (planned from) (sym (ap (λ (z : Meaning). z.held) e))

-- as it comes from making it with the board's own numbers
pub new-table : (from table : Meaning) (n m long : ℕ) → n ≡ from.tasks → m ≡ from.cores → long ≡ 2064
    → table ≡ cond (table_fits n m long) (new_board n m (n * m) most_slots) (new_board 0 0 0 most_slots) → NewTable from table
new-table from table n m long p q r made = made ∙ (λ i. cond (table_fits (p i) (q i) (r i)) (new_board (p i) (q i) (p i * q i) most_slots) (new_board 0 0 0 most_slots))
