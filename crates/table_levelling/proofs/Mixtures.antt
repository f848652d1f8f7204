-- Laws of plans that are new in front and old behind.
use Rattle.std.proofs.Common.{◌≡◌, ℕ, ◌+◌, ◌≤◌, cond, eqb, inl, inr, ap, ◌∙◌, arith}
use mathlib.Core.Path.{fun_ext}
use Rattle.std.proofs.lemmas.Bool.Decides.{nat_tests}
use Rattle.std.proofs.lemmas.Bool.{cases_lt, cases_eq, cond-true, cond-false, lt-ltb, le-ltb}
use Rattle.fairness.specs.Plans.{Plan}
use Rattle.board.specs.Meaning.{put}
use Rattle.table_levelling.specs.Copies.{tasks_to, row_to, pairwise, capacities_to}

pub row-start : (new old : Plan) (task : ℕ) → row_to new old task 0 ≡ old
row-start new old task = fun_ext (λ t. fun_ext (λ c. grind (arith, nat_tests)))

-- the pair that comes next is still old
pub row_here : (new old : Plan) (task core : ℕ) → row_to new old task core task core ≡ old task core
row_here new old task core = grind (arith, nat_tests)

pub row_put : (new old : Plan) (task core : ℕ) → put (row_to new old task core) task core (new task core) ≡ row_to new old task (core + 1)
row_put new old task core = fun_ext (λ t. fun_ext (λ c. elim (cases_eq t task) [
  | inl e ↦ elim (cases_eq c core) [
    | inl f ↦ rw (e, f) (grind (arith, nat_tests))
    | inr f ↦ grind (arith, nat_tests)
  ]
  | inr e ↦ grind (arith, nat_tests)
]))

pub row-le : (new old most : Plan) (task bound : ℕ) → ((t c : ℕ) → new t c ≤ most t c) → ((t c : ℕ) → old t c ≤ most t c) → (t c : ℕ) → row_to new old task bound t c ≤ most t c
row-le new old most task bound p q t c = grind (arith, nat_tests, p t c, q t c)

pub tasks-start : (new old : Plan) → tasks_to new old 0 ≡ old
tasks-start new old = fun_ext (λ t. fun_ext (λ c. grind (arith, nat_tests)))

-- the task that comes next is still old
pub tasks-here : (new old : Plan) (task core : ℕ) → tasks_to new old task task core ≡ old task core
tasks-here new old task core = grind (arith, nat_tests)

-- a change that settles makes the same of plans of which some tasks are changed
pub tasks-change : (change : ℕ → ℕ → ℕ) (from old : Plan) → ((a b : ℕ) → change a (change a b) ≡ change a b)
    → (bound t c : ℕ) → change (from t c) (tasks_to (pairwise change from old) old bound t c) ≡ change (from t c) (old t c)
tasks-change change from old settled bound t c = elim (cases_lt t bound) [
  | inl l ↦ ap (change (from t c)) (cond-true _ _ _ (lt-ltb t bound l)) ∙ settled (from t c) (old t c)
  | inr l ↦ ap (change (from t c)) (cond-false _ _ _ (le-ltb t bound l))
]

-- one task more
pub tasks-row : (new old next : Plan) (task cores : ℕ) → ((t c : ℕ) → cores ≤ c → new t c ≡ old t c) → ((c : ℕ) → next task c ≡ new task c)
    → row_to next (tasks_to new old task) task cores ≡ tasks_to new old (task + 1)
tasks-row new old next task cores same here = fun_ext (λ t. fun_ext (λ c. elim (cases_eq t task) [
  | inl e ↦ elim (cases_lt c cores) [
    | inl l ↦ let f = here c in rw e (grind (arith, nat_tests))
    | inr l ↦ let f = same t c l in grind (arith, nat_tests)
  ]
  | inr e ↦ grind (arith, nat_tests)
]))

-- all tasks
pub tasks-all : (new old : Plan) (tasks : ℕ) → ((t c : ℕ) → tasks ≤ t → new t c ≡ old t c) → tasks_to new old tasks ≡ new
tasks-all new old tasks same = fun_ext (λ t. fun_ext (λ c. elim (cases_lt t tasks) [
  | inl l ↦ grind (arith, nat_tests)
  | inr l ↦ let e = same t c l in grind (arith, nat_tests)
]))

pub capacities-start : (capacity : ℕ → ℕ) → capacities_to capacity 0 ≡ (λ _. 0)
capacities-start capacity = fun_ext (λ c. grind (arith, nat_tests))

pub capacities-put : (capacity : ℕ → ℕ) (core : ℕ) → (λ (c : ℕ). cond (eqb c core) (capacity core) (capacities_to capacity core c)) ≡ capacities_to capacity (core + 1)
capacities-put capacity core = fun_ext (λ c. elim (cases_eq c core) [
  | inl e ↦ rw e (grind (arith, nat_tests))
  | inr e ↦ grind (arith, nat_tests)
])

pub capacities-all : (capacity : ℕ → ℕ) (cores : ℕ) → ((c : ℕ) → cores ≤ c → capacity c ≡ 0) → capacities_to capacity cores ≡ capacity
capacities-all capacity cores none = fun_ext (λ c. elim (cases_lt c cores) [
  | inl l ↦ grind (arith, nat_tests)
  | inr l ↦ let e = none c l in grind (arith, nat_tests)
])
