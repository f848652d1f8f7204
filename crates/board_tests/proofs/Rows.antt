-- What one number written into a row does to the board.
use Rattle.std.proofs.Common.{◌≡◌, ℕ, zero, suc, ◌*◌, ◌<◌, cond, ◌&&◌, eqb, ltb, List, length, get_or, set, replicate, sym, refl, ap, ◌∙◌, inl, inr, arith, length-set}
use mathlib.Core.Path.{fun_ext}
use Rattle.std.proofs.lemmas.List.{get_or-set_same, get_or-set_other}
use Rattle.std.proofs.lemmas.Bool.Decides.{nat_tests}
use Rattle.std.proofs.lemmas.Bool.{cases_eq}
use Rattle.board.specs.Meaning.{put, with_need, with_held, with_capacity, new_board}
use Rattle.pair_board.proofs.Steps.{zeros}
use Rattle.board_tests.specs.declared.row_board.Row.{Row}
use Rattle.board_tests.specs.declared.row_board.RowBoard.{RowBoard}
use Rattle.board_tests.specs.Rows.{greatest, blank, row_at, rows_for, Whole}

abbrev pub with_row_need : Row → ℕ → ℕ → Row
with_row_need row task amount = record { capacity = row.capacity; needs = set row.needs task amount; slots = row.slots }

abbrev pub with_row_slots : Row → ℕ → ℕ → Row
with_row_slots row task amount = record { capacity = row.capacity; needs = row.needs; slots = set row.slots task amount }

abbrev pub with_row_capacity : Row → ℕ → Row
with_row_capacity row amount = record { capacity = amount; needs = row.needs; slots = row.slots }

-- the numbers of one kind, row by row
abbrev plan : ℕ → ℕ → (Row → List ℕ) → List Row → ℕ → ℕ → ℕ
plan n m kind rows task core = cond (ltb task n && ltb core m) (get_or (kind (row_at rows core)) task 0) 0

module _ (n m : ℕ) (rows : List Row) (core : ℕ) (row : Row) (cm : core < m) (on : core < length rows) where
  written : row_at (set rows core row) core ≡ row
  written = get_or-set_same rows core row blank on

  apart : (c : ℕ) → (c ≡ core → ⊥) → row_at (set rows core row) c ≡ row_at rows c
  apart c ne = get_or-set_other rows core c row blank ne

  -- a row with one number of the kind changed
  plan-put : (kind : Row → List ℕ) (task amount : ℕ) → task < n → task < length (kind (row_at rows core)) → kind row ≡ set (kind (row_at rows core)) task amount
      → plan n m kind (set rows core row) ≡ put (plan n m kind rows) task core amount
  plan-put kind task amount tn fits is = fun_ext (λ t. fun_ext (λ c. elim (cases_eq c core) [
    | inl ec ↦ elim (cases_eq t task) [
      | inl et ↦
          let got : get_or (kind (row_at (set rows core row) core)) task 0 ≡ amount = ap (λ r. get_or (kind r) task 0) written ∙ ap (λ xs. get_or xs task 0) is ∙ get_or-set_same (kind (row_at rows core)) task amount 0 fits in
          rw (ec, et) (grind (arith, nat_tests))
      | inr nt ↦
          let got : get_or (kind (row_at (set rows core row) core)) t 0 ≡ get_or (kind (row_at rows core)) t 0 =
          ap (λ r. get_or (kind r) t 0) written ∙ ap (λ xs. get_or xs t 0) is ∙ get_or-set_other (kind (row_at rows core)) task t amount 0 nt in
          rw ec (grind (arith, nat_tests))
    ]
    | inr nc ↦
        let got : get_or (kind (row_at (set rows core row) c)) t 0 ≡ get_or (kind (row_at rows c)) t 0 = ap (λ r. get_or (kind r) t 0) (apart c nc) in
        grind (arith, nat_tests)
  ]))

  -- a row with the kind as it was
  plan-same : (kind : Row → List ℕ) → kind row ≡ kind (row_at rows core) → plan n m kind (set rows core row) ≡ plan n m kind rows
  plan-same kind is = fun_ext (λ t. fun_ext (λ c. elim (cases_eq c core) [
    | inl ec ↦
        let got : kind (row_at (set rows core row) c) ≡ kind (row_at rows c) = ap (λ x. kind (row_at (set rows core row) x)) ec ∙ ap kind written ∙ is ∙ ap (λ x. kind (row_at rows x)) (sym ec) in
        ap (λ xs. cond (ltb t n && ltb c m) (get_or xs t 0) 0) got
    | inr nc ↦ ap (λ r. cond (ltb t n && ltb c m) (get_or (kind r) t 0) 0) (apart c nc)
  ]))

  capacity-put : (c : ℕ) → cond (ltb c m) (row_at (set rows core row) c).capacity 0 ≡ cond (eqb c core) row.capacity (cond (ltb c m) (row_at rows c).capacity 0)
  capacity-put c = elim (cases_eq c core) [
    | inl e ↦ (let got : (row_at (set rows core row) core).capacity ≡ row.capacity = ap (λ r. r.capacity) written in rw e (grind (arith, nat_tests)))
    | inr ne ↦ (let got : (row_at (set rows core row) c).capacity ≡ (row_at rows c).capacity = ap (λ r. r.capacity) (apart c ne) in grind (arith, nat_tests))
  ]

  capacity-same : row.capacity ≡ (row_at rows core).capacity → (c : ℕ) → cond (ltb c m) (row_at (set rows core row) c).capacity 0 ≡ cond (ltb c m) (row_at rows c).capacity 0
  capacity-same is c = elim (cases_eq c core) [
    | inl e ↦ (let got : (row_at (set rows core row) core).capacity ≡ (row_at rows core).capacity = ap (λ r. r.capacity) written ∙ is in rw e (grind (arith, nat_tests)))
    | inr ne ↦ ap (λ r. cond (ltb c m) r.capacity 0) (apart c ne)
  ]

module _ (n m : ℕ) (rows : List Row) (core : ℕ) (cm : core < m) (on : core < length rows) where
  pub need-written : (task amount : ℕ) → task < n → task < length (row_at rows core).needs
      → rows_for n m (set rows core (with_row_need (row_at rows core) task amount)) ≡ with_need (rows_for n m rows) task core amount
  need-written task amount tn fits =
      let row : Row = with_row_need (row_at rows core) task amount in
      let needs = plan-put n m rows core row cm on (λ r. r.needs) task amount tn fits refl in
      let helds = plan-same n m rows core row cm on (λ r. r.slots) refl in
      let caps = fun_ext (capacity-same n m rows core row cm on refl) in
      λ j. record { tasks = n; cores = m; capacity = caps j; need = needs j; held = helds j; greatest_pairs = n * m; greatest_capacity = λ core. cond (ltb core m) greatest 0 }

  pub held-written : (task amount : ℕ) → task < n → task < length (row_at rows core).slots
      → rows_for n m (set rows core (with_row_slots (row_at rows core) task amount)) ≡ with_held (rows_for n m rows) task core amount
  held-written task amount tn fits =
      let row : Row = with_row_slots (row_at rows core) task amount in
      let needs = plan-same n m rows core row cm on (λ r. r.needs) refl in
      let helds = plan-put n m rows core row cm on (λ r. r.slots) task amount tn fits refl in
      let caps = fun_ext (capacity-same n m rows core row cm on refl) in
      λ j. record { tasks = n; cores = m; capacity = caps j; need = needs j; held = helds j; greatest_pairs = n * m; greatest_capacity = λ core. cond (ltb core m) greatest 0 }

  pub capacity-written : (amount : ℕ) → rows_for n m (set rows core (with_row_capacity (row_at rows core) amount)) ≡ with_capacity (rows_for n m rows) core amount
  capacity-written amount =
      let row : Row = with_row_capacity (row_at rows core) amount in
      let needs = plan-same n m rows core row cm on (λ r. r.needs) refl in
      let helds = plan-same n m rows core row cm on (λ r. r.slots) refl in
      let caps = fun_ext (capacity-put n m rows core row cm on) in
      λ j. record { tasks = n; cores = m; capacity = caps j; need = needs j; held = helds j; greatest_pairs = n * m; greatest_capacity = λ core. cond (ltb core m) greatest 0 }

-- the rows stay whole
pub still-whole : (b : RowBoard) (core : ℕ) (row : Row) → Whole b → core < 16 → length row.needs ≡ length (row_at b.rows core).needs
    → length row.slots ≡ length (row_at b.rows core).slots → Whole (record { tasks = b.tasks; cores = b.cores; rows = set b.rows core row })
still-whole b core row w on needs slots = record {
  sixteen = simp length-set w.sixteen;
  all_needs = λ c l. elim (cases_eq c core) [
    | inl e ↦ rw e (ap (λ r. length r.needs) (get_or-set_same b.rows core row blank (omega (arith, w.sixteen))) ∙ needs ∙ w.all_needs core on)
    | inr ne ↦ ap (λ r. length r.needs) (get_or-set_other b.rows core c row blank ne) ∙ w.all_needs c l
  ];
  all_slots = λ c l. elim (cases_eq c core) [
    | inl e ↦ rw e (ap (λ r. length r.slots) (get_or-set_same b.rows core row blank (omega (arith, w.sixteen))) ∙ slots ∙ w.all_slots core on)
    | inr ne ↦ ap (λ r. length r.slots) (get_or-set_other b.rows core c row blank ne) ∙ w.all_slots c l
  ];
}

-- rows of zeros
abbrev pub zero_row : Row
zero_row = record { capacity = 0; needs = replicate 64 0; slots = replicate 64 0 }

zero-needs : (k core task : ℕ) → ◌≡◌ {A = ℕ} (get_or (row_at (replicate k zero_row) core).needs task 0) 0
zero-needs zero core task = refl
zero-needs (suc k) zero task = zeros 64 task
zero-needs (suc k) (suc core) task = zero-needs k core task

zero-slots : (k core task : ℕ) → ◌≡◌ {A = ℕ} (get_or (row_at (replicate k zero_row) core).slots task 0) 0
zero-slots zero core task = refl
zero-slots (suc k) zero task = zeros 64 task
zero-slots (suc k) (suc core) task = zero-slots k core task

zero-capacity : (k core : ℕ) → ◌≡◌ {A = ℕ} (row_at (replicate k zero_row) core).capacity 0
zero-capacity zero core = refl
zero-capacity (suc k) zero = refl
zero-capacity (suc k) (suc core) = zero-capacity k core

pub all-zero : (n m : ℕ) → rows_for n m (replicate 16 zero_row) ≡ new_board n m (n * m) greatest
all-zero n m =
    let rows : List Row = replicate 16 zero_row in
    let none : ℕ → ℕ → ℕ = λ _ _. 0 in
    let needs : plan n m (λ r. r.needs) rows ≡ none = fun_ext (λ t. fun_ext (λ c. let z : get_or (row_at rows c).needs t 0 ≡ 0 = zero-needs 16 c t in grind (arith, nat_tests))) in
    let helds : plan n m (λ r. r.slots) rows ≡ none = fun_ext (λ t. fun_ext (λ c. let z : get_or (row_at rows c).slots t 0 ≡ 0 = zero-slots 16 c t in grind (arith, nat_tests))) in
    let caps : ◌≡◌ {A = ℕ → ℕ} (λ c. cond (ltb c m) (row_at rows c).capacity 0) (λ _. 0) = fun_ext (λ c. let z : (row_at rows c).capacity ≡ 0 = zero-capacity 16 c in grind (arith, nat_tests)) in
    λ j. record { tasks = n; cores = m; capacity = caps j; need = needs j; held = helds j; greatest_pairs = n * m; greatest_capacity = λ core. cond (ltb core m) greatest 0 }

zero-long : (k core : ℕ) → core < k → ◌≡◌ {A = Row} (row_at (replicate k zero_row) core) zero_row
zero-long zero core l = absurd (omega arith)
zero-long (suc k) zero l = refl
zero-long (suc k) (suc core) l = zero-long k core (omega arith)

pub zero-whole : (n m : ℕ) → Whole (record { tasks = n; cores = m; rows = replicate 16 zero_row })
zero-whole n m = record {
  sixteen = refl;
  all_needs = λ core l. ap (λ r. length r.needs) (zero-long 16 core l);
  all_slots = λ core l. ap (λ r. length r.slots) (zero-long 16 core l);
}
