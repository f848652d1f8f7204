-- What one number written into the cells does to the board that lies there.
use Rattle.std.proofs.Common.{◌≡◌, ℕ, ◌+◌, ◌*◌, ◌<◌, ◌≤◌, true, cond, ◌&&◌, ltb, List, length, get_or, set, ap, inl, inr, arith, get_or-set_other, get_or-set_same}
use mathlib.Core.Path.{fun_ext}
use Rattle.std.proofs.lemmas.Bool.Decides.{nat_tests}
use Rattle.std.proofs.lemmas.Bool.{cases_eq, cases_lt, and_parts, leb-true}
use Rattle.std.proofs.lemmas.Nat.{mul-add-lt, div-mul-add}
use Rattle.fairness.specs.Plans.{Plan}
use Rattle.board.specs.Meaning.{most_slots, put, with_need, with_held, with_capacity, new_board, sizes_allowed}
use Rattle.board.proofs.New.{Sizes, allowed}
use Rattle.table_board.specs.Cells.{numbers, table_fits, grid, table}

-- two pairs at one place are the same pair
same_place : (m task core t c : ℕ) → core < m → c < m → t * m + c ≡ task * m + core → (t ≡ task) × (c ≡ core)
same_place m task core t c p q e =
    let row : t ≡ task = grind (arith, div-mul-add) in
    (row, omega (arith, ap (λ x. x * m) row))

-- a write outside a grid
grid-past : (n m : ℕ) (cells : List ℕ) (from at amount : ℕ) → ((t c : ℕ) → t < n → c < m → from + (t * m + c) ≡ at → ⊥)
    → (t c : ℕ) → grid n m (set cells at amount) from t c ≡ grid n m cells from t c
grid-past n m cells from at amount apart t c = elim (cases_lt t n) [
  | inl tn ↦ elim (cases_lt c m) [
    | inl cm ↦ ap (λ x. cond (ltb t n && ltb c m) x 0) (get_or-set_other cells at (from + (t * m + c)) amount 0 (apart t c tn cm))
    | inr out ↦ grind (arith, nat_tests)
  ]
  | inr out ↦ grind (arith, nat_tests)
]

-- a write into a grid
grid-put : (n m : ℕ) (cells : List ℕ) (from task core at amount : ℕ) → task < n → core < m → at ≡ from + (task * m + core) → at < length cells
    → (t c : ℕ) → grid n m (set cells at amount) from t c ≡ put (grid n m cells from) task core amount t c
grid-put n m cells from task core at amount tn cm here fits t c =
    let there : ℕ = from + (t * m + c) in
    elim (cases_lt c m) [
      | inl inside ↦ elim (cases_eq there at) [
        | inl e ↦
            let pair = same_place m task core t c cm inside (omega arith) in
            let got : get_or (set cells at amount) (from + (task * m + core)) 0 ≡ amount = rw (← here) (get_or-set_same cells at amount 0 fits) in
            rw (pair.0, pair.1) (grind (arith, nat_tests))
        | inr ne ↦
            let got : get_or (set cells at amount) there 0 ≡ get_or cells there 0 = get_or-set_other cells at there amount 0 ne in
            grind (arith, nat_tests)
      ]
      | inr out ↦ grind (arith, nat_tests)
    ]

module _ (n m : ℕ) (cells : List ℕ) where
  abbrev capacities : List ℕ → ℕ → ℕ
  capacities list core = cond (ltb core m) (get_or list (2 * (n * m) + core) 0) 0

  -- a write before the capacities
  capacities-past : (at amount : ℕ) → at < 2 * (n * m) → capacities (set cells at amount) ≡ capacities cells
  capacities-past at amount before = fun_ext (λ c. ap (λ x. cond (ltb c m) x 0) (get_or-set_other cells at (2 * (n * m) + c) amount 0 (λ e. omega arith)))

  -- the same table with other numbers in it
  table-of : (cells' : List ℕ) (capacity : ℕ → ℕ) (need held : Plan) → capacities cells' ≡ capacity → grid n m cells' 0 ≡ need → grid n m cells' (n * m) ≡ held
      → table n m cells' ≡ record { tasks = n; cores = m; capacity = capacity; need = need; held = held; greatest_pairs = n * m; greatest_capacity = λ core. cond (ltb core m) most_slots 0 }
  table-of cells' capacity need held caps needs helds =
      λ j. record { tasks = n; cores = m; capacity = caps j; need = needs j; held = helds j; greatest_pairs = n * m; greatest_capacity = λ core. cond (ltb core m) most_slots 0 }

  pub need-written : (task core at amount : ℕ) → task < n → core < m → numbers n m ≤ length cells → at ≡ task * m + core → at < n * m
      → table n m (set cells at amount) ≡ with_need (table n m cells) task core amount
  need-written task core at amount tn cm long here inside =
      table-of (set cells at amount) _ _ _ (capacities-past at amount (omega arith))
      (fun_ext (λ t. fun_ext (λ c. grid-put n m cells 0 task core at amount tn cm (omega arith) (omega arith) t c)))
      (fun_ext (λ t. fun_ext (λ c. grid-past n m cells (n * m) at amount (λ a b an bm e. omega arith) t c)))

  pub held-written : (task core at amount : ℕ) → task < n → core < m → numbers n m ≤ length cells → at ≡ n * m + (task * m + core) → at < 2 * (n * m)
      → table n m (set cells at amount) ≡ with_held (table n m cells) task core amount
  held-written task core at amount tn cm long here inside =
      table-of (set cells at amount) _ _ _ (capacities-past at amount inside)
      (fun_ext (λ t. fun_ext (λ c. grid-past n m cells 0 at amount (λ a b an bm e. omega (arith, mul-add-lt a m b n an bm)) t c)))
      (fun_ext (λ t. fun_ext (λ c. grid-put n m cells (n * m) task core at amount tn cm here (omega arith) t c)))

  pub capacity-written : (core at amount : ℕ) → core < m → numbers n m ≤ length cells → at ≡ 2 * (n * m) + core
      → table n m (set cells at amount) ≡ with_capacity (table n m cells) core amount
  capacity-written core at amount cm long here =
      table-of (set cells at amount) _ _ _
      (fun_ext (λ c. elim (cases_eq c core) [
        | inl e ↦ (let got : get_or (set cells at amount) (2 * (n * m) + core) 0 ≡ amount = rw (← here) (get_or-set_same cells at amount 0 (omega arith)) in rw e (grind (arith, nat_tests)))
        | inr ne ↦ (let got : get_or (set cells at amount) (2 * (n * m) + c) 0 ≡ get_or cells (2 * (n * m) + c) 0 = get_or-set_other cells at (2 * (n * m) + c) amount 0 (λ e. ne (omega arith)) in grind (arith, nat_tests))
      ]))
      (fun_ext (λ t. fun_ext (λ c. grid-past n m cells 0 at amount (λ a b an bm e. omega (arith, mul-add-lt a m b n an bm)) t c)))
      (fun_ext (λ t. fun_ext (λ c. grid-past n m cells (n * m) at amount (λ a b an bm e. omega (arith, mul-add-lt a m b n an bm)) t c)))

  -- a grid of zeros
  grid-zero : (from : ℕ) → from + n * m ≤ numbers n m → ((at : ℕ) → at < numbers n m → get_or cells at 0 ≡ 0) → (t c : ℕ) → grid n m cells from t c ≡ 0
  grid-zero from inside zero t c = elim (cases_lt t n) [
    | inl tn ↦ elim (cases_lt c m) [
      | inl cm ↦ (let got = zero (from + (t * m + c)) (omega (arith, mul-add-lt t m c n tn cm)) in grind (arith, nat_tests))
      | inr out ↦ grind (arith, nat_tests)
    ]
    | inr out ↦ grind (arith, nat_tests)
  ]

  pub all-zero : ((at : ℕ) → at < numbers n m → get_or cells at 0 ≡ 0) → table n m cells ≡ new_board n m (n * m) most_slots
  all-zero zero =
      table-of cells _ _ _
      (fun_ext (λ c. elim (cases_lt c m) [
        | inl cm ↦ (let got = zero (2 * (n * m) + c) (omega arith) in grind (arith, nat_tests))
        | inr out ↦ grind (arith, nat_tests)
      ]))
      (fun_ext (λ t. fun_ext (λ c. grid-zero 0 (omega arith) zero t c)))
      (fun_ext (λ t. fun_ext (λ c. grid-zero (n * m) (omega arith) zero t c)))

-- what a check that passes tells
pub fits : (n m long : ℕ) → table_fits n m long ≡ true → Sizes n m × (numbers n m ≤ long)
fits n m long can =
    let both = and_parts (sizes_allowed n m) _ can in
    (allowed n m both.0, leb-true _ _ both.1)
