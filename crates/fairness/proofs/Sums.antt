-- Laws of sums, over all indices below a bound and over a set of them.
use Rattle.std.proofs.Common.{◌≡◌, ℕ, zero, suc, ◌+◌, ◌*◌, ◌<◌, ◌≤◌, Bool, true, false, cond, not, eqb, ◌⊎◌, sym, refl, ◌∙◌, inl, inr, add-one, arith}
use Rattle.std.proofs.lemmas.Bool.{cases_Bool, cases_eq, or_cases, false≢true, cond-true, cond-false, eq-eqb, ne_eqb, and_from, and_parts}
use Rattle.fairness.specs.Sums.{sum_to, all_to, some_to}

-- the sum over the indices below n that stand in the set r
abbrev pub sum_in : ℕ → (ℕ → Bool) → (ℕ → ℕ) → ℕ
sum_in n r f = sum_to n (λ i. cond (r i) (f i) 0)

-- one summand more, in the form in which a loop adds it
pub sum_more : (n : ℕ) (f : ℕ → ℕ) → sum_to (n + 1) f ≡ sum_to n f + f n
sum_more n f = rw add-one

pub sum-le : (n : ℕ) (f g : ℕ → ℕ) → ((i : ℕ) → i < n → f i ≤ g i) → sum_to n f ≤ sum_to n g
sum-le zero f g h = omega arith
sum-le (suc n) f g h = omega (arith, h n (omega arith), sum-le n f g (λ i l. h i (omega arith)))

pub sum-eq : (n : ℕ) (f g : ℕ → ℕ) → ((i : ℕ) → i < n → f i ≡ g i) → sum_to n f ≡ sum_to n g
sum-eq zero f g h = refl
sum-eq (suc n) f g h = omega (arith, sum-eq n f g (λ i l. h i (omega arith)), h n (omega arith))

pub sum-add : (n : ℕ) (f g : ℕ → ℕ) → sum_to n (λ i. f i + g i) ≡ sum_to n f + sum_to n g
sum-add zero f g = refl
sum-add (suc n) f g = omega (arith, sum-add n f g)

pub sum-zero : (n : ℕ) → sum_to n (λ i. 0) ≡ 0
sum-zero zero = refl
sum-zero (suc n) = omega (arith, sum-zero n)

pub sum-swap : (n m : ℕ) (f : ℕ → ℕ → ℕ) → sum_to n (λ i. sum_to m (λ j. f i j)) ≡ sum_to m (λ j. sum_to n (λ i. f i j))
sum-swap zero m f = sym (sum-zero m)
sum-swap (suc n) m f = omega (arith, sum-swap n m f, sum-add m (λ j. sum_to n (λ i. f i j)) (f n))

pub sum-mul : (n s : ℕ) (f : ℕ → ℕ) → sum_to n (λ i. s * f i) ≡ s * sum_to n f
sum-mul zero s f = omega arith
sum-mul (suc n) s f = omega (arith, sum-mul n s f)

-- two functions that differ at one index
pub sum-point : (n k : ℕ) (f g : ℕ → ℕ) → k < n → ((i : ℕ) → i < n → (i ≡ k → ⊥) → g i ≡ f i) → sum_to n g + f k ≡ sum_to n f + g k
sum-point zero k f g l h = omega arith
sum-point (suc n) k f g l h = elim (cases_eq n k) [
  | inl e ↦ rw (← e) (omega (arith, sum-eq n f g (λ i u. sym (h i (omega arith) (λ x. omega arith)))))
  | inr e ↦ omega (arith, sum-point n k f g (omega arith) (λ i u x. h i (omega arith) x), h n (omega arith) e)
]

pub sum-at : (n k : ℕ) (f : ℕ → ℕ) → k < n → f k ≤ sum_to n f
sum-at zero k f l = omega arith
sum-at (suc n) k f l = elim (cases_eq k n) [
  | inl e ↦ rw e (omega arith)
  | inr e ↦ omega (arith, sum-at n k f (omega arith))
]

pub sum_lt : (n k : ℕ) (f g : ℕ → ℕ) → k < n → f k < g k → ((i : ℕ) → i < n → f i ≤ g i) → sum_to n f < sum_to n g
sum_lt zero k f g l s h = omega arith
sum_lt (suc n) k f g l s h = elim (cases_eq k n) [
  | inl e ↦ omega (arith, sum-le n f g (λ i u. h i (omega arith)), rw e at s)
  | inr e ↦ omega (arith, sum_lt n k f g (omega arith) s (λ i u. h i (omega arith)), h n (omega arith))
]

-- a function that is 0 but at one index
pub sum_one : (n k b : ℕ) → k < n → sum_to n (λ i. cond (eqb i k) b 0) ≡ b
sum_one n k b l =
    omega (
      arith,
      sum-zero n,
      cond-true {A = ℕ} (eqb k k) b 0 (eq-eqb k k refl),
      sum-point n k (λ i. 0) (λ i. cond (eqb i k) b 0) l (λ i u ne. cond-false {A = ℕ} (eqb i k) b 0 (ne_eqb i k ne)),
    )

-- two functions that differ at two indices
pub sum-two : (n p q : ℕ) (f g : ℕ → ℕ) → p < n → q < n → (p ≡ q → ⊥) → ((i : ℕ) → i < n → (i ≡ p → ⊥) → (i ≡ q → ⊥) → g i ≡ f i)
    → sum_to n g + (f p + f q) ≡ sum_to n f + (g p + g q)
sum-two n p q f g l u ne h =
    let mid : ℕ → ℕ = λ i. cond (eqb i p) (g p) (f i) in
    let at : mid p ≡ g p = cond-true {A = ℕ} (eqb p p) (g p) (f p) (eq-eqb p p refl) in
    let off : mid q ≡ f q = cond-false {A = ℕ} (eqb q p) (g p) (f q) (ne_eqb q p (λ e. ne (sym e))) in
    omega (
      arith,
      at,
      off,
      sum-point n p f mid l (λ i v x. cond-false {A = ℕ} (eqb i p) (g p) (f i) (ne_eqb i p x)),
      sum-point n q mid g u (λ i v x. elim (cases_eq i p) [
        | inl e ↦ rw e (sym at)
        | inr e ↦ h i v e x ∙ sym (cond-false {A = ℕ} (eqb i p) (g p) (f i) (ne_eqb i p e))
      ]),
    )

pub count-le : (n : ℕ) (r : ℕ → Bool) → sum_to n (λ i. cond (r i) 1 0) ≤ n
count-le zero r = omega arith
count-le (suc n) r = grind (arith, count-le n r)

-- sums over a set of indices
pub sum-split : (n : ℕ) (r : ℕ → Bool) (f : ℕ → ℕ) → sum_in n r f + sum_in n (λ i. not (r i)) f ≡ sum_to n f
sum-split zero r f = refl
sum-split (suc n) r f = grind (arith, sum-split n r f)

pub in-le : (n : ℕ) (r : ℕ → Bool) (f g : ℕ → ℕ) → ((i : ℕ) → i < n → r i ≡ true → f i ≤ g i) → sum_in n r f ≤ sum_in n r g
in-le n r f g h = sum-le n _ _ (λ i l. grind (arith, h i l))

pub in-lt : (n k : ℕ) (r : ℕ → Bool) (f g : ℕ → ℕ) → k < n → r k ≡ true → f k < g k → ((i : ℕ) → i < n → r i ≡ true → f i ≤ g i) → sum_in n r f < sum_in n r g
in-lt n k r f g l x s h = sum_lt n k _ _ l (grind arith) (λ i u. grind (arith, h i u))

pub in_all : (n : ℕ) (r : ℕ → Bool) (f : ℕ → ℕ) → sum_in n r f ≤ sum_to n f
in_all n r f = sum-le n _ _ (λ i l. grind arith)

-- what a set leaves out is nothing
pub in_whole : (n : ℕ) (r : ℕ → Bool) (f : ℕ → ℕ) → ((i : ℕ) → i < n → 0 < f i → r i ≡ true) → sum_in n r f ≡ sum_to n f
in_whole n r f h = sum-eq n _ _ (λ i l. grind (arith, h i l))

pub cond-sum : (b : Bool) (m : ℕ) (f : ℕ → ℕ) → cond b (sum_to m f) 0 ≡ sum_to m (λ j. cond b (f j) 0)
cond-sum true m f = refl
cond-sum false m f = sym (sum-zero m)

pub in-swap : (n m : ℕ) (r : ℕ → Bool) (f : ℕ → ℕ → ℕ) → sum_in n r (λ i. sum_to m (f i)) ≡ sum_to m (λ j. sum_in n r (λ i. f i j))
in-swap n m r f = sum-eq n _ _ (λ i l. cond-sum (r i) m (f i)) ∙ sum-swap n m (λ i j. cond (r i) (f i j) 0)

-- the first index below n that passes, or none
pub first-cases : (n : ℕ) (p : ℕ → Bool) → ((i : ℕ) × (i < n) × (p i ≡ true) × ((k : ℕ) → k < i → p k ≡ false)) ⊎ ((i : ℕ) → i < n → p i ≡ false)
first-cases zero p = inr (λ i l. absurd (omega arith))
first-cases (suc n) p = elim (first-cases n p) [
  | inl h ↦ inl (h.0, omega arith, h.2, h.3)
  | inr h ↦ elim (cases_Bool (p n)) [
    | inl e ↦ inl (n, omega arith, e, h)
    | inr e ↦ inr (λ i l. elim (cases_eq i n) [ inl x ↦ rw x e | inr x ↦ h i (omega arith) ])
  ]
]

pub some-cases : (n : ℕ) (p : ℕ → Bool) → ((i : ℕ) × (i < n) × (p i ≡ true)) ⊎ ((i : ℕ) → i < n → p i ≡ false)
some-cases n p = elim (first-cases n p) [ inl h ↦ inl (h.0, h.1, h.2) | inr h ↦ inr h ]

pub some-from : (n i : ℕ) (p : ℕ → Bool) → i < n → p i ≡ true → some_to n p ≡ true
some-from zero i p l h = absurd (omega arith)
some-from (suc n) i p l h = elim (cases_eq i n) [ inl e ↦ grind (arith, rw e at h) | inr e ↦ grind (arith, some-from n i p (omega arith) h) ]

pub some-has : (n : ℕ) (p : ℕ → Bool) → some_to n p ≡ true → (i : ℕ) × (i < n) × (p i ≡ true)
some-has zero p h = absurd (false≢true h)
some-has (suc n) p h = elim (or_cases (p n) (some_to n p) h) [ inl e ↦ (n, omega arith, e) | inr e ↦ let k = some-has n p e in (k.0, omega arith, k.2) ]

pub all_from : (n : ℕ) (p : ℕ → Bool) → ((i : ℕ) → i < n → p i ≡ true) → all_to n p ≡ true
all_from zero p h = refl
all_from (suc n) p h = and_from (p n) (all_to n p) (h n (omega arith)) (all_from n p (λ i l. h i (omega arith)))

pub all-has : (n : ℕ) (p : ℕ → Bool) → all_to n p ≡ true → (i : ℕ) → i < n → p i ≡ true
all-has zero p h i l = absurd (omega arith)
all-has (suc n) p h i l =
    let x = and_parts (p n) (all_to n p) h in
    elim (cases_eq i n) [ inl e ↦ rw e x.0 | inr e ↦ all-has n p x.1 i (omega arith) ]
