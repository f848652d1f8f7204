-- Counts at or below each rank, and the number that has them for digits.
use Rattle.std.proofs.Common.{◌≡◌, ℕ, zero, suc, ◌+◌, ◌-◌, ◌*◌, ◌<◌, ◌≤◌, cond, ◌||◌, eqb, ltb, leb, ◌⊎◌, sym, refl, ap, inl, inr, mul-le-mul_left, arith}
use Rattle.std.proofs.lemmas.Bool.{cases_lt, eqb-true, eqb-false, or_cases, or_parts}
use Rattle.fairness.specs.Sums.{sum_to}
use Rattle.fairness.proofs.Sums.{sum-eq, sum-add, sum-mul, sum-zero, count-le, some-cases}

-- the tasks whose rank is at most r
abbrev pub up_to : ℕ → (ℕ → ℕ) → ℕ → ℕ
up_to n x r = sum_to n (λ i. cond (leb (x i) r) 1 0)

pub up_to-le : (n : ℕ) (x : ℕ → ℕ) (r : ℕ) → up_to n x r ≤ n
up_to-le n x r = count-le n (λ i. leb (x i) r)

-- where no task has the rank r, the counts at r are those below
none-at : (n : ℕ) (x z : ℕ → ℕ) (r : ℕ) → ((i : ℕ) → i < n → (x i ≡ r → ⊥) × (z i ≡ r → ⊥))
    → ((s : ℕ) → s < r → up_to n x s ≡ up_to n z s) → up_to n x r ≡ up_to n z r
none-at n x z zero h below = sum-eq n _ _ (λ i l. grind (arith, h i l))
none-at n x z (suc r) h below =
    omega (
      arith,
      below r (omega arith),
      sum-eq n (λ i. cond (leb (x i) (suc r)) 1 0) (λ i. cond (leb (x i) r) 1 0) (λ i l. grind (arith, (h i l).0)),
      sum-eq n (λ i. cond (leb (z i) (suc r)) 1 0) (λ i. cond (leb (z i) r) 1 0) (λ i l. grind (arith, (h i l).1)),
    )

-- the lowest rank at which the counts differ is the rank of a task
pub had-at : (n : ℕ) (x z : ℕ → ℕ) (r : ℕ) → (up_to n x r ≡ up_to n z r → ⊥)
    → ((s : ℕ) → s < r → up_to n x s ≡ up_to n z s) → (i : ℕ) × (i < n) × ((x i ≡ r) ⊎ (z i ≡ r))
had-at n x z r differ below = elim (some-cases n (λ i. eqb (x i) r || eqb (z i) r)) [
  | inl h ↦ (h.0, h.1, elim (or_cases _ _ h.2) [ inl e ↦ inl (eqb-true _ _ e) | inr e ↦ inr (eqb-true _ _ e) ])
  | inr h ↦ absurd (differ (none-at n x z r (λ i l. (eqb-false _ _ (or_parts _ _ (h i l)).0, eqb-false _ _ (or_parts _ _ (h i l)).1)) below))
]

-- the number with the digits f 0, f 1, .., f (k - 1) to the base s
unfoldable pub digits : ℕ → (ℕ → ℕ) → ℕ → ℕ
digits s f zero = 0
digits s f (suc k) = s * digits s f k + f k

pub digits-eq : (s : ℕ) (f h : ℕ → ℕ) (k : ℕ) → ((q : ℕ) → q < k → f q ≡ h q) → digits s f k ≡ digits s h k
unfolding digits
digits-eq s f h zero e = refl
digits-eq s f h (suc k) e = rw (digits-eq s f h k (λ q l. e q (omega arith)), e k (omega arith))

-- the first digit that differs decides
pub digits_lt : (s : ℕ) (f h : ℕ → ℕ) (k r : ℕ) → r < k → ((q : ℕ) → f q < s) → f r < h r → ((q : ℕ) → q < r → f q ≡ h q) → digits s f k < digits s h k
unfolding digits
digits_lt s f h zero r l small less e = omega arith
digits_lt s f h (suc k) r l small less e = elim (cases_lt r k) [
  | inl u ↦ omega (arith, mul-le-mul_left s (digits_lt s f h k r u small less e), small k)
  | inr u ↦ let x : r ≡ k = omega arith in
      rw (digits-eq s f h k (λ q v. e q (omega arith))) (omega (arith, rw x at less))
]

pub digits_sum : (s n : ℕ) (f : ℕ → ℕ → ℕ) (k : ℕ) → digits s (λ r. sum_to n (λ i. f i r)) k ≡ sum_to n (λ i. digits s (f i) k)
unfolding digits
digits_sum s n f zero = sym (sum-zero n)
digits_sum s n f (suc k) =
    omega (arith, ap (λ x. s * x) (digits_sum s n f k), sum-add n (λ i. s * digits s (f i) k) (λ i. f i k), sum-mul n s (λ i. digits s (f i) k))

-- what a task of rank x weighs
unfoldable pub weight : ℕ → ℕ → ℕ → ℕ
weight s k x = digits s (λ r. cond (leb x r) 1 0) k

pub weight-le : (s k x y : ℕ) → x ≤ y → weight s k y ≤ weight s k x
unfolding digits weight
weight-le s zero x y h = omega arith
weight-le s (suc k) x y h = grind (arith, mul-le-mul_left s (weight-le s k x y h))

pub weight-twice : (s k x y : ℕ) → 2 ≤ s → x < y → weight s k y + weight s k y + cond (ltb x k) 1 0 ≤ weight s k x
unfolding digits weight
weight-twice s zero x y two h = grind arith
weight-twice s (suc k) x y two h = grind (arith, mul-le-mul_left s (weight-twice s k x y two h))

-- a step from rank x to x' saves no more than one from y to y'
pub drop_le : (s k x x' y y' : ℕ) → 2 ≤ s → y < y' → (y < x) ⊎ ((y ≤ x) × (x' ≤ y')) → weight s k x - weight s k x' ≤ weight s k y - weight s k y'
drop_le s k x x' y y' two u o = elim o [
  | inl l ↦ omega (arith, weight-twice s k y x two l, weight-twice s k y y' two u)
  | inr l ↦ omega (arith, weight-le s k y x l.0, weight-le s k x' y' l.1)
]

-- it saves more
pub drop-lt : (s k x x' y y' : ℕ) → 2 ≤ s → x < k → y' < k → x < x' → y < y' → (x < y) ⊎ ((x ≤ y) × (y' < x')) → weight s k y - weight s k y' < weight s k x - weight s k x'
drop-lt s k x x' y y' two b b' u v o = elim o [
  | inl l ↦ grind (arith, weight-twice s k x y two l, weight-twice s k x x' two u)
  | inr l ↦ grind (arith, weight-le s k x y l.0, weight-twice s k y' x' two l.1, weight-le s k y y' (omega arith))
]
