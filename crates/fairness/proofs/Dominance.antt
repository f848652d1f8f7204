-- Threshold counting, and the sum of the steps above a threshold.
use Rattle.std.proofs.Common.{◌≡◌, ℕ, zero, suc, ◌-◌, ◌<◌, ◌≤◌, min, Bool, true, false, cond, not, ltb, refl, ◌∙◌, inl, inr, arith}
use Rattle.std.proofs.lemmas.Bool.{cases_lt, both_ways, not-true}
use Rattle.fairness.specs.Sums.{sum_to}
use Rattle.fairness.specs.Plans.{total, Feasible}
use Rattle.fairness.proofs.Steps.{Capped, Falling, Held, worth}
use Rattle.fairness.proofs.Sums.{count-le, sum_in, sum-le, sum-eq, sum-at, sum-split, sum-swap, in-le}
use Rattle.fairness.proofs.Tight.{tight}
use Rattle.fairness.proofs.Fronts.{falls, front-closed, front-own, front-last}

abbrev pub above : ℕ → ℕ → ℕ
above v x = cond (ltb v x) 1 0

layer-min : (M x : ℕ) → sum_to M (λ v. above v x) ≡ min M x
layer-min zero x = omega arith
layer-min (suc M) x = grind (arith, layer-min M x)

pub sum-longer : (s t : ℕ) (f : ℕ → ℕ) → s ≤ t → sum_to s f ≤ sum_to t f
sum-longer s zero f h = let e : s ≡ 0 = omega arith in rw e (omega arith)
sum-longer s (suc t) f h = elim (cases_lt t s) [
  | inl l ↦ let e : s ≡ suc t = omega arith in rw e (omega arith)
  | inr l ↦ omega (arith, sum-longer s t f l)
]

-- past s nothing is added
sum_past : (s t : ℕ) (f : ℕ → ℕ) → ((k : ℕ) → s ≤ k → k < t → f k ≡ 0) → sum_to t f ≤ sum_to s f
sum_past s zero f h = omega arith
sum_past s (suc t) f h = elim (cases_lt t s) [
  | inl l ↦ sum-longer (suc t) s f l
  | inr l ↦ omega (arith, sum_past s t f (λ k u v. h k u (omega arith)), h t l (omega arith))
]

count-all : (v t : ℕ) (f : ℕ → ℕ) → ((k : ℕ) → k < t → v < f k) → sum_to t (λ k. above v (f k)) ≡ t
count-all v zero f h = refl
count-all v (suc t) f h = grind (arith, count-all v t f (λ k l. h k (omega arith)), h t (omega arith))

-- the steps above v
abbrev steps_above : ℕ → (ℕ → ℕ → ℕ) → ℕ → (ℕ → ℕ) → ℕ
steps_above n g v t = sum_to n (λ i. sum_to (t i) (λ k. above v (g i k)))

threshold : (n v : ℕ) (g : ℕ → ℕ → ℕ) (ta tb : ℕ → ℕ) (r : ℕ → Bool)
    → sum_in n r tb ≤ sum_in n r ta
    → ((i k : ℕ) → i < n → r i ≡ true → k < ta i → v < g i k)
    → ((i k : ℕ) → i < n → r i ≡ false → ta i ≤ k → k < tb i → g i k ≤ v)
    → steps_above n g v tb ≤ steps_above n g v ta
threshold n v g ta tb r le inner outer =
    let A : ℕ → ℕ = λ i. sum_to (ta i) (λ k. above v (g i k)) in
    let B : ℕ → ℕ = λ i. sum_to (tb i) (λ k. above v (g i k)) in
    omega (
      arith,
      le,
      sum-split n r A,
      sum-split n r B,
      in-le n r B tb (λ i l x. count-le (tb i) (λ k. ltb v (g i k))),
      in-le n r ta A (λ i l x. omega (arith, count-all v (ta i) (g i) (λ k u. inner i k l x u))),
      in-le n (λ i. not (r i)) B A (λ i l x. sum_past (ta i) (tb i) _ (λ k u w. grind (arith, outer i k l (not-true _ x) u w))),
    )

-- a sum of g's, step by step
by-layers : (n M : ℕ) (g : ℕ → ℕ → ℕ) (t : ℕ → ℕ) → ((i k : ℕ) → i < n → k < t i → g i k ≤ M)
    → worth n g t ≡ sum_to M (λ v. steps_above n g v t)
by-layers n M g t h =
    sum-eq n _ _ (λ i l. sum-eq (t i) _ _ (λ k u. omega (arith, layer-min M (g i k), h i k l u)) ∙ sum-swap (t i) M (λ k v. above v (g i k)))
    ∙ sum-swap n M (λ i v. sum_to (t i) (λ k. above v (g i k)))

pub dominance :
    (n m : ℕ) (d : ℕ → ℕ → ℕ) (c cap : ℕ → ℕ) (g : ℕ → ℕ → ℕ) (a b : ℕ → ℕ → ℕ) (r : ℕ → ℕ → Bool)
    → Feasible n m d c a → Feasible n m d c b → Capped n m cap a → Capped n m cap b
    → Falling n cap g → Held n m d c cap g a r
    → worth n g (total m b) ≤ worth n g (total m a)
dominance n m d c cap g a b r fa fb ca cb fall held =
    let M : ℕ = sum_to n (λ i. sum_to (cap i) (g i)) in
    omega (arith, by-layers n M g (total m a) (bound (total m a) ca), by-layers n M g (total m b) (bound (total m b) cb), sum-le M _ _ (λ v l. at v))
  where
    bound : (t : ℕ → ℕ) → ((i : ℕ) → i < n → t i ≤ cap i) → (i k : ℕ) → i < n → k < t i → g i k ≤ sum_to n (λ i. sum_to (cap i) (g i))
    bound t h i k l u = omega (arith, sum-at (cap i) k (g i) (omega (arith, h i l)), sum-at n i (λ i. sum_to (cap i) (g i)) l)

    at : (v : ℕ) → steps_above n g v (total m b) ≤ steps_above n g v (total m a)
    at v = threshold n v g (total m a) (total m b) _
        (tight n m d c a b _ fa fb (front-closed n m d c cap g a r held (suc v)))
        (λ i k l x u. omega (
          arith,
          front-last n m d c cap g a r held (suc v) i l x (omega arith),
          falls n cap g fall i k (total m a i - 1) l (omega arith) (omega (arith, ca i l)),
        ))
        (λ i k l x u w. elim (cases_lt v (g i k)) [
          | inl y ↦ absurd (both_ways _ x (front-own n m d c cap g a r held (suc v) i l (omega (arith, cb i l))
              (omega (arith, falls n cap g fall i (total m a i) k l u (omega (arith, cb i l))))))
          | inr y ↦ y
        ])
