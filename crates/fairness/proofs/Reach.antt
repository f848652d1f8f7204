-- The tasks that are reached from p by residual steps, in layers, and the exchange along a way of them.
use Rattle.std.proofs.Common.{◌≡◌, ℕ, zero, suc, ◌+◌, ◌<◌, ◌≤◌, true, false, cond, not, ◌&&◌, ltb, ◌⊎◌, refl, ap, inl, inr, arith}
use Rattle.std.proofs.lemmas.Bool.{cases_Bool, eqb-true, eq-eqb, ne_eqb, both_ways, and_parts, and_from, or_cases, or_left, or_right, lt-ltb, ltb-true}
use Rattle.fairness.specs.Sums.{sum_to}
use Rattle.fairness.specs.Plans.{total, Feasible}
use Rattle.fairness.proofs.Sums.{sum_lt, count-le, some-cases, first-cases, some-from, some-has}
use Rattle.fairness.specs.Decision.{leads, layer}
use Rattle.fairness.specs.Moves.{same}
use Rattle.fairness.proofs.Moves.{move, move-moves, moved-total, moved-feasible}

-- at just L steps
pub record Fresh (n m : ℕ) (d a : ℕ → ℕ → ℕ) (p L k : ℕ) : Type 0 where
  pub now : layer n m d a p L k ≡ true
  pub before : (s : ℕ) → s < L → layer n m d a p s k ≡ false

module _ (n m : ℕ) (d a : ℕ → ℕ → ℕ) (p : ℕ) where
  layer-keeps : (s k : ℕ) → layer n m d a p s k ≡ true → layer n m d a p (suc s) k ≡ true
  unfolding layer
  layer-keeps s k h = or_left _ _ h

  pub layer-own : (s : ℕ) → layer n m d a p s p ≡ true
  unfolding layer
  layer-own zero = eq-eqb p p refl
  layer-own (suc s) = layer-keeps s p (layer-own s)

  pub layer-next : (s i j k : ℕ) → i < n → j < m → layer n m d a p s i ≡ true → a i j < d i j → 0 < a k j → layer n m d a p (suc s) k ≡ true
  unfolding layer
  layer-next s i j k u v h x y =
      or_right (layer n m d a p s k) _ (some-from n i (λ i. layer n m d a p s i && leads m d a i k) u (and_from _ _ h (some-from m j (λ j. ltb (a i j) (d i j) && ltb 0 (a k j)) v (and_from _ _ (lt-ltb _ _ x) (lt-ltb _ _ y)))))

  -- no more tasks are found after s steps
  abbrev pub Stable : ℕ → Type 0
  Stable s = (k : ℕ) → k < n → layer n m d a p (suc s) k ≡ true → layer n m d a p s k ≡ true

  size : ℕ → ℕ
  size s = sum_to n (λ k. cond (layer n m d a p s k) 1 0)

  -- it stands, or it grows
  grows : (s : ℕ) → Stable s ⊎ (size s < size (suc s))
  unfolding size
  grows s = elim (some-cases n (λ k. layer n m d a p (suc s) k && not (layer n m d a p s k))) [
    | inl h ↦ inr (sum_lt n h.0 _ _ h.1 (grind (arith, h.2)) (λ k l. grind (arith, layer-keeps s k)))
    | inr h ↦ inl (λ k l x. grind (arith, h k l))
  ]

  size-le : (s : ℕ) → size s ≤ n
  unfolding size
  size-le s = count-le n (layer n m d a p s)

  stable-next : (s : ℕ) → Stable s → Stable (suc s)
  unfolding layer
  stable-next s st k l h = elim (or_cases (layer n m d a p (suc s) k) _ h) [
    | inl x ↦ x
    | inr x ↦
        let i = some-has n _ x in
        let y = and_parts _ _ i.2 in
        or_right (layer n m d a p s k) _ (some-from n i.0 (λ i. layer n m d a p s i && leads m d a i k) i.1 (and_from _ _ (st i.0 i.1 y.0) y.1))
  ]

  stands : (s : ℕ) → Stable s ⊎ (s < size (suc s))
  stands zero = elim (grows zero) [ inl g ↦ inl g | inr g ↦ inr (omega arith) ]
  stands (suc s) = elim (stands s) [
    | inl h ↦ inl (stable-next s h)
    | inr h ↦ elim (grows (suc s)) [ inl g ↦ inl g | inr g ↦ inr (omega arith) ]
  ]

  -- n steps find all that can be reached
  pub stable : Stable n
  stable = elim (stands n) [ inl h ↦ h | inr h ↦ absurd (omega (arith, size-le (suc n))) ]

  pub first : (s k : ℕ) → layer n m d a p s k ≡ true → (L : ℕ) × Fresh n m d a p L k
  first s k h = elim (first-cases (suc s) (λ r. layer n m d a p r k)) [
    | inl f ↦ (f.0, record { now = f.2; before = f.3 })
    | inr f ↦ absurd (both_ways _ (f s (omega arith)) h)
  ]

  pub parent : (L q : ℕ) → Fresh n m d a p (suc L) q → (i : ℕ) × (j : ℕ) × (i < n) × (j < m) × Fresh n m d a p L i × (a i j < d i j) × (0 < a q j)
  unfolding layer
  parent L q f = elim (or_cases (layer n m d a p L q) _ f.now) [
    | inl h ↦ absurd (both_ways _ (f.before L (omega arith)) h)
    | inr h ↦
        let i = some-has n _ h in
        let x = and_parts _ _ i.2 in
        let j = some-has m _ x.1 in
        let y = and_parts _ _ j.2 in (
          i.0,
          j.0,
          i.1,
          j.1,
          record {
            now = x.0;
            before = λ s l. elim (cases_Bool (layer n m d a p s i.0)) [
              | inl e ↦ absurd (both_ways _ (f.before (suc s) (omega arith)) (layer-next s i.0 j.0 q i.1 j.1 e (ltb-true _ _ y.0) (ltb-true _ _ y.1)))
              | inr e ↦ e
            ];
          },
          ltb-true _ _ y.0,
          ltb-true _ _ y.1,
        )
  ]

  pub apart : (r s i k : ℕ) → r < s → Fresh n m d a p r i → Fresh n m d a p s k → i ≡ k → ⊥
  apart r s i k l f g e = both_ways _ (g.before r l) (rw e at f.now)

  -- a' still has the residual steps of a that lead from layer to layer, up to L
  abbrev pub Kept : ℕ → (ℕ → ℕ → ℕ) → Type 0
  Kept L a' = (r i j k : ℕ) → r < L → Fresh n m d a p r i → Fresh n m d a p (suc r) k → a i j < d i j → 0 < a k j → (a' i j < d i j) × (0 < a' k j)

  pub walk : (c : ℕ → ℕ) (L : ℕ) (a' : ℕ → ℕ → ℕ) → Feasible n m d c a' → Kept L a' → (q : ℕ) → q < n → Fresh n m d a p L q
      → (b : ℕ → ℕ → ℕ) × Feasible n m d c b × ((x : ℕ) → x < n → total m b x + same x q ≡ total m a' x + same x p)
  unfolding layer
  walk c zero a' fa kept q ql f = (a', fa, λ x l. ap (λ y. total m a' x + same x y) (eqb-true q p f.now))
  walk c (suc L) a' fa kept q ql f =
      let o = parent L q f in
      let i = o.0 in
      let j = o.1 in
      let k = kept L i j q (omega arith) o.4 f o.5 o.6 in
      let mv = move-moves n m a' i j q k.1 in
      let w = walk c L (move a' i j q) (moved-feasible n m d c a' (move a' i j q) i j o.2 o.3 q ql mv fa k.0)
      (λ r s t u l g h x y.
      let z = kept r s t u (omega arith) g h x y in
      (grind (arith, z.0, ne_eqb s i (apart r L s i l g o.4)), grind (arith, z.1, ne_eqb u q (apart (suc r) (suc L) u q (omega arith) h f))))
      i o.2 o.4 in
      (w.0, w.1, λ x l. omega (arith, w.2 x l, moved-total n m d c a' (move a' i j q) i j o.2 o.3 q mv x l))
