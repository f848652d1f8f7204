-- Closed sets are tight, and unions of closed sets are closed.
use Rattle.std.proofs.Common.{◌≡◌, ℕ, ◌<◌, ◌≤◌, Bool, true, ◌&&◌, ltb, inl, inr, arith}
use Rattle.std.proofs.lemmas.Bool.{and_parts, and_from, ltb-true}
use Rattle.fairness.specs.Sums.{some_to}
use Rattle.fairness.specs.Plans.{total, Feasible}
use Rattle.fairness.specs.Settled.{Closed}
use Rattle.fairness.proofs.Sums.{sum_in, sum-le, in-le, in_all, in_whole, in-swap, some-cases, some-has, some-from}

module _ (n m : ℕ) (d : ℕ → ℕ → ℕ) (c : ℕ → ℕ) (a : ℕ → ℕ → ℕ) where
  -- at one core
  tight-at : (b : ℕ → ℕ → ℕ) (r : ℕ → Bool) → Feasible n m d c b → Closed n m d c a r
      → (j : ℕ) → j < m → sum_in n r (λ i. b i j) ≤ sum_in n r (λ i. a i j)
  tight-at b r fb cl j l = elim (some-cases n (λ i. r i && ltb (a i j) (d i j))) [
    | inl h ↦
        let i = h.0 in
        let p = and_parts (r i) (ltb (a i j) (d i j)) h.2 in
        let s : a i j < d i j = ltb-true _ _ p.1 in
        omega (
          arith,
          cl.full i j h.1 l p.0 s,
          fb.room j l,
          in_all n r (λ k. b k j),
          in_whole n r (λ k. a k j) (λ k u x. cl.inside i j k h.1 l u p.0 s x),
        )
    | inr h ↦ in-le n r _ _ (λ i u x. grind (arith, h i u, fb.within i j u l))
  ]

  pub closed-union : (p : ℕ → Bool) (r : ℕ → ℕ → Bool) → ((k : ℕ) → k < n → p k ≡ true → Closed n m d c a (r k))
      → Closed n m d c a (λ i. some_to n (λ k. p k && r k i))
  closed-union p r h = record {
    full = λ i j u v x s.
        let k = some-has n _ x in let q = and_parts _ _ k.2 in (h k.0 k.1 q.0).full i j u v q.1 s;
    inside = λ i j t u v w x s y.
        let k = some-has n _ x in let q = and_parts _ _ k.2 in
        some-from n k.0 _ k.1 (and_from _ _ q.0 ((h k.0 k.1 q.0).inside i j t u v w q.1 s y));
  }

-- a closed set has all that it can have
pub tight :
    (n m : ℕ) (d : ℕ → ℕ → ℕ) (c : ℕ → ℕ) (a b : ℕ → ℕ → ℕ) (r : ℕ → Bool)
    → Feasible n m d c a → Feasible n m d c b → Closed n m d c a r
    → sum_in n r (total m b) ≤ sum_in n r (total m a)
tight n m d c a b r fa fb cl =
    omega (arith, in-swap n m r a, in-swap n m r b, sum-le m _ _ (tight-at n m d c a b r fb cl))
