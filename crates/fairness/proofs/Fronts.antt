-- The union of the closed sets of the tasks whose next step is worth at least v.
use Rattle.std.proofs.Common.{◌≡◌, ℕ, zero, suc, ◌-◌, ◌<◌, ◌≤◌, Bool, true, ◌&&◌, ltb, leb, inl, inr, arith}
use Rattle.std.proofs.lemmas.Bool.{and_parts, and_from, lt-ltb, ltb-true, leb-true, le-leb, cases_lt}
use Rattle.fairness.specs.Plans.{total}
use Rattle.fairness.specs.Settled.{Closed}
use Rattle.fairness.proofs.Steps.{Falling, Held}
use Rattle.fairness.specs.Sums.{some_to}
use Rattle.fairness.proofs.Sums.{some-has, some-from}
use Rattle.fairness.proofs.Tight.{closed-union}

pub falls : (n : ℕ) (cap : ℕ → ℕ) (g : ℕ → ℕ → ℕ) → Falling n cap g → (i k l : ℕ) → i < n → k ≤ l → l < cap i → g i l ≤ g i k
falls n cap g f i k zero u v w = grind arith
falls n cap g f i k (suc l) u v w = elim (cases_lt k (suc l)) [
  | inl x ↦ omega (arith, f i l u w, falls n cap g f i k l u (omega arith) (omega arith))
  | inr x ↦ grind arith
]

abbrev pub eager : (cap : ℕ → ℕ) (g : ℕ → ℕ → ℕ) (t : ℕ → ℕ) (v : ℕ) → ℕ → Bool
eager cap g t v k = ltb (t k) (cap k) && leb v (g k (t k))

abbrev pub front : (n : ℕ) (cap : ℕ → ℕ) (g : ℕ → ℕ → ℕ) (t : ℕ → ℕ) (r : ℕ → ℕ → Bool) (v : ℕ) → ℕ → Bool
front n cap g t r v i = some_to n (λ k. eager cap g t v k && r k i)

module _ (n m : ℕ) (d : ℕ → ℕ → ℕ) (c cap : ℕ → ℕ) (g : ℕ → ℕ → ℕ) (a : ℕ → ℕ → ℕ) (r : ℕ → ℕ → Bool) (held : Held n m d c cap g a r) (v : ℕ) where
  pub front-closed : Closed n m d c a (front n cap g (total m a) r v)
  front-closed = closed-union n m d c a (eager cap g (total m a) v) r (λ k l x. held.closed k l (ltb-true _ _ (and_parts _ _ x).0))

  pub front-own : (i : ℕ) → i < n → total m a i < cap i → v ≤ g i (total m a i) → front n cap g (total m a) r v i ≡ true
  front-own i l lo hi = some-from n i _ l (and_from _ _ (and_from _ _ (lt-ltb _ _ lo) (le-leb _ _ hi)) (held.own i l lo))

  pub front-last : (i : ℕ) → i < n → front n cap g (total m a) r v i ≡ true → 0 < total m a i → v ≤ g i (total m a i - 1)
  front-last i l x pos =
      let s = some-has n _ x in
      let k : ℕ = s.0 in
      let q = and_parts (eager cap g (total m a) v k) (r k i) s.2 in
      let y = and_parts (ltb (total m a k) (cap k)) (leb v (g k (total m a k))) q.0 in
      omega (arith, leb-true _ _ y.1, held.urgent s.0 i s.1 l (ltb-true _ _ y.0) q.1 pos)
