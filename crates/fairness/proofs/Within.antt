-- Totals within one, also where capacity grows.
use Rattle.std.proofs.Common.{◌≡◌, ℕ, zero, suc, ◌+◌, ◌-◌, ◌<◌, ◌≤◌, Bool, true, false, not, ◌&&◌, ltb, refl, inl, inr, arith}
use Rattle.std.proofs.lemmas.Bool.{and_parts, and_from, ltb-true, cases_lt, cases_Bool, both_ways, not-true, not_from_false}
use Rattle.fairness.specs.Plans.{total, Feasible}
use Rattle.fairness.specs.Settled.{Closed}
use Rattle.fairness.proofs.Steps.{Capped, Falling, Strict, Held}
use Rattle.fairness.proofs.Sums.{sum_in, sum-le, in-lt, in-le, in_all, in_whole, in-swap, some-cases}
use Rattle.fairness.proofs.Fronts.{falls, front, front-closed, front-own, front-last}

in_split : (n : ℕ) (r q : ℕ → Bool) (f : ℕ → ℕ) → sum_in n (λ i. r i && not (q i)) f + sum_in n (λ i. r i && q i) f ≡ sum_in n r f
in_split zero r q f = refl
in_split (suc n) r q f = grind (arith, in_split n r q f)

-- at one core: outside q, r has no less in b
core : (n m : ℕ) (d : ℕ → ℕ → ℕ) (c c' : ℕ → ℕ) (a b : ℕ → ℕ → ℕ) (q r : ℕ → Bool)
    → Feasible n m d c a → Feasible n m d c' b → ((j : ℕ) → j < m → c j ≤ c' j)
    → Closed n m d c a q → Closed n m d c' b r
    → (j : ℕ) → j < m → sum_in n (λ i. r i && not (q i)) (λ i. a i j) ≤ sum_in n (λ i. r i && not (q i)) (λ i. b i j)
core n m d c c' a b q r fa fb more ca cb j l = elim (some-cases n (λ i. q i && ltb (a i j) (d i j))) [
  | inl h ↦
      let i = h.0 in
      let p = and_parts (q i) (ltb (a i j) (d i j)) h.2 in
      in-le n (λ t. r t && not (q t)) (λ t. a t j) (λ t. b t j) (λ k u x. grind (arith, ca.inside i j k h.1 l u p.0 (ltb-true _ _ p.1)))
  | inr h ↦ elim (some-cases n (λ i. r i && ltb (b i j) (d i j))) [
    | inl k ↦
        let i = k.0 in
        let p = and_parts (r i) (ltb (b i j) (d i j)) k.2 in
        let s : b i j < d i j = ltb-true _ _ p.1 in
        omega (
          arith,
          more j l,
          cb.full i j k.1 l p.0 s,
          fa.room j l,
          in_all n r (λ t. a t j),
          in_whole n r (λ t. b t j) (λ t u x. cb.inside i j t k.1 l u p.0 s x),
          in_split n r q (λ t. a t j),
          in_split n r q (λ t. b t j),
          in-le n (λ t. r t && q t) (λ t. b t j) (λ t. a t j) (λ t u x. grind (arith, h t u, fb.within t j u l)),
        )
    | inr k ↦ in-le n (λ t. r t && not (q t)) (λ t. a t j) (λ t. b t j) (λ t u x. grind (arith, k t u, fa.within t j u l))
  ]
]

-- a plan that is held gives no task two slots fewer than another, held where no core has more room
pub within-one :
    (n m : ℕ) (d : ℕ → ℕ → ℕ) (c c' cap : ℕ → ℕ) (g : ℕ → ℕ → ℕ) (a b : ℕ → ℕ → ℕ) (r s : ℕ → ℕ → Bool)
    → Feasible n m d c a → Feasible n m d c' b → Capped n m cap a → Capped n m cap b
    → ((j : ℕ) → j < m → c j ≤ c' j)
    → Strict n cap g → Held n m d c cap g a r → Held n m d c' cap g b s
    → (p : ℕ) → p < n → total m a p ≤ total m b p + 1
within-one n m d c c' cap g a b r s fa fb ca cb more strict ha hb p l = elim (cases_lt (total m b p + 1) (total m a p)) [
  | inl far ↦
      let fall : Falling n cap g = λ i k u x. omega (arith, strict i k u x) in
      let v : ℕ = g p (total m b p) in
      let Q : ℕ → Bool = front n cap g (total m a) r v in
      let R : ℕ → Bool = front n cap g (total m b) s v in
      let X : ℕ → Bool = λ i. R i && not (Q i) in
      let lo : total m b p + 1 < cap p = omega (arith, ca p l) in
      let pR : R p ≡ true = front-own n m d c' cap g b s hb v p l (omega arith) (omega arith) in
      let pQ : Q p ≡ false = elim (cases_Bool (Q p)) [
        | inl x ↦ absurd (omega (
          arith,
          front-last n m d c cap g a r ha v p l x (omega arith),
          falls n cap g fall p (suc (total m b p)) (total m a p - 1) l (omega arith) (omega (arith, ca p l)),
          strict p (total m b p) l (omega arith),
        ))
        | inr x ↦ x
      ] in
      let less : (i : ℕ) → i < n → R i ≡ true → Q i ≡ false → total m b i ≤ total m a i = λ i u x y. elim (cases_lt (total m a i) (total m b i)) [
        | inl z ↦ absurd (both_ways _ y (front-own n m d c cap g a r ha v i u (omega (arith, cb i u))
            (omega (arith, front-last n m d c' cap g b s hb v i u x (omega arith), falls n cap g fall i (total m a i) (total m b i - 1) u (omega arith) (omega (arith, cb i u))))))
        | inr z ↦ z
      ] in
      omega (
        arith,
        in-swap n m X a,
        in-swap n m X b,
        sum-le m _ _ (core n m d c c' a b Q R fa fb more (front-closed n m d c cap g a r ha v) (front-closed n m d c' cap g b s hb v)),
        in-lt n p X (total m b) (total m a) l (and_from _ _ pR (not_from_false _ pQ)) (omega arith)
            (λ i u x. less i u (and_parts _ _ x).0 (not-true _ (and_parts _ _ x).1)),
      )
  | inr near ↦ near
]
