-- A fairest plan is settled.
use Rattle.std.proofs.Common.{◌≡◌, ℕ, suc, ◌+◌, ◌-◌, ◌<◌, ◌≤◌, true, sym, refl, inl, inr, arith}
use Rattle.std.specs.declared.cmp.Ordering.TheVariants.{Less}
use Rattle.std.proofs.lemmas.Bool.{cases_eq, cases_lt, cases_Bool, ne_eqb}
use Rattle.fairness.specs.Plans.{given, total}
use Rattle.fairness.proofs.Orders.{Compare, Laws, Rising, Fairest, gains, Settled}
use Rattle.fairness.proofs.Settled.{settled-within-one}
use Rattle.fairness.specs.Moves.{same}
use Rattle.fairness.proofs.Moves.{take, taken-total, taken-feasible, same_self, same-other}
use Rattle.fairness.specs.Decision.{layer}
use Rattle.fairness.proofs.Reach.{Fresh, layer-own, layer-next, stable, first, apart, walk}
use Rattle.fairness.proofs.Gains.{gain-fairer, free-fairer}

-- a task gains nothing from itself
pub no_self : (cmp : Compare) → Laws cmp → (p x : ℕ) → 0 < x → cmp p (x - 1) p (suc (x - 1)) ≡ Less → gains cmp p x p x ≡ true → ⊥
no_self cmp laws p x pos rise g =
    let e : suc (x - 1) ≡ x = omega arith in
    let up : cmp p (x - 1) p x ≡ Less = rw e at rise in
    grind (arith, laws.mirrored p (x - 1) p x)

module _ (cmp : Compare) (laws : Laws cmp) (n m : ℕ) (d : ℕ → ℕ → ℕ) (c cap : ℕ → ℕ) (up : Rising cmp n cap) (a : ℕ → ℕ → ℕ) (fair : Fairest cmp n m d c cap a)
    (p : ℕ) (pl : p < n) (lo : total m a p < cap p) where
  no-free : (L i j : ℕ) → i < n → j < m → Fresh n m d a p L i → a i j < d i j → given n a j < c j → ⊥
  no-free L i j il jl f less free =
      let w = walk n m d a p c L (take a i j) (taken-feasible n m d c a (take a i j) i j il jl (λ x y u v. refl) fair.feasible less free)
      (λ r s t u l g h x y. (grind (arith, x, ne_eqb s i (apart n m d a p r L s i l g f)), omega arith)) i il f in
      let e : (x : ℕ) → x < n → total m w.0 x ≡ total m a x + same x p = λ x l. omega (arith, w.2 x l, taken-total n m d c a (take a i j) i j il jl (λ x y u v. refl) x l) in
      let rest : (x : ℕ) → x < n → (x ≡ p → ⊥) → total m w.0 x ≡ total m a x = λ x l ne. omega (arith, e x l, same-other x p ne) in
      let at : total m w.0 p ≡ suc (total m a p) = omega (arith, e p pl, same_self p) in
      fair.best w.0 w.1
      (λ x l. elim (cases_eq x p) [ inl y ↦ rw y (omega (arith, at)) | inr y ↦ omega (arith, rest x l y, fair.capped x l) ])
      (free-fairer cmp laws n cap up (total m a) (total m w.0) p pl lo at rest)

  no-gain : (L q : ℕ) → q < n → Fresh n m d a p L q → 0 < total m a q → gains cmp p (total m a p) q (total m a q) ≡ true → ⊥
  no-gain L q ql f pos gain = elim (cases_eq p q) [
    | inl e ↦ let pos' : 0 < total m a p = rw (← e) at pos in no_self cmp laws p (total m a p) pos' (up p (total m a p - 1) pl (omega arith)) (rw (← e) at gain)
    | inr ne ↦
        let w = walk n m d a p c L a fair.feasible (λ r s t u l g h x y. (x, y)) q ql f in
        let rest : (x : ℕ) → x < n → (x ≡ p → ⊥) → (x ≡ q → ⊥) → total m w.0 x ≡ total m a x = λ x l y z. omega (arith, w.2 x l, same-other x p y, same-other x q z) in
        let atp : total m w.0 p ≡ suc (total m a p) = omega (arith, w.2 p pl, same_self p, same-other p q ne) in
        let atq : suc (total m w.0 q) ≡ total m a q = omega (arith, w.2 q ql, same_self q, same-other q p (λ e. ne (sym e))) in
        fair.best w.0 w.1
        (λ x l. elim (cases_eq x p) [
          | inl y ↦ rw y (omega (arith, atp))
          | inr y ↦ elim (cases_eq x q) [ inl z ↦ rw z (omega (arith, atq, fair.capped q ql)) | inr z ↦ omega (arith, rest x l y z, fair.capped x l) ]
        ])
        (gain-fairer cmp laws n cap up (total m a) (total m w.0) p q pl ql ne lo (fair.capped q ql) atp atq rest gain)
  ]

-- what a judge's search that finds something shows
pub reached-no-gain : (cmp : Compare) → Laws cmp → (n m : ℕ) (d : ℕ → ℕ → ℕ) (c cap : ℕ → ℕ) → Rising cmp n cap → (a : ℕ → ℕ → ℕ) → Fairest cmp n m d c cap a
    → (p q s : ℕ) → p < n → q < n → total m a p < cap p → layer n m d a p s q ≡ true → 0 < total m a q → gains cmp p (total m a p) q (total m a q) ≡ true → ⊥
reached-no-gain cmp laws n m d c cap up a fair p q s pl ql lo x pos g =
    let f = first n m d a p s q x in no-gain cmp laws n m d c cap up a fair p pl lo f.0 q ql f.1 pos g

pub reached-no-free : (cmp : Compare) → Laws cmp → (n m : ℕ) (d : ℕ → ℕ → ℕ) (c cap : ℕ → ℕ) → Rising cmp n cap → (a : ℕ → ℕ → ℕ) → Fairest cmp n m d c cap a
    → (p i j s : ℕ) → p < n → i < n → j < m → total m a p < cap p → layer n m d a p s i ≡ true → a i j < d i j → given n a j < c j → ⊥
reached-no-free cmp laws n m d c cap up a fair p i j s pl il jl lo x less free =
    let f = first n m d a p s i x in no-free cmp laws n m d c cap up a fair p pl lo f.0 i j il jl f.1 less free

pub fairest-settled :
    (cmp : Compare) → Laws cmp → (n m : ℕ) (d : ℕ → ℕ → ℕ) (c cap : ℕ → ℕ) → Rising cmp n cap → (a : ℕ → ℕ → ℕ)
    → Fairest cmp n m d c cap a → Settled cmp n m d c cap a
fairest-settled cmp laws n m d c cap up a fair p pl lo =
    record {
      set = layer n m d a p n;
      closed = record {
        full = λ i j il jl x less. elim (cases_lt (given n a j) (c j)) [
          | inl free ↦ let f = first n m d a p n i x in absurd (no-free cmp laws n m d c cap up a fair p pl lo f.0 i j il jl f.1 less free)
          | inr y ↦ y
        ];
        inside = λ i j k il jl kl x less pos. stable n m d a p k kl (layer-next n m d a p n i j k il jl x less pos);
      };
      own = layer-own n m d a p n;
      fails = λ q ql x pos. elim (cases_Bool (gains cmp p (total m a p) q (total m a q))) [
        | inl g ↦ let f = first n m d a p n q x in absurd (no-gain cmp laws n m d c cap up a fair p pl lo f.0 q ql f.1 pos g)
        | inr g ↦ g
      ];
    }

-- of two fairest plans, the second with no less capacity, none gives a task two slots fewer than the first
pub fairest-within-one :
    (cmp : Compare) → Laws cmp → (n m : ℕ) (d : ℕ → ℕ → ℕ) (c c' cap : ℕ → ℕ) → Rising cmp n cap → (a b : ℕ → ℕ → ℕ)
    → ((j : ℕ) → j < m → c j ≤ c' j) → Fairest cmp n m d c cap a → Fairest cmp n m d c' cap b
    → (p : ℕ) → p < n → total m a p ≤ total m b p + 1
fairest-within-one cmp laws n m d c c' cap up a b more fa fb =
    settled-within-one cmp laws n m d c c' cap up a b fa.feasible fb.feasible fa.capped fb.capped more
    (fairest-settled cmp laws n m d c cap up a fa) (fairest-settled cmp laws n m d c' cap up b fb)
