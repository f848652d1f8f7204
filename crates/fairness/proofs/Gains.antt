-- An exchange for which the test holds is fairer, and so is a free slot taken.
use Rattle.std.proofs.Common.{◌≡◌, ℕ, suc, ◌+◌, ◌-◌, ◌<◌, ◌≤◌, true, ap, inl, inr, arith}
use Rattle.std.proofs.lemmas.Bool.{cases_eq}
use Rattle.fairness.specs.Sums.{sum_to}
use Rattle.fairness.proofs.Orders.{Compare, Laws, Rising, Fairer, gains}
use Rattle.fairness.proofs.Sums.{sum-point, sum-two, sum-at}
use Rattle.fairness.proofs.Pot.{pot, falls-fairer}
use Rattle.fairness.proofs.Settled.{value, step, pot-sum, value-falls, gains-lt}

module _ (cmp : Compare) (laws : Laws cmp) (n h : ℕ) (cap : ℕ → ℕ) (up : Rising cmp n cap) (tall : (i : ℕ) → i < n → suc (cap i) < h)
    (t u : ℕ → ℕ) (p : ℕ) (pl : p < n) (pu : u p ≡ suc (t p)) (ph : t p < cap p) where
  -- the number falls
  pub pot-gain : (q : ℕ) → q < n → (p ≡ q → ⊥) → suc (u q) ≡ t q → ((i : ℕ) → i < n → (i ≡ p → ⊥) → (i ≡ q → ⊥) → u i ≡ t i)
      → t q ≤ cap q → gains cmp p (t p) q (t q) ≡ true → pot cmp n h u < pot cmp n h t
  unfolding step
  pot-gain q ql ne qu rest qh gain =
      let e : t q - 1 ≡ u q = omega arith in
      let f : ℕ → ℕ = λ i. value cmp n h i (t i) in
      let g : ℕ → ℕ = λ i. value cmp n h i (u i) in
      let gp : g p ≡ value cmp n h p (suc (t p)) = ap (value cmp n h p) pu in
      let fq : value cmp n h q (suc (u q)) ≡ f q = ap (value cmp n h q) qu in
      let less : step cmp n h q (u q) < step cmp n h p (t p) = rw e at (gains-lt cmp laws n h cap up tall p (t p) q (t q) pl ql ph (omega arith) qh gain) in
      omega (
        arith,
        pot-sum cmp n h t,
        pot-sum cmp n h u,
        less,
        gp,
        fq,
        value-falls cmp laws n h cap up tall p (t p) pl ph,
        value-falls cmp laws n h cap up tall q (u q) ql (omega arith),
        sum-two n p q f g pl ql ne (λ i l x y. ap (value cmp n h i) (rest i l x y)),
      )

  pub pot-free : ((i : ℕ) → i < n → (i ≡ p → ⊥) → u i ≡ t i) → pot cmp n h u < pot cmp n h t
  pot-free rest =
      let gp : value cmp n h p (u p) ≡ value cmp n h p (suc (t p)) = ap (value cmp n h p) pu in
      omega (
        arith,
        pot-sum cmp n h t,
        pot-sum cmp n h u,
        gp,
        value-falls cmp laws n h cap up tall p (t p) pl ph,
        sum-point n p (λ i. value cmp n h i (t i)) (λ i. value cmp n h i (u i)) pl (λ i l x. ap (value cmp n h i) (rest i l x)),
      )

-- above the totals t and the caps, and above the next ones
abbrev high : ℕ → (ℕ → ℕ) → (ℕ → ℕ) → ℕ
high n cap t = suc (suc (sum_to n cap + sum_to n t))

-- a slot more for p and one less for q, where the test holds, is fairer
pub gain-fairer :
    (cmp : Compare) → Laws cmp → (n : ℕ) (cap : ℕ → ℕ) → Rising cmp n cap → (t u : ℕ → ℕ) (p q : ℕ) → p < n → q < n → (p ≡ q → ⊥) → t p < cap p → t q ≤ cap q
    → u p ≡ suc (t p) → suc (u q) ≡ t q → ((i : ℕ) → i < n → (i ≡ p → ⊥) → (i ≡ q → ⊥) → u i ≡ t i)
    → gains cmp p (t p) q (t q) ≡ true → Fairer cmp n u t
gain-fairer cmp laws n cap up t u p q pl ql ne ph qh pu qu rest gain =
    let h : ℕ = high n cap t in
    let low : (i : ℕ) → i < n → suc (t i) < h = λ i l. omega (arith, sum-at n i t l) in
    falls-fairer cmp laws n h u t
    (λ i l. elim (cases_eq i p) [ inl e ↦ rw e (omega (arith, low p pl)) | inr e ↦ elim (cases_eq i q) [ inl x ↦ rw x (omega (arith, low q ql)) | inr x ↦ omega (arith, low i l, rest i l e x) ] ])
    (λ i l. omega (arith, low i l))
    (pot-gain cmp laws n h cap up (λ i l. omega (arith, sum-at n i cap l)) t u p pl pu ph q ql ne qu rest qh gain)

-- a slot more for p is fairer
pub free-fairer :
    (cmp : Compare) → Laws cmp → (n : ℕ) (cap : ℕ → ℕ) → Rising cmp n cap → (t u : ℕ → ℕ) (p : ℕ) → p < n → t p < cap p
    → u p ≡ suc (t p) → ((i : ℕ) → i < n → (i ≡ p → ⊥) → u i ≡ t i) → Fairer cmp n u t
free-fairer cmp laws n cap up t u p pl ph pu rest =
    let h : ℕ = high n cap t in
    let low : (i : ℕ) → i < n → suc (t i) < h = λ i l. omega (arith, sum-at n i t l) in
    falls-fairer cmp laws n h u t
    (λ i l. elim (cases_eq i p) [ inl e ↦ rw e (omega (arith, low p pl)) | inr e ↦ omega (arith, low i l, rest i l e) ])
    (λ i l. omega (arith, low i l))
    (pot-free cmp laws n h cap up (λ i l. omega (arith, sum-at n i cap l)) t u p pl pu ph rest)
