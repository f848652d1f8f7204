-- A settled plan is fairest.
use Rattle.std.proofs.Common.{◌≡◌, ℕ, zero, suc, ◌+◌, ◌-◌, ◌<◌, ◌≤◌, Bool, true, false, cond, ltb, leb, ◌⊎◌, sym, refl, ap, ◌∙◌, subst, inl, inr, arith}
use Rattle.std.specs.declared.cmp.Ordering.{Ordering}
use Rattle.std.specs.declared.cmp.Ordering.TheVariants.{Less, Equal, Greater}
use Rattle.std.specs.Ordering.{is_lt}
use Rattle.std.proofs.lemmas.Bool.{cases_lt, cases_order, lt-ltb, cond-true, true≢false, false≢true}
use Rattle.fairness.specs.Sums.{sum_to}
use Rattle.fairness.specs.Plans.{total, Feasible}
use Rattle.fairness.specs.Routes.{worthwhile}
use Rattle.fairness.specs.Settled.{Closed}
use Rattle.fairness.proofs.Steps.{Capped, Strict, Held, worth}
use Rattle.fairness.proofs.Orders.{Compare, Laws, Rising, at_or_below, Fairest, gains, Safe, Settled}
use Rattle.fairness.proofs.Sums.{sum-eq, sum-add, sum-at}
use Rattle.fairness.proofs.Numbers.{digits_sum, weight, weight-twice, drop_le, drop-lt}
use Rattle.fairness.proofs.Ranks.{rank, rank-keeps, below-rank, rank_rises, top, rank-top}
use Rattle.fairness.proofs.Pot.{pot, pot-falls, falls-fairer, pot-same}
use Rattle.fairness.proofs.Dominance.{dominance}
use Rattle.fairness.proofs.Within.{within-one}

-- what the level (i, x) weighs, and what a step from it saves
unfoldable pub value : Compare → ℕ → ℕ → ℕ → ℕ → ℕ
value cmp n h i x = weight (suc (suc n)) (top n h) (rank cmp n h i x)

unfoldable pub step : Compare → ℕ → ℕ → ℕ → ℕ → ℕ
step cmp n h i x = value cmp n h i x - value cmp n h i (suc x)

pub pot-sum : (cmp : Compare) (n h : ℕ) (t : ℕ → ℕ) → pot cmp n h t ≡ sum_to n (λ i. value cmp n h i (t i))
unfolding pot value weight
pot-sum cmp n h t = digits_sum (suc (suc n)) n (λ i r. cond (leb (rank cmp n h i (t i)) r) 1 0) (top n h)

fail-cases : (o o' : Ordering) → worthwhile o o' ≡ false → (o ≡ Greater) ⊎ ((o ≡ Equal) × (is_lt o' ≡ false))
fail-cases Less o' e = absurd (true≢false e)
fail-cases Equal o' e = inr (refl, e)
fail-cases Greater o' e = inl refl

gain-cases : (o o' : Ordering) → worthwhile o o' ≡ true → (o ≡ Less) ⊎ ((o ≡ Equal) × (is_lt o' ≡ true))
gain-cases Less o' e = inl refl
gain-cases Equal o' e = inr (refl, e)
gain-cases Greater o' e = absurd (false≢true e)

module _ (cmp : Compare) (laws : Laws cmp) (n h : ℕ) (cap : ℕ → ℕ) (up : Rising cmp n cap) (tall : (i : ℕ) → i < n → suc (cap i) < h) where
  rises : (i x : ℕ) → i < n → x < cap i → rank cmp n h i x < rank cmp n h i (suc x)
  rises i x l u = rank_rises cmp laws n h i x l (omega (arith, tall i l)) (up i x l u)

  pub value-falls : (i x : ℕ) → i < n → x < cap i → value cmp n h i (suc x) + value cmp n h i (suc x) + 1 ≤ value cmp n h i x
  unfolding value
  value-falls i x l u =
      omega (
        arith,
        weight-twice (suc (suc n)) (top n h) (rank cmp n h i x) (rank cmp n h i (suc x)) (omega arith) (rises i x l u),
        cond-true {A = ℕ} (ltb (rank cmp n h i x) (top n h)) 1 0 (lt-ltb _ _ (rank-top cmp n h i x)),
      )

  pub step_falls : (i k : ℕ) → i < n → k < cap i → step cmp n h i (suc k) < step cmp n h i k
  unfolding step
  step_falls i k l u = omega (arith, value-falls i k l u)

  pub telescope : (i t : ℕ) → i < n → t ≤ cap i → sum_to t (step cmp n h i) + value cmp n h i t ≡ value cmp n h i 0
  unfolding step
  telescope i zero l u = omega arith
  telescope i (suc t) l u = omega (arith, telescope i t l (omega arith), value-falls i t l u)

  pub worth-pot : (t : ℕ → ℕ) → ((i : ℕ) → i < n → t i ≤ cap i) → worth n (step cmp n h) t + pot cmp n h t ≡ sum_to n (λ i. value cmp n h i 0)
  worth-pot t low =
      omega (
        arith,
        pot-sum cmp n h t,
        sum-add n (λ i. sum_to (t i) (step cmp n h i)) (λ i. value cmp n h i (t i)),
        sum-eq n (λ i. sum_to (t i) (step cmp n h i) + value cmp n h i (t i)) (λ i. value cmp n h i 0) (λ i l. telescope i (t i) l (low i l)),
      )

  -- where the test fails, p's next step is worth no more than q's last
  pub fails-le : (p x q y : ℕ) → p < n → q < n → x ≤ cap p → 0 < y → y ≤ cap q → gains cmp p x q y ≡ false → step cmp n h p x ≤ step cmp n h q (y - 1)
  unfolding step value
  fails-le p x q y l u v pos w f =
      let e : suc (y - 1) ≡ y = omega arith in
      rw e (drop_le (suc (suc n)) (top n h) _ _ _ _ (omega arith) (rw e at (rises q (y - 1) u (omega arith)))
      (elim (fail-cases (cmp p x q (y - 1)) (cmp q y p (suc x)) f) [
        | inl o ↦ inl (below-rank cmp laws n h q (y - 1) p x l (omega (arith, tall p l)) (grind (arith, laws.mirrored p x q (y - 1))))
        | inr o ↦ inr (
          rank-keeps cmp laws n h q (y - 1) p x (grind (arith, laws.mirrored p x q (y - 1))),
          rank-keeps cmp laws n h p (suc x) q y (grind (arith, laws.mirrored q y p (suc x))),
        )
      ]))

  pub gains-lt : (p x q y : ℕ) → p < n → q < n → x < cap p → 0 < y → y ≤ cap q → gains cmp p x q y ≡ true → step cmp n h q (y - 1) < step cmp n h p x
  unfolding step value
  gains-lt p x q y l u v pos w f =
      let e : suc (y - 1) ≡ y = omega arith in
      rw e (drop-lt (suc (suc n)) (top n h) _ _ _ _ (omega arith) (rank-top cmp n h p x) (rank-top cmp n h q y)
      (rises p x l v) (rw e at (rises q (y - 1) u (omega arith)))
      (elim (gain-cases (cmp p x q (y - 1)) (cmp q y p (suc x)) f) [
        | inl o ↦ inl (below-rank cmp laws n h p x q (y - 1) u (omega (arith, tall q u)) o)
        | inr o ↦ inr (rank-keeps cmp laws n h p x q (y - 1) (grind arith), below-rank cmp laws n h q y p (suc x) l (omega (arith, tall p l)) (grind arith))
      ]))

-- a height above every total, and above the next one
abbrev pub height : ℕ → (ℕ → ℕ) → ℕ
height n cap = suc (suc (sum_to n cap))

tall : (n : ℕ) (cap : ℕ → ℕ) (i : ℕ) → i < n → suc (cap i) < height n cap
tall n cap i l = omega (arith, sum-at n i cap l)

under : (n m : ℕ) (cap : ℕ → ℕ) (a : ℕ → ℕ → ℕ) → Capped n m cap a → (i : ℕ) → i < n → total m a i < height n cap
under n m cap a ca i l = omega (arith, ca i l, sum-at n i cap l)

pub strict : (cmp : Compare) (laws : Laws cmp) (n : ℕ) (cap : ℕ → ℕ) → Rising cmp n cap → Strict n cap (step cmp n (height n cap))
strict cmp laws n cap up i k l u = step_falls cmp laws n (height n cap) cap up (tall n cap) i k l (omega arith)

-- one set for each task, of those that are safe
pick : (cmp : Compare) (n m : ℕ) (d : ℕ → ℕ → ℕ) (c cap : ℕ → ℕ) (a : ℕ → ℕ → ℕ) → Settled cmp n m d c cap a
    → (p : ℕ) → (p < n) ⊎ (n ≤ p) → (total m a p < cap p) ⊎ (cap p ≤ total m a p) → ℕ → Bool
pick cmp n m d c cap a st p (inl l) (inl u) = (st p l u).set
pick cmp n m d c cap a st p (inl l) (inr u) = λ i. false
pick cmp n m d c cap a st p (inr l) u = λ i. false

pick_is : (cmp : Compare) (n m : ℕ) (d : ℕ → ℕ → ℕ) (c cap : ℕ → ℕ) (a : ℕ → ℕ → ℕ) (st : Settled cmp n m d c cap a)
    → (p : ℕ) (x : (p < n) ⊎ (n ≤ p)) (y : (total m a p < cap p) ⊎ (cap p ≤ total m a p)) → p < n → total m a p < cap p
    → (s : Safe cmp n m d c a p) × (s.set ≡ pick cmp n m d c cap a st p x y)
unfolding pick
pick_is cmp n m d c cap a st p (inl l) (inl u) v w = (st p l u, refl)
pick_is cmp n m d c cap a st p (inl l) (inr u) v w = absurd (omega arith)
pick_is cmp n m d c cap a st p (inr l) y v w = absurd (omega arith)

pub sets : (cmp : Compare) (n m : ℕ) (d : ℕ → ℕ → ℕ) (c cap : ℕ → ℕ) (a : ℕ → ℕ → ℕ) → Settled cmp n m d c cap a → ℕ → ℕ → Bool
sets cmp n m d c cap a st p = pick cmp n m d c cap a st p (cases_lt p n) (cases_lt (total m a p) (cap p))

pub held : (cmp : Compare) (laws : Laws cmp) (n m : ℕ) (d : ℕ → ℕ → ℕ) (c cap : ℕ → ℕ) → Rising cmp n cap → (a : ℕ → ℕ → ℕ) → Capped n m cap a
    → (st : Settled cmp n m d c cap a) → Held n m d c cap (step cmp n (height n cap)) a (sets cmp n m d c cap a st)
unfolding sets
held cmp laws n m d c cap up a ca st = record {
  closed = λ p u lo. let s = is p u lo in subst (Closed n m d c a) s.1 s.0.closed;
  own = λ p u lo. let s = is p u lo in ap (λ f. f p) (sym s.1) ∙ s.0.own;
  urgent = λ p q u v lo x pos.
      let s = is p u lo in
      fails-le cmp laws n (height n cap) cap up (tall n cap) p (total m a p) q (total m a q) u v (ca p u) pos (ca q v)
      (s.0.fails q v (ap (λ f. f q) s.1 ∙ x) pos);
}
  where
    is : (p : ℕ) → p < n → total m a p < cap p → (s : Safe cmp n m d c a p) × (s.set ≡ pick cmp n m d c cap a st p (cases_lt p n) (cases_lt (total m a p) (cap p)))
    is p u lo = pick_is cmp n m d c cap a st p (cases_lt p n) (cases_lt (total m a p) (cap p)) u lo

pub settled-fairest :
    (cmp : Compare) → Laws cmp → (n m : ℕ) (d : ℕ → ℕ → ℕ) (c cap : ℕ → ℕ) → Rising cmp n cap → (a : ℕ → ℕ → ℕ)
    → Feasible n m d c a → Capped n m cap a → Settled cmp n m d c cap a → Fairest cmp n m d c cap a
settled-fairest cmp laws n m d c cap up a fa ca st = record {
  feasible = fa;
  capped = ca;
  best = λ b fb cb f.
      let h : ℕ = height n cap in
      omega (
        arith,
        pot-falls cmp laws n h (total m b) (total m a) (under n m cap b cb) (under n m cap a ca) f,
        worth-pot cmp laws n h cap up (tall n cap) (total m a) ca,
        worth-pot cmp laws n h cap up (tall n cap) (total m b) cb,
        dominance n m d c cap (step cmp n h) a b (sets cmp n m d c cap a st) fa fb ca cb (λ i k l u. omega (arith, strict cmp laws n cap up i k l u)) (held cmp laws n m d c cap up a ca st),
      );
}

-- with more capacity no task loses two slots
pub settled-within-one :
    (cmp : Compare) → Laws cmp → (n m : ℕ) (d : ℕ → ℕ → ℕ) (c c' cap : ℕ → ℕ) → Rising cmp n cap → (a b : ℕ → ℕ → ℕ)
    → Feasible n m d c a → Feasible n m d c' b → Capped n m cap a → Capped n m cap b
    → ((j : ℕ) → j < m → c j ≤ c' j)
    → Settled cmp n m d c cap a → Settled cmp n m d c' cap b
    → (p : ℕ) → p < n → total m a p ≤ total m b p + 1
settled-within-one cmp laws n m d c c' cap up a b fa fb ca cb more sa sb =
    within-one n m d c c' cap (step cmp n (height n cap)) a b (sets cmp n m d c cap a sa) (sets cmp n m d c' cap b sb) fa fb ca cb more (strict cmp laws n cap up)
    (held cmp laws n m d c cap up a ca sa) (held cmp laws n m d c' cap up b cb sb)

-- two fairest plans have equally many tasks at or below each level
pub same-levels :
    (cmp : Compare) → Laws cmp → (n m : ℕ) (d : ℕ → ℕ → ℕ) (c cap : ℕ → ℕ) (a b : ℕ → ℕ → ℕ)
    → Fairest cmp n m d c cap a → Fairest cmp n m d c cap b
    → (k y : ℕ) → at_or_below cmp n (total m a) k y ≡ at_or_below cmp n (total m b) k y
same-levels cmp laws n m d c cap a b fa fb =
    let h : ℕ = height n cap in
    let ua = under n m cap a fa.capped in
    let ub = under n m cap b fb.capped in
    pot-same cmp laws n h (total m a) (total m b) ua ub
    (elim (cases_order (pot cmp n h (total m a)) (pot cmp n h (total m b))) [
      | inl e ↦ e
      | inr o ↦ absurd (elim o [
        | inl l ↦ fb.best a fa.feasible fa.capped (falls-fairer cmp laws n h (total m a) (total m b) ua ub l)
        | inr l ↦ fa.best b fb.feasible fb.capped (falls-fairer cmp laws n h (total m b) (total m a) ub ua l)
      ])
    ])
