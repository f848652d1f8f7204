-- A number that falls exactly where a plan gets fairer.
use Rattle.std.proofs.Common.{◌≡◌, ℕ, suc, ◌+◌, ◌<◌, not, eqb, ◌⊎◌, sym, refl, ap, ◌∙◌, inl, inr, arith}
use Rattle.std.proofs.lemmas.Bool.{cases_order, eqb-true, eqb-false, not-true, not-false}
use Rattle.fairness.specs.Sums.{sum_to}
use Rattle.fairness.proofs.Orders.{Compare, Laws, at_or_below, Fairer, Fairer-had}
use Rattle.fairness.proofs.Sums.{first-cases, sum-at}
use Rattle.fairness.proofs.Numbers.{up_to, up_to-le, had-at, digits, digits-eq, digits_lt}
use Rattle.fairness.proofs.Ranks.{rank, rank_below, below-rank, counts, top, rank-top}

abbrev pub ranks : Compare → ℕ → ℕ → (ℕ → ℕ) → ℕ → ℕ
ranks cmp n h t i = rank cmp n h i (t i)

unfoldable pub pot : Compare → ℕ → ℕ → (ℕ → ℕ) → ℕ
pot cmp n h t = digits (suc (suc n)) (up_to n (ranks cmp n h t)) (top n h)

-- the first rank below k at which the counts differ, or none
differ : (n : ℕ) (x z : ℕ → ℕ) (k : ℕ)
    → ((r : ℕ) × (r < k) × (up_to n x r ≡ up_to n z r → ⊥) × ((s : ℕ) → s < r → up_to n x s ≡ up_to n z s)) ⊎ ((r : ℕ) → r < k → up_to n x r ≡ up_to n z r)
differ n x z k = elim (first-cases k (λ r. not (eqb (up_to n x r) (up_to n z r)))) [
  | inl f ↦ inl (f.0, f.1, eqb-false _ _ (not-true _ f.2), λ s l. eqb-true _ _ (not-false _ (f.3 s l)))
  | inr f ↦ inr (λ r l. eqb-true _ _ (not-false _ (f r l)))
]

counts-at : (cmp : Compare) (laws : Laws cmp) (n h : ℕ) (t : ℕ → ℕ) (tl : (i : ℕ) → i < n → t i < h)
    → (k y q : ℕ) → rank cmp n h k y ≡ q → at_or_below cmp n t k y ≡ up_to n (ranks cmp n h t) q
counts-at cmp laws n h t tl k y q e = counts cmp laws n h t tl k y ∙ ap (up_to n (ranks cmp n h t)) e

module _ (cmp : Compare) (laws : Laws cmp) (n h : ℕ) (t u : ℕ → ℕ) (tl : (i : ℕ) → i < n → t i < h) (ul : (i : ℕ) → i < n → u i < h) where
  -- at a lower rank that a level has
  equal-at : (f : Fairer-had cmp n t u) (k y q : ℕ) → k < n → (t k ≡ y) ⊎ (u k ≡ y) → rank cmp n h k y ≡ q → q < rank cmp n h f.who f.what
      → up_to n (ranks cmp n h t) q ≡ up_to n (ranks cmp n h u) q
  equal-at f k y q l o e less =
      omega (
        arith,
        f.lower k y l o (rank_below cmp laws n h k y f.who f.what (omega arith)),
        counts-at cmp laws n h t tl k y q e,
        counts-at cmp laws n h u ul k y q e,
      )

  had-falls : Fairer-had cmp n t u → pot cmp n h t < pot cmp n h u
  unfolding pot
  had-falls f =
      let r : ℕ = rank cmp n h f.who f.what in
      digits_lt (suc (suc n)) (up_to n (ranks cmp n h t)) (up_to n (ranks cmp n h u)) (top n h) r (rank-top cmp n h f.who f.what)
      (λ q. omega (arith, up_to-le n (ranks cmp n h t) q))
      (omega (arith, f.fewer, counts cmp laws n h t tl f.who f.what, counts cmp laws n h u ul f.who f.what))
      (elim (differ n (ranks cmp n h t) (ranks cmp n h u) r) [
        | inl g ↦
            let i = had-at n (ranks cmp n h t) (ranks cmp n h u) g.0 g.2 g.3 in
            absurd (g.2 (elim i.2 [ inl e ↦ equal-at f i.0 (t i.0) g.0 i.1 (inl refl) e g.1 | inr e ↦ equal-at f i.0 (u i.0) g.0 i.1 (inr refl) e g.1 ]))
        | inr g ↦ g
      ])

  pub to-had : Fairer cmp n t u → Fairer-had cmp n t u
  to-had f = record { who = f.who; what = f.what; one = f.one; had = f.had; fewer = f.fewer; lower = λ k y l o b. f.lower k y l b }

  pub pot-falls : Fairer cmp n t u → pot cmp n h t < pot cmp n h u
  pot-falls f = had-falls (to-had f)

  make : (k y r : ℕ) → k < n → y < h → (t k ≡ y) ⊎ (u k ≡ y) → rank cmp n h k y ≡ r → up_to n (ranks cmp n h t) r < up_to n (ranks cmp n h u) r
      → ((s : ℕ) → s < r → up_to n (ranks cmp n h t) s ≡ up_to n (ranks cmp n h u) s) → Fairer cmp n t u
  make k y r l v had e less below = record {
    who = k;
    what = y;
    one = l;
    had = had;
    fewer = omega (arith, counts-at cmp laws n h t tl k y r e, counts-at cmp laws n h u ul k y r e);
    lower = λ i x w b.
        omega (arith, counts cmp laws n h t tl i x, counts cmp laws n h u ul i x, below (rank cmp n h i x) (omega (arith, below-rank cmp laws n h i x k y l v b)));
  }

  pub falls-fairer : pot cmp n h t < pot cmp n h u → Fairer cmp n t u
  unfolding pot
  falls-fairer less = elim (differ n (ranks cmp n h t) (ranks cmp n h u) (top n h)) [
    | inl g ↦
        let i = had-at n (ranks cmp n h t) (ranks cmp n h u) g.0 g.2 g.3 in
        let fewer : up_to n (ranks cmp n h t) g.0 < up_to n (ranks cmp n h u) g.0 = elim (cases_order (up_to n (ranks cmp n h t) g.0) (up_to n (ranks cmp n h u) g.0)) [
          | inl e ↦ absurd (g.2 e)
          | inr o ↦ elim o [
            | inl e ↦ e
            | inr e ↦ absurd (omega (
              arith,
              less,
              digits_lt (suc (suc n)) (up_to n (ranks cmp n h u)) (up_to n (ranks cmp n h t)) (top n h) g.0 g.1
                  (λ q. omega (arith, up_to-le n (ranks cmp n h u) q)) e (λ s l. sym (g.3 s l)),
            ))
          ]
        ] in
        elim i.2 [
          | inl e ↦ make i.0 (t i.0) g.0 i.1 (tl i.0 i.1) (inl refl) e fewer g.3
          | inr e ↦ make i.0 (u i.0) g.0 i.1 (ul i.0 i.1) (inr refl) e fewer g.3
        ]
    | inr g ↦ absurd (omega (arith, less, digits-eq (suc (suc n)) (up_to n (ranks cmp n h t)) (up_to n (ranks cmp n h u)) (top n h) g))
  ]

-- the same number, the same counts at each level
pub pot-same : (cmp : Compare) (laws : Laws cmp) (n h : ℕ) (t u : ℕ → ℕ) (tl : (i : ℕ) → i < n → t i < h) (ul : (i : ℕ) → i < n → u i < h)
    → pot cmp n h t ≡ pot cmp n h u → (k y : ℕ) → at_or_below cmp n t k y ≡ at_or_below cmp n u k y
unfolding pot
pot-same cmp laws n h t u tl ul e k y = elim (differ n (ranks cmp n h t) (ranks cmp n h u) (top n h)) [
  | inl g ↦ elim (cases_order (up_to n (ranks cmp n h t) g.0) (up_to n (ranks cmp n h u) g.0)) [
    | inl x ↦ absurd (g.2 x)
    | inr o ↦ absurd (elim o [
      | inl x ↦ omega (
        arith,
        e,
        digits_lt (suc (suc n)) (up_to n (ranks cmp n h t)) (up_to n (ranks cmp n h u)) (top n h) g.0 g.1
            (λ q. omega (arith, up_to-le n (ranks cmp n h t) q)) x g.3,
      )
      | inr x ↦ omega (
        arith,
        e,
        digits_lt (suc (suc n)) (up_to n (ranks cmp n h u)) (up_to n (ranks cmp n h t)) (top n h) g.0 g.1
            (λ q. omega (arith, up_to-le n (ranks cmp n h u) q)) x (λ s l. sym (g.3 s l)),
      )
    ])
  ]
  | inr g ↦ omega (arith, counts cmp laws n h t tl k y, counts cmp laws n h u ul k y, g (rank cmp n h k y) (rank-top cmp n h k y))
]

-- both readings of "every lower level" come to the same
pub readings-agree : (cmp : Compare) → Laws cmp → (n : ℕ) (t u : ℕ → ℕ) → (Fairer-had cmp n t u → Fairer cmp n t u) × (Fairer cmp n t u → Fairer-had cmp n t u)
readings-agree cmp laws n t u =
    let h : ℕ = suc (sum_to n t + sum_to n u) in
    let tl : (i : ℕ) → i < n → t i < h = λ i l. omega (arith, sum-at n i t l) in
    let ul : (i : ℕ) → i < n → u i < h = λ i l. omega (arith, sum-at n i u l) in
    (λ f. falls-fairer cmp laws n h t u tl ul (had-falls cmp laws n h t u tl ul f), to-had cmp laws n h t u tl ul)
