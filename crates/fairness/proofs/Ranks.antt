-- Levels as numbers: the rank of a level.
use Rattle.std.proofs.Common.{◌≡◌, ℕ, suc, ◌<◌, ◌≤◌, true, false, arith}
use Rattle.std.specs.declared.cmp.Ordering.{Ordering}
use Rattle.std.specs.declared.cmp.Ordering.TheVariants.{Less, Equal, Greater}
use Rattle.std.specs.Ordering.{is_le}
use Rattle.fairness.specs.Sums.{sum_to}
use Rattle.fairness.proofs.Orders.{Compare, Laws, at_or_below}
use Rattle.fairness.proofs.Sums.{sum-le, sum_lt, sum-eq}
use Rattle.fairness.proofs.Numbers.{up_to}

-- one for a level below, and one for a level at or below: 2, 1 or 0
abbrev mark : Ordering → ℕ
mark Less = 2
mark Equal = 1
mark Greater = 0

-- over the levels (k, y) with k < n and y < h
unfoldable pub rank : Compare → ℕ → ℕ → ℕ → ℕ → ℕ
rank cmp n h i x = sum_to n (λ k. sum_to h (λ y. mark (cmp k y i x)))

module _ (cmp : Compare) (laws : Laws cmp) (n h : ℕ) where
  marks : (i x k y l z : ℕ) → is_le (cmp i x k y) ≡ true → mark (cmp l z i x) ≤ mark (cmp l z k y)
  marks i x k y l z up = grind (arith, laws.transitive l z i x k y, laws.transitive i x k y l z, laws.mirrored l z k y, laws.mirrored l z i x)

  pub rank-keeps : (i x k y : ℕ) → is_le (cmp i x k y) ≡ true → rank cmp n h i x ≤ rank cmp n h k y
  unfolding rank
  rank-keeps i x k y up = sum-le n _ _ (λ l u. sum-le h _ _ (λ z v. marks i x k y l z up))

  pub rank-tells : (i x k y : ℕ) → i < n → x < h → is_le (cmp i x k y) ≡ false → rank cmp n h k y < rank cmp n h i x
  unfolding rank
  rank-tells i x k y u v down =
      let up : is_le (cmp k y i x) ≡ true = grind (arith, laws.mirrored i x k y) in
      let here : mark (cmp i x k y) < mark (cmp i x i x) = grind (arith, laws.mirrored i x i x) in
      let row : (l : ℕ) → l < n → sum_to h (λ z. mark (cmp l z k y)) ≤ sum_to h (λ z. mark (cmp l z i x)) = λ l u. sum-le h _ _ (λ z v. marks k y i x l z up) in
      sum_lt n i (λ l. sum_to h (λ z. mark (cmp l z k y))) (λ l. sum_to h (λ z. mark (cmp l z i x))) u (sum_lt h x _ _ v here (λ z v. marks k y i x i z up)) row

  pub rank_rises : (i x : ℕ) → i < n → suc x < h → cmp i x i (suc x) ≡ Less → rank cmp n h i x < rank cmp n h i (suc x)
  rank_rises i x u v e = rank-tells i (suc x) i x u v (grind (arith, laws.mirrored i x i (suc x)))

  -- counts at a level are counts at its rank
  pub counts : (t : ℕ → ℕ) → ((i : ℕ) → i < n → t i < h) → (k y : ℕ) → at_or_below cmp n t k y ≡ up_to n (λ i. rank cmp n h i (t i)) (rank cmp n h k y)
  counts t low k y = sum-eq n _ _ (λ i u. grind (arith, rank-keeps i (t i) k y, rank-tells i (t i) k y u (low i u)))

  pub rank_below : (i x k y : ℕ) → rank cmp n h i x < rank cmp n h k y → cmp i x k y ≡ Less
  rank_below i x k y less = grind (arith, rank-keeps k y i x, laws.mirrored i x k y)

  pub below-rank : (i x k y : ℕ) → k < n → y < h → cmp i x k y ≡ Less → rank cmp n h i x < rank cmp n h k y
  below-rank i x k y u v e = rank-tells k y i x u v (grind (arith, laws.mirrored i x k y))

-- above every rank
abbrev pub top : ℕ → ℕ → ℕ
top n h = suc (sum_to n (λ k. sum_to h (λ y. 2)))

pub rank-top : (cmp : Compare) (n h i x : ℕ) → rank cmp n h i x < top n h
unfolding rank
rank-top cmp n h i x = omega (arith, sum-le n (λ k. sum_to h (λ y. mark (cmp k y i x))) (λ k. sum_to h (λ y. 2)) (λ k u. sum-le h _ _ (λ y v. grind arith)))
