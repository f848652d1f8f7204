-- One slot of core j goes from task q to task i, or a free slot of it to i.
use Rattle.std.proofs.Common.{◌≡◌, ℕ, ◌+◌, ◌-◌, ◌<◌, cond, eqb, sym, refl, ap, ◌∙◌, arith}
use Rattle.std.proofs.lemmas.Bool.{eqb-true, eq-eqb, ne_eqb, cond-true, cond-false}
use Rattle.fairness.specs.Sums.{sum_to}
use Rattle.fairness.specs.Plans.{given, total, Feasible}
use Rattle.fairness.specs.Moves.{same, slot_at, Taken, Moved}
use Rattle.fairness.proofs.Sums.{sum-eq, sum-add, sum_one, cond-sum}

pub same_self : (x : ℕ) → same x x ≡ 1
same_self x = cond-true {A = ℕ} (eqb x x) 1 0 (eq-eqb x x refl)

pub same-other : (x y : ℕ) → (x ≡ y → ⊥) → same x y ≡ 0
same-other x y ne = cond-false {A = ℕ} (eqb x y) 1 0 (ne_eqb x y ne)

-- such plans, as functions
abbrev pub take : (ℕ → ℕ → ℕ) → ℕ → ℕ → ℕ → ℕ → ℕ
take a i j x y = a x y + slot_at i j x y

abbrev pub move : (ℕ → ℕ → ℕ) → ℕ → ℕ → ℕ → ℕ → ℕ → ℕ
move a i j q x y = (a x y + slot_at i j x y) - slot_at q j x y

pub move-moves : (n m : ℕ) (a : ℕ → ℕ → ℕ) (i j q : ℕ) → 0 < a q j → Moved n m a (move a i j q) i j q
move-moves n m a i j q pos x y u v = grind (arith, eqb-true)

pub slot_row : (m i j x : ℕ) → j < m → sum_to m (slot_at i j x) ≡ same x i
slot_row m i j x l = sum_one m j (same x i) l

pub slot-column : (n i j y : ℕ) → i < n → sum_to n (λ x. slot_at i j x y) ≡ same y j
slot-column n i j y l = sym (cond-sum (eqb y j) n (λ x. same x i)) ∙ ap (λ s. cond (eqb y j) s 0) (sum_one n i 1 l)

module _ (n m : ℕ) (d : ℕ → ℕ → ℕ) (c : ℕ → ℕ) (a b : ℕ → ℕ → ℕ) (i j : ℕ) (il : i < n) (jl : j < m) where
  pub taken-total : Taken n m a b i j → (x : ℕ) → x < n → total m b x ≡ total m a x + same x i
  taken-total t x u = omega (arith, sum-eq m (b x) (λ y. a x y + slot_at i j x y) (λ y v. t x y u v), sum-add m (a x) (slot_at i j x), slot_row m i j x jl)

  pub taken-feasible : Taken n m a b i j → Feasible n m d c a → a i j < d i j → given n a j < c j → Feasible n m d c b
  taken-feasible t f less free = record {
    within = λ x y u v. grind (arith, t x y u v, f.within x y u v, eqb-true);
    room = λ y v. grind (arith, f.room y v, eqb-true, sum-eq n (λ x. b x y) (λ x. a x y + slot_at i j x y) (λ x u. t x y u v), sum-add n (λ x. a x y) (λ x. slot_at i j x y), slot-column n i j y il);
  }

  pub moved-total : (q : ℕ) → Moved n m a b i j q → (x : ℕ) → x < n → total m b x + same x q ≡ total m a x + same x i
  moved-total q t x u =
      omega (
        arith,
        slot_row m i j x jl,
        slot_row m q j x jl,
        sum-add m (b x) (slot_at q j x),
        sum-add m (a x) (slot_at i j x),
        sum-eq m (λ y. b x y + slot_at q j x y) (λ y. a x y + slot_at i j x y) (λ y v. t x y u v),
      )

  pub moved-given : (q : ℕ) → q < n → Moved n m a b i j q → (y : ℕ) → y < m → given n b y ≡ given n a y
  moved-given q ql t y v =
      omega (
        arith,
        slot-column n i j y il,
        slot-column n q j y ql,
        sum-add n (λ x. b x y) (λ x. slot_at q j x y),
        sum-add n (λ x. a x y) (λ x. slot_at i j x y),
        sum-eq n (λ x. b x y + slot_at q j x y) (λ x. a x y + slot_at i j x y) (λ x u. t x y u v),
      )

  pub moved-feasible : (q : ℕ) → q < n → Moved n m a b i j q → Feasible n m d c a → a i j < d i j → Feasible n m d c b
  moved-feasible q ql t f less = record {
    within = λ x y u v. grind (arith, t x y u v, f.within x y u v, eqb-true);
    room = λ y v. omega (arith, f.room y v, moved-given q ql t y v);
  }
