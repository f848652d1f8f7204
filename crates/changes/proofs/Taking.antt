-- What is known of a change that a plan takes, and what it makes of the order.
use Rattle.std.proofs.Common.{◌≡◌, ℕ, ◌<◌, ◌≤◌, min, false, ◌&&◌, ◌||◌, eqb, ltb, leb, Ok, Err, Result, sym, refl, ap, ◌∙◌, subst, arith}
use Rattle.std.proofs.lemmas.Bool.Decides.{nat_tests}
use Rattle.std.proofs.lemmas.Bool.{cond_both, ltb-false}
use Rattle.board.specs.declared.fault.Fault.{Fault}
use Rattle.board.specs.Meaning.{Meaning, SameOrder, planned, pair_count, with_need, with_held, with_capacity}
use Rattle.board.specs.Outcomes.{Outcome, done, answered, after, set_need}
use Rattle.board.proofs.Changes.{done-need, put-here, on-board-left, on-board-right}
use Rattle.changes.specs.Changes.{plan_need, plan_capacity}

-- what is known of a need, or of a capacity, that a plan takes
pub record NeedTaken (m : Meaning) (task core amount : ℕ) (outcome : Outcome) : Type 0 where
  pub comes : outcome ≡ done (with_need m task core amount)
  pub on_tasks : task < m.tasks
  pub on_cores : core < m.cores
  pub small : amount ≤ 1000
  pub room : (ltb 0 amount && eqb (m.need task core) 0 && leb m.greatest_pairs (pair_count m)) ≡ false

pub record CapacityTaken (m : Meaning) (core amount : ℕ) (outcome : Outcome) : Type 0 where
  pub comes : outcome ≡ done (with_capacity m core amount)
  pub on_cores : core < m.cores
  pub small : amount ≤ m.greatest_capacity core

abbrev IsOk : Result (Unit {0}) Fault → Type 0
IsOk (Ok u) = Unit {0}
IsOk (Err f) = ⊥

-- what is taken is not refused
pub never : (f : Fault) → ◌≡◌ {A = Result (Unit {0}) Fault} (Ok tt) (Err f) → ⊥
never f e = subst IsOk e tt

pub need-taken : (m : Meaning) (task core amount : ℕ) → Ok tt ≡ answered (plan_need m task core amount) → NeedTaken m task core amount (plan_need m task core amount)
need-taken m task core amount =
    let P : Outcome → Type 0 = λ o. Ok tt ≡ answered o → NeedTaken m task core amount o in
    cond_both (leb m.tasks task || leb m.cores core) _ _ P (λ _ no. absurd (never _ no))
    (λ on. cond_both (ltb 1000 amount) _ _ P (λ _ no. absurd (never _ no))
    (λ e. cond_both (ltb 0 amount && eqb (m.need task core) 0 && leb m.greatest_pairs (pair_count m)) _ _ P (λ _ no. absurd (never _ no))
    (λ h _. record {
      comes = refl;
      on_tasks = on-board-left m.tasks m.cores task core on;
      on_cores = on-board-right m.tasks m.cores task core on;
      small = ltb-false _ _ e;
      room = h;
    })))

pub capacity-taken : (m : Meaning) (core amount : ℕ) → Ok tt ≡ answered (plan_capacity m core amount) → CapacityTaken m core amount (plan_capacity m core amount)
capacity-taken m core amount =
    let P : Outcome → Type 0 = λ o. Ok tt ≡ answered o → CapacityTaken m core amount o in
    cond_both (leb m.cores core) _ _ P (λ _ no. absurd (never _ no))
    (λ on. cond_both (ltb (m.greatest_capacity core) amount) _ _ P (λ _ no. absurd (never _ no))
    (λ e _. record { comes = refl; on_cores = grind (arith, nat_tests); small = ltb-false _ _ e }))

-- once the slots fit, the board takes the need
pub need-goes : (m fit b : Meaning) (task core amount : ℕ) → NeedTaken m task core amount (plan_need m task core amount)
    → fit ≡ with_held m task core (min (m.held task core) amount) → b ≡ after fit (set_need fit task core amount) → SameOrder (with_need m task core amount) b
need-goes m fit b task core amount t fe be =
    let s : Meaning = with_held m task core (min (m.held task core) amount) in
    let covers : s.held task core ≤ amount = omega (arith, put-here m.held task core (min (m.held task core) amount)) in
    let e = done-need s task core amount t.on_tasks t.on_cores t.small covers (λ some none. let h = t.room in grind (arith, nat_tests)) in
    let w : b ≡ with_need s task core amount = be ∙ (ap (λ (z : Meaning). after z (set_need z task core amount)) fe ∙ ap (after s) e) in
    let P : Meaning → Type 0 = λ z. SameOrder (with_need m task core amount) z in
    subst P (sym w) refl
