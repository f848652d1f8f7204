-- What one who builds a board needs: a change that its tests refuse leaves the board, and one that they let pass comes to its new meaning.
use Rattle.std.proofs.Common.{◌≡◌, ℕ, ◌<◌, ◌≤◌, false, ◌&&◌, ◌||◌, eqb, ltb, leb, IsErrAnd, Ok, Err, Result, sym, refl, ap, ◌∙◌, subst, arith}
use Rattle.std.proofs.lemmas.Bool.Decides.{nat_tests}
use Rattle.std.proofs.lemmas.Bool.{cond_both, ltb-false}
use Rattle.board.specs.declared.fault.Fault.{Fault}
use Rattle.board.specs.Meaning.{Meaning, Sound, given_at, pair_count, with_need, with_held, with_capacity, cleared}
use Rattle.board.specs.Outcomes.{Outcome, done, refused, answered, after, set_need, set_held, set_capacity}
use Rattle.board.specs.Boards.{Build, Good, Changed, Cleared}
use Rattle.board.proofs.Changes.{set_need-sound, set_held-sound, set_capacity-sound, cleared-sound, on-board-left, on-board-right}

-- what is known of a need that passed
pub record NeedPassed (m : Meaning) (task core amount : ℕ) (outcome : Outcome) : Type 0 where
  pub comes : outcome ≡ done (with_need m task core amount)
  pub on_tasks : task < m.tasks
  pub on_cores : core < m.cores
  pub small : amount ≤ 1000
  pub covers : m.held task core ≤ amount
  pub room : (ltb 0 amount && eqb (m.need task core) 0 && leb m.greatest_pairs (pair_count m)) ≡ false

pub record HeldPassed (m : Meaning) (task core amount : ℕ) (outcome : Outcome) : Type 0 where
  pub comes : outcome ≡ done (with_held m task core amount)
  pub on_tasks : task < m.tasks
  pub on_cores : core < m.cores
  pub within : amount ≤ m.need task core

pub record CapacityPassed (m : Meaning) (core amount : ℕ) (outcome : Outcome) : Type 0 where
  pub comes : outcome ≡ done (with_capacity m core amount)
  pub on_cores : core < m.cores
  pub small : amount ≤ m.greatest_capacity core

-- no refusal answers Ok
abbrev IsOk : Result (Unit {0}) Fault → Type 0
IsOk (Ok u) = Unit {0}
IsOk (Err f) = ⊥

never : (f : Fault) → ◌≡◌ {A = Result (Unit {0}) Fault} (Ok tt) (Err f) → ⊥
never f e = subst IsOk e tt

pub need-passed : (m : Meaning) (task core amount : ℕ) → Ok tt ≡ answered (set_need m task core amount) → NeedPassed m task core amount (set_need m task core amount)
need-passed m task core amount =
    let P : Outcome → Type 0 = λ o. Ok tt ≡ answered o → NeedPassed m task core amount o in
    cond_both (leb m.tasks task || leb m.cores core) _ _ P (λ _ no. absurd (never _ no))
    (λ on. cond_both (ltb 1000 amount) _ _ P (λ _ no. absurd (never _ no))
    (λ e. cond_both (ltb amount (m.held task core)) _ _ P (λ _ no. absurd (never _ no))
    (λ f. cond_both (ltb 0 amount && eqb (m.need task core) 0 && leb m.greatest_pairs (pair_count m)) _ _ P (λ _ no. absurd (never _ no))
    (λ h _. record {
      comes = refl;
      on_tasks = on-board-left m.tasks m.cores task core on;
      on_cores = on-board-right m.tasks m.cores task core on;
      small = ltb-false _ _ e;
      covers = ltb-false _ _ f;
      room = h;
    }))))

pub held-passed : (m : Meaning) (task core amount : ℕ) → Ok tt ≡ answered (set_held m task core amount) → HeldPassed m task core amount (set_held m task core amount)
held-passed m task core amount =
    let P : Outcome → Type 0 = λ o. Ok tt ≡ answered o → HeldPassed m task core amount o in
    cond_both (leb m.tasks task || leb m.cores core) _ _ P (λ _ no. absurd (never _ no))
    (λ on. cond_both (ltb (m.need task core) amount) _ _ P (λ _ no. absurd (never _ no))
    (λ e. cond_both (ltb (m.capacity core) (given_at (with_held m task core amount) core)) _ _ P (λ _ no. absurd (never _ no))
    (λ f _. record {
      comes = refl;
      on_tasks = on-board-left m.tasks m.cores task core on;
      on_cores = on-board-right m.tasks m.cores task core on;
      within = ltb-false _ _ e;
    })))

pub capacity-passed : (m : Meaning) (core amount : ℕ) → Ok tt ≡ answered (set_capacity m core amount) → CapacityPassed m core amount (set_capacity m core amount)
capacity-passed m core amount =
    let P : Outcome → Type 0 = λ o. Ok tt ≡ answered o → CapacityPassed m core amount o in
    cond_both (leb m.cores core) _ _ P (λ _ no. absurd (never _ no))
    (λ on. cond_both (ltb (m.greatest_capacity core) amount) _ _ P (λ _ no. absurd (never _ no))
    (λ e. cond_both (ltb amount (given_at m core)) _ _ P (λ _ no. absurd (never _ no))
    (λ f _. record { comes = refl; on_cores = grind (arith, nat_tests); small = ltb-false _ _ e })))

module _ {S : Type 0} (build : Build S) where
  -- the tests told a fault, which was handed on, and nothing was done
  pub stays : (a : S) (outcome : Outcome) (r : Result (Unit {0}) Fault) (fault : Fault) → Good build a → Err fault ≡ answered outcome
      → IsErrAnd r (λ told. told ≡ fault) → Changed build a a outcome r
  stays a (done m) r fault good told handed = absurd (never fault (sym told))
  stays a (refused why) (Ok u) fault good told handed = absurd handed
  stays a (refused why) (Err f) fault good told handed =
      record { told = ap Err handed ∙ told; left = refl; unchanged = refl; good = good; keeps = build.keeping.same a }

module _ {S : Type 0} (build : Build S) where
  -- the tests let the change pass, and it was done
  changes : (a b : S) (outcome : Outcome) (m : Meaning) → outcome ≡ done m → build.meaning b ≡ m → build.ready b → Sound (after (build.meaning a) outcome) → build.kept a b
      → Changed build a b outcome (Ok tt)
  changes a b (done n) m comes left serves sound keeps =
      let same : n ≡ m = ap (after m) comes in
      record { told = refl; left = left ∙ sym same; unchanged = tt; good = record { serves = serves; sound = subst Sound (same ∙ sym left) sound }; keeps = keeps }
  changes a b (refused why) m comes left serves sound keeps = absurd (never _ (sym (ap answered comes)))

  pub need-changes : (a b : S) (task core amount : ℕ) → Good build a → Ok tt ≡ answered (set_need (build.meaning a) task core amount)
      → build.meaning b ≡ with_need (build.meaning a) task core amount → build.ready b → build.kept a b → Changed build a b (set_need (build.meaning a) task core amount) (Ok tt)
  need-changes a b task core amount good passed left serves keeps =
      changes a b _ _ (need-passed (build.meaning a) task core amount passed).comes left serves (set_need-sound (build.meaning a) task core amount good.sound) keeps

  pub held-changes : (a b : S) (task core amount : ℕ) → Good build a → Ok tt ≡ answered (set_held (build.meaning a) task core amount)
      → build.meaning b ≡ with_held (build.meaning a) task core amount → build.ready b → build.kept a b → Changed build a b (set_held (build.meaning a) task core amount) (Ok tt)
  held-changes a b task core amount good passed left serves keeps =
      changes a b _ _ (held-passed (build.meaning a) task core amount passed).comes left serves (set_held-sound (build.meaning a) task core amount good.sound) keeps

  pub capacity-changes : (a b : S) (core amount : ℕ) → Good build a → Ok tt ≡ answered (set_capacity (build.meaning a) core amount)
      → build.meaning b ≡ with_capacity (build.meaning a) core amount → build.ready b → build.kept a b → Changed build a b (set_capacity (build.meaning a) core amount) (Ok tt)
  capacity-changes a b core amount good passed left serves keeps =
      changes a b _ _ (capacity-passed (build.meaning a) core amount passed).comes left serves (set_capacity-sound (build.meaning a) core amount good.sound) keeps

  pub clears : (a b : S) → Good build a → build.meaning b ≡ cleared (build.meaning a) → build.ready b → build.kept a b → Cleared build a b
  clears a b good left serves keeps =
      record { left = left; good = record { serves = serves; sound = subst Sound (sym left) (cleared-sound (build.meaning a) good.sound) }; keeps = keeps }
