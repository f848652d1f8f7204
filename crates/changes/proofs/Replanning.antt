-- What a plan's set calls come to, step by step.
use Rattle.std.proofs.Common.{◌≡◌, ℕ, cond, eqb, Ok, sym, refl, ap, ◌∙◌, inl, inr, arith}
use mathlib.Core.Path.{fun_ext}
use Rattle.std.proofs.lemmas.Bool.Decides.{nat_tests}
use Rattle.std.proofs.lemmas.Bool.{cases_eq}
use Rattle.fairness.specs.Laws.{Comparison}
use Rattle.board.specs.Meaning.{Meaning, planned, put, with_need, with_capacity}
use Rattle.board.specs.Outcomes.{Outcome, done, refused, answered, after}
use Rattle.board.specs.Boards.{Build}
use Rattle.changes.proofs.Taking.{never}
use Rattle.changes.specs.Standing.{Standing, Replanned}

-- a number that is set to what it is
pub need-same : (m : Meaning) (task core amount : ℕ) → amount ≡ m.need task core → with_need m task core amount ≡ m
need-same m task core amount e =
    let same : put m.need task core amount ≡ m.need = fun_ext (λ t. fun_ext (λ c. elim (cases_eq t task) [
      | inl et ↦ elim (cases_eq c core) [ inl ec ↦ rw (et, ec) (grind (arith, nat_tests, e)) | inr nc ↦ grind (arith, nat_tests) ]
      | inr nt ↦ grind (arith, nat_tests)
    ])) in
    ap (λ z. record { tasks = m.tasks; cores = m.cores; capacity = m.capacity; need = z; held = m.held; greatest_pairs = m.greatest_pairs; greatest_capacity = m.greatest_capacity }) same

pub capacity-same : (m : Meaning) (core amount : ℕ) → amount ≡ m.capacity core → with_capacity m core amount ≡ m
capacity-same m core amount e =
    let same : (λ (c : ℕ). cond (eqb c core) amount (m.capacity c)) ≡ m.capacity = fun_ext (λ c. elim (cases_eq c core) [ inl ec ↦ rw ec (grind (arith, nat_tests, e)) | inr nc ↦ grind (arith, nat_tests) ]) in
    ap (λ z. record { tasks = m.tasks; cores = m.cores; capacity = z; need = m.need; held = m.held; greatest_pairs = m.greatest_pairs; greatest_capacity = m.greatest_capacity }) same

module _ {S : Type 0} (build : Build S) (compare : Comparison) where
  -- the number is what it was
  pub plan-rests : (a : S) (outcome : Outcome) (m : Meaning) → outcome ≡ done m → m ≡ build.meaning a → Standing build compare a → Replanned build compare a a outcome (Ok tt)
  plan-rests a (done n) m comes same standing =
      let e : n ≡ build.meaning a = ap (after m) comes ∙ same in
      record { told = refl; order = ap (λ (z : Meaning). planned z (build.meaning a).held) (sym e); standing = standing; keeps = build.keeping.same a; unchanged = tt; still = λ _. refl }
  plan-rests a (refused why) m comes same standing = absurd (never _ (sym (ap answered comes)))
