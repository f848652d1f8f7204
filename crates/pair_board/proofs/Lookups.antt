-- What the amounts of a list of entries come to: for a pair that has an entry, and for one that has none.
use Rattle.std.proofs.Common.{◌≡◌, ℕ, ◌<◌, true, false, cond, eqb, List, Option, None, Some, MatchOption, sym, ◌∙◌, inl, inr, arith}
use Rattle.std.specs.Option.{option_map_or}
use mathlib.Core.Path.{fun_ext}
use Rattle.std.proofs.lemmas.Bool.Decides.{nat_tests}
use Rattle.std.proofs.lemmas.Bool.{cases_eq, cases_Bool, cond-true, cond-false, and_parts, eqb-true}
use Rattle.fairness.specs.Plans.{Plan}
use Rattle.fairness.proofs.Sums.{sum-eq, sum-zero, sum-point}
use Rattle.board.specs.Meaning.{put}
use Rattle.pair_board.specs.declared.entry.Entry.{Entry}
use Rattle.pair_board.specs.Entries.{blank, entry_at, is_for, amounts, Absent, At, Serving}

-- an entry's part in a pair's amount
abbrev pub part : (Entry → ℕ) → List Entry → ℕ → ℕ → ℕ → ℕ
part amount entries task core at = cond (is_for (entry_at entries at) task core) (amount (entry_at entries at)) 0

pub is-task : (entry : Entry) (task core : ℕ) → is_for entry task core ≡ true → entry.task ≡ task
is-task entry task core h = eqb-true _ _ (and_parts (eqb entry.task task) _ h).0

pub is-core : (entry : Entry) (task core : ℕ) → is_for entry task core ≡ true → entry.core ≡ core
is-core entry task core h = eqb-true _ _ (and_parts (eqb entry.task task) _ h).1

pub for-pair : (entry : Entry) (task core : ℕ) → entry.task ≡ task → entry.core ≡ core → is_for entry task core ≡ true
for-pair entry task core e f = grind (arith, nat_tests)

pub not-for : (entry : Entry) (task core : ℕ) → (entry.task ≡ task → entry.core ≡ core → ⊥) → is_for entry task core ≡ false
not-for entry task core apart = elim (cases_Bool (is_for entry task core)) [
  | inl h ↦ absurd (apart (is-task entry task core h) (is-core entry task core h))
  | inr h ↦ h
]

pub absent_none : (amount : Entry → ℕ) (entries : List Entry) (used task core : ℕ) → Absent entries used task core → amounts amount entries used task core ≡ 0
absent_none amount entries used task core absent =
    sum-eq used (part amount entries task core) (λ _. 0) (λ at below. cond-false _ _ _ (absent at below)) ∙ sum-zero used

-- no other entry in use is for the pair of this one
pub others : (n m : ℕ) (entries : List Entry) (used task core here : ℕ) → Serving n m entries used → At entries used task core here
    → (at : ℕ) → at < used → (at ≡ here → ⊥) → is_for (entry_at entries at) task core ≡ false
others n m entries used task core here serving found at below ne =
    not-for (entry_at entries at) task core (λ e f. ne (serving.alone at here below found.0
    (e ∙ sym (is-task (entry_at entries here) task core found.1))
    (f ∙ sym (is-core (entry_at entries here) task core found.1))))

pub at-found : (amount : Entry → ℕ) (n m : ℕ) (entries : List Entry) (used task core here : ℕ) → Serving n m entries used → At entries used task core here
    → amounts amount entries used task core ≡ amount (entry_at entries here)
at-found amount n m entries used task core here serving found =
    let mine : part amount entries task core here ≡ amount (entry_at entries here) = cond-true _ _ _ found.1 in
    omega (
      arith,
      mine,
      sum-zero used,
      sum-point used here (λ _. 0) (part amount entries task core) found.0 (λ at below ne. cond-false _ _ _ (others n m entries used task core here serving found at below ne)),
    )

-- what the entry that was looked up says, or the blank one where there is none
pub says : (amount : Entry → ℕ) (n m : ℕ) (entries : List Entry) (used task core : ℕ) (found : Option ℕ) → Serving n m entries used
    → MatchOption found (Absent entries used task core) (λ at. At entries used task core at) → amount blank ≡ 0
    → amount (option_map_or (entry_at entries) found blank) ≡ amounts amount entries used task core
says amount n m entries used task core None serving absent zero = zero ∙ sym (absent_none amount entries used task core absent)
says amount n m entries used task core (Some at) serving here zero = sym (at-found amount n m entries used task core at serving here)

-- a plan with one number put where it already stands is the plan
pub put_same : (plan : Plan) (task core amount : ℕ) → plan task core ≡ amount → put plan task core amount ≡ plan
put_same plan task core amount e = fun_ext (λ t. fun_ext (λ c. elim (cases_eq t task) [
  | inl et ↦ elim (cases_eq c core) [
    | inl ec ↦ rw (et, ec) (grind (arith, nat_tests))
    | inr ne ↦ grind (arith, nat_tests)
  ]
  | inr ne ↦ grind (arith, nat_tests)
]))
