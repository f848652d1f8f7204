-- A run grows call by call.
use Rattle.std.proofs.Common.{◌≡◌, ℕ, ◌+◌, ◌<◌, ◌≤◌, Bool, true, false, cond, ◌&&◌, ◌||◌, eqb, ltb, leb, List, [], ◌∷◌, length, take, set, fold, sym, refl, ap, ◌∙◌, subst, inl, inr, arith, length-set, get_or-set_other, get_or-set_same}
use Rattle.std.proofs.lemmas.List.Sums.{fold_more}
use Rattle.std.proofs.lemmas.Bool.{cases_lt, cond-true, cond-false, le-leb, lt-leb}
use Rattle.fairness.specs.Plans.{Plan}
use Rattle.fairness.specs.Laws.{Comparison}
use Rattle.board.specs.Meaning.{Meaning, Sound, SameOrder, planned, pair_count}
use Rattle.board.specs.Outcomes.{Outcome, done, refused, answered, after}
use Rattle.levelling.specs.Levelled.{FairestOn}
use Rattle.calls.specs.declared.Call.{Call}
use Rattle.calls.specs.declared.Call.TheVariants.{SetNeed, SetCapacity, Release, Reopen}
use Rattle.plan.specs.declared.runs.Note.{Note}
use Rattle.plan.specs.Plans.{Totals}
use Rattle.calls.specs.Turns.{call_at}
use Rattle.plan.specs.Runs.{RanTo, NotesPast, outcome_of, called, present_at, board_at, note_at}

-- the same outcome with another plan on the board
abbrev replanned : Outcome → Plan → Outcome
replanned (done m) plan = done (planned m plan)
replanned (refused why) plan = refused why

if-replanned : (test : Bool) (a b : Outcome) (plan : Plan) → replanned (cond test a b) plan ≡ cond test (replanned a plan) (replanned b plan)
if-replanned true a b plan = refl
if-replanned false a b plan = refl

-- what a call comes to rests on the needs and capacities alone
outcome-planned : (m : Meaning) (plan : Plan) (call : Call) → outcome_of (planned m plan) call ≡ replanned (outcome_of m call) plan
outcome-planned m plan (SetNeed task core need) = sym (if-replanned (leb m.tasks task || leb m.cores core) _ _ plan
    ∙ ap (cond (leb m.tasks task || leb m.cores core) (refused _)) (if-replanned (ltb 1000 need) _ _ plan
    ∙ ap (cond (ltb 1000 need) (refused _)) (if-replanned (ltb 0 need && eqb (m.need task core) 0 && leb m.greatest_pairs (pair_count m)) _ _ plan)))
outcome-planned m plan (SetCapacity core capacity) = sym (if-replanned (leb m.cores core) _ _ plan
    ∙ ap (cond (leb m.cores core) (refused _)) (if-replanned (ltb (m.greatest_capacity core) capacity) _ _ plan))
outcome-planned m plan Release = refl
outcome-planned m plan Reopen = refl

told-replanned : (outcome : Outcome) (plan : Plan) → answered (replanned outcome plan) ≡ answered outcome
told-replanned (done m) plan = refl
told-replanned (refused why) plan = refl

after-replanned : (m : Meaning) (outcome : Outcome) (plan : Plan) → after (planned m plan) (replanned outcome plan) ≡ planned (after m outcome) plan
after-replanned m (done n) plan = refl
after-replanned m (refused why) plan = refl

told-planned : (m : Meaning) (plan : Plan) (call : Call) → answered (outcome_of (planned m plan) call) ≡ answered (outcome_of m call)
told-planned m plan call = ap answered (outcome-planned m plan call) ∙ told-replanned (outcome_of m call) plan

called-planned : (m : Meaning) (plan : Plan) (call : Call) → called (planned m plan) call ≡ planned (called m call) plan
called-planned m plan call = ap (after (planned m plan)) (outcome-planned m plan call) ∙ after-replanned m (outcome_of m call) plan

-- plans up to the place, and one more
abbrev more : (ℕ → Plan) → ℕ → Plan → ℕ → Plan
more plans place plan k = cond (leb k place) (plans k) plan

more-old : (plans : ℕ → Plan) (place : ℕ) (plan : Plan) (k : ℕ) → k ≤ place → more plans place plan k ≡ plans k
more-old plans place plan k h = cond-true (leb k place) (plans k) plan (le-leb k place h)

more-new : (plans : ℕ → Plan) (place : ℕ) (plan : Plan) → more plans place plan (place + 1) ≡ plan
more-new plans place plan = cond-false (leb (place + 1) place) (plans (place + 1)) plan (lt-leb (place + 1) place (omega arith))

-- a new plan has run no call
pub ran-none : (compare : Comparison) (m : Meaning) (calls : List Call) (notes : List Note) → Sound m → FairestOn compare m → RanTo compare m calls 0 notes m
ran-none compare m calls notes sound fair = record {
  plans = λ _. m.held;
  fairest = λ k h. let none : k ≡ 0 = omega arith in let P : ℕ → Type 0 = λ z. FairestOn compare (board_at m calls (λ _. m.held) z) in subst P (sym none) fair;
  sound = λ k h. let none : k ≡ 0 = omega arith in let P : ℕ → Type 0 = λ z. Sound (board_at m calls (λ _. m.held) z) in subst P (sym none) sound;
  answers = λ k h. let no : ⊥ = omega arith in absurd no;
  totals = λ k h. let no : ⊥ = omega arith in absurd no;
  ends = refl;
}

-- one more call, with its note
pub ran-more : (compare : Comparison) (m : Meaning) (calls : List Call) (place : ℕ) (notes : List Note) (a b : Meaning) (note : Note) → place < length calls → place < length notes
    → RanTo compare m calls place notes a → note.answer ≡ answered (outcome_of a (call_at calls place)) → SameOrder (called a (call_at calls place)) b
    → Sound b → FairestOn compare b → Totals b note.totals → RanTo compare m calls (place + 1) (set notes place note) b
ran-more compare m calls place notes a b note inside room ran told order sound fair totals =
    let call : Call = call_at calls place in
    let present : Meaning = present_at m calls place in
    let plans : ℕ → Plan = more ran.plans place b.held in
    let next : present_at m calls (place + 1) ≡ called present call = fold_more called m calls place (SetNeed 0 0 0) inside in
    let came : called a call ≡ planned (called present call) (ran.plans place) = ap (λ (z : Meaning). called z call) ran.ends ∙ called-planned present (ran.plans place) call in
    let new : planned (called a call) b.held ≡ planned (present_at m calls (place + 1)) b.held =
    ap (λ (z : Meaning). planned z b.held) came ∙ ap (λ (z : Meaning). planned z b.held) (sym next) in
    let ends : b ≡ board_at m calls plans (place + 1) =
    order ∙ (new ∙ ap (planned (present_at m calls (place + 1))) (sym (more-new ran.plans place b.held))) in
    let old : (k : ℕ) → k ≤ place → board_at m calls ran.plans k ≡ board_at m calls plans k =
    λ k h. ap (planned (present_at m calls k)) (sym (more-old ran.plans place b.held k h)) in
    let here : note ≡ note_at (set notes place note) place = sym (get_or-set_same notes place note _ room) in
    let earlier : (k : ℕ) → k < place → note_at notes k ≡ note_at (set notes place note) k = λ k h. sym (get_or-set_other notes place k note _ (λ e. omega arith)) in
    record {
      plans = plans;
      fairest = λ k h. elim (cases_lt place k) [
        | inl past ↦
            let last : place + 1 ≡ k = omega arith in
            let P : ℕ → Type 0 = λ z. FairestOn compare (board_at m calls plans z) in
            subst P last (subst (FairestOn compare) ends fair)
        | inr within ↦ subst (FairestOn compare) (old k within) (ran.fairest k within)
      ];
      sound = λ k h. elim (cases_lt place k) [
        | inl past ↦
            let last : place + 1 ≡ k = omega arith in
            let P : ℕ → Type 0 = λ z. Sound (board_at m calls plans z) in
            subst P last (subst Sound ends sound)
        | inr within ↦ subst Sound (old k within) (ran.sound k within)
      ];
      answers = λ k h. elim (cases_lt k place) [
        | inl before ↦ ap (λ (z : Note). z.answer) (sym (earlier k before)) ∙ ran.answers k before
        | inr now ↦
            let last : place ≡ k = omega arith in
            let P : ℕ → Type 0 = λ z. (note_at (set notes place note) z).answer ≡ answered (outcome_of (present_at m calls z) (call_at calls z)) in
            subst P last (ap (λ (z : Note). z.answer) (sym here) ∙ (told ∙ (ap (λ (z : Meaning). answered (outcome_of z call)) ran.ends ∙ told-planned present (ran.plans place) call)))
      ];
      totals = λ k h. elim (cases_lt k place) [
        | inl before ↦
            let P : Note → Type 0 = λ z. Totals (board_at m calls plans (k + 1)) z.totals in
            let Q : Meaning → Type 0 = λ z. Totals z (note_at notes k).totals in
            subst P (earlier k before) (subst Q (old (k + 1) (omega arith)) (ran.totals k before))
        | inr now ↦
            let last : place ≡ k = omega arith in
            let R : ℕ → Type 0 = λ z. Totals (board_at m calls plans (z + 1)) (note_at (set notes place note) z).totals in
            let P : Note → Type 0 = λ z. Totals (board_at m calls plans (place + 1)) z.totals in
            let Q : Meaning → Type 0 = λ z. Totals z note.totals in
            subst R last (subst P here (subst Q ends totals))
      ];
      ends = ends;
    }

-- the notes past the next place
pub notes-more : (place : ℕ) (before notes : List Note) (note : Note) → NotesPast place before notes → NotesPast (place + 1) before (set notes place note)
notes-more place before notes note past = record {
  long = length-set notes place note ∙ past.long;
  rest = λ k h. get_or-set_other notes place k note _ (λ e. omega arith) ∙ past.rest k (omega arith);
}

present-planned : (m : Meaning) (plan : Plan) (calls : List Call) → fold called (planned m plan) calls ≡ planned (fold called m calls) plan
present-planned m plan [] = refl
present-planned m plan (call ∷ calls) =
    ap (λ (z : Meaning). fold called z calls) (called-planned m plan call) ∙ present-planned (called m call) plan calls

-- a run from a levelled board is a run from the board before
pub ran-since : (compare : Comparison) (m levelled : Meaning) (calls : List Call) (count : ℕ) (notes : List Note) (end : Meaning) → SameOrder m levelled
    → RanTo compare levelled calls count notes end → RanTo compare m calls count notes end
ran-since compare m levelled calls count notes end order ran =
    let held : Plan = levelled.held in
    let from : (k : ℕ) → present_at levelled calls k ≡ planned (present_at m calls k) held =
    λ k. ap (λ (z : Meaning). fold called z (take k calls)) order ∙ present-planned m held (take k calls) in
    let same : (k : ℕ) → board_at levelled calls ran.plans k ≡ board_at m calls ran.plans k = λ k. ap (λ (z : Meaning). planned z (ran.plans k)) (from k) in
    record {
      plans = ran.plans;
      fairest = λ k h. subst (FairestOn compare) (same k) (ran.fairest k h);
      sound = λ k h. subst Sound (same k) (ran.sound k h);
      answers = λ k h. ran.answers k h ∙ (ap (λ (z : Meaning). answered (outcome_of z (call_at calls k))) (from k) ∙ told-planned (present_at m calls k) held (call_at calls k));
      totals = λ k h. let Q : Meaning → Type 0 = λ z. Totals z (note_at notes k).totals in subst Q (same (k + 1)) (ran.totals k h);
      ends = ran.ends ∙ same count;
    }
