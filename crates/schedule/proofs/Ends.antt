-- What the ends of runs have in common.
use Rattle.std.proofs.Common.{◌≡◌, ℕ, ◌+◌, ◌<◌, ◌≤◌, List, length, Ok, Result, sym, ◌∙◌, subst, inl, inr, arith}
use mathlib.Core.Path.{fun_ext}
use Rattle.std.proofs.lemmas.Bool.{cases_lt}
use Rattle.fairness.specs.Plans.{Plan, total}
use Rattle.fairness.specs.Laws.{Comparison, Lawful}
use Rattle.fairness.specs.Levels.{Fairest}
use Rattle.fairness.specs.Even.{even}
use Rattle.fairness.proofs.Theorems.{fairest-same-levels, totals-within-one}
use Rattle.fairness.proofs.Lexicographic.{even-lexicographic}
use Rattle.board.specs.Meaning.{Meaning, Sound}
use Rattle.levelling.specs.Levelled.{FairestOn}
use Rattle.levelling.proofs.Boards.{countable}
use Rattle.calls.specs.declared.Call.{Call}
use Rattle.plan.specs.declared.runs.Note.{Note}
use Rattle.plan.specs.declared.runs.RunRefusal.{RunRefusal}
use Rattle.plan.specs.Runs.{Ran, Played, RunTold, board_at}
use Rattle.schedule.specs.Endings.{SameNumbers, Alike}
use Rattle.schedule.specs.Evenly.{RanEvenly, LexicographicallyFairOn}

-- a run that was accepted was played
pub played : {S : Type 0} (meaning : S → Meaning) (compare : Comparison) (a b : S) (calls : List Call) (notes written : List Note) (r : Result (Unit {0}) RunRefusal)
    → RunTold meaning compare a b calls notes written r → r ≡ Ok tt → Played compare (meaning a) (meaning b) calls notes written
played meaning compare a b calls notes written r told accepted = subst (RunTold meaning compare a b calls notes written) accepted told

-- and left a fairest plan
pub ends-fairest : (compare : Comparison) (m end : Meaning) (calls : List Call) (notes : List Note) → Ran compare m calls notes end → FairestOn compare end
ends-fairest compare m end calls notes ran = subst (FairestOn compare) (sym ran.ends) (ran.fairest (length calls) (omega arith))

-- on sound boards numbers that agree on the board agree everywhere: the others are 0
same-needs : (a b : Meaning) → Sound a → Sound b → SameNumbers a b → (task core : ℕ) → a.need task core ≡ b.need task core
same-needs a b sa sb same task core = elim (cases_lt task a.tasks) [
  | inl on ↦ elim (cases_lt core a.cores) [
    | inl at ↦ same.needs task core on at
    | inr off ↦ sa.beyond_cores task core off ∙ sym (sb.beyond_cores task core (omega (arith, same.cores)))
  ]
  | inr off ↦ sa.beyond_tasks task core off ∙ sym (sb.beyond_tasks task core (omega (arith, same.tasks)))
]

same-capacities : (a b : Meaning) → Sound a → Sound b → SameNumbers a b → (core : ℕ) → a.capacity core ≡ b.capacity core
same-capacities a b sa sb same core = elim (cases_lt core a.cores) [
  | inl at ↦ same.capacities core at
  | inr off ↦ omega (arith, sa.capped core, sa.no_core core off, sb.capped core, sb.no_core core (omega (arith, same.cores)))
]

-- fairest plans for the same numbers are alike
pub fairest-alike : (compare : Comparison) → Lawful compare → (a b : Meaning) → Sound a → Sound b → FairestOn compare a → FairestOn compare b → SameNumbers a b → Alike compare a b
fairest-alike compare lawful a b sa sb fa fb same =
    let needs : b.need ≡ a.need = fun_ext (λ task. fun_ext (λ core. sym (same-needs a b sa sb same task core))) in
    let capacities : b.capacity ≡ a.capacity = fun_ext (λ core. sym (same-capacities a b sa sb same core)) in
    let W : ℕ → Type 0 = λ z. Fairest compare z b.cores b.need b.capacity b.held in
    let X : ℕ → Type 0 = λ z. Fairest compare a.tasks z b.need b.capacity b.held in
    let Y : Plan → Type 0 = λ z. Fairest compare a.tasks a.cores z b.capacity b.held in
    let Z : (ℕ → ℕ) → Type 0 = λ z. Fairest compare a.tasks a.cores a.need z b.held in
    let second : Fairest compare a.tasks a.cores a.need a.capacity b.held =
    subst Z capacities (subst Y needs (subst X (sym same.cores) (subst W (sym same.tasks) fb))) in
    let few = countable a sa in
    let U : ℕ → Type 0 = λ z. (task : ℕ) → task < a.tasks → total a.cores a.held task ≤ total z b.held task + 1 in
    let V : ℕ → Type 0 = λ z. (task : ℕ) → task < a.tasks → total z b.held task ≤ total a.cores a.held task + 1 in
    record {
      levels = fairest-same-levels compare lawful a.tasks a.cores a.need a.capacity a.held b.held fa second;
      above = subst U same.cores (totals-within-one compare lawful a.tasks a.cores a.need a.capacity a.capacity few (λ core at. omega arith) a.held b.held fa second);
      below = subst V same.cores (totals-within-one compare lawful a.tasks a.cores a.need a.capacity a.capacity few (λ core at. omega arith) b.held a.held second fa);
    }

-- every plan of a run under the even rule is lexicographically fair
pub ran-evenly : (m end : Meaning) (calls : List Call) (notes : List Note) → Ran even m calls notes end → RanEvenly m calls notes end
ran-evenly m end calls notes ran =
    let fair : (k : ℕ) → k ≤ length calls → LexicographicallyFairOn (board_at m calls ran.plans k) = λ k h.
    let board : Meaning = board_at m calls ran.plans k in
    (even-lexicographic board.tasks board.cores board.need board.capacity (countable board (ran.sound k h)) board.held).0 (ran.fairest k h) in
    record { ran = ran; fair = fair; fair_end = subst LexicographicallyFairOn (sym ran.ends) (fair (length calls) (omega arith)) }
