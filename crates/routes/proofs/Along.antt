-- A slot goes along a route, from its last step to its first.
use Rattle.std.proofs.Common.{◌≡◌, ℕ, suc, ◌+◌, ◌<◌, ◌≤◌, false, eqb, List, [], ◌∷◌, ◌++◌, length, get_or, sym, ap, ◌∙◌, subst, arith}
use Rattle.std.proofs.Math.Seq.{get_or-append_seam}
use Rattle.std.proofs.Math.ListN.{get_or-append}
use Rattle.std.proofs.lemmas.Grind.{common_steps}
use Rattle.std.proofs.lemmas.Bool.{ne_eqb, lt-ltb, le-ltb, cond-true, cond-false}
use Rattle.fairness.specs.Sums.{sum_to}
use Rattle.fairness.specs.Moves.{slot_at}
use Rattle.fairness.specs.Routes.{Route}
use Rattle.board.specs.Meaning.{Meaning, SameOrder, planned}
use Rattle.routes.specs.declared.Step.{Step}
use Rattle.routes.specs.Routes.{task_on, core_on, no_step, RouteTo, MayShift, Shifted}

-- what the step s takes and gives at a task and a core
abbrev took : (ℕ → ℕ) → (ℕ → ℕ) → ℕ → ℕ → ℕ → ℕ
took at through t c s = slot_at (at s) (through s) t c

abbrev gave : (ℕ → ℕ) → (ℕ → ℕ) → ℕ → ℕ → ℕ → ℕ
gave at through t c s = slot_at (at (suc s)) (through s) t c

-- n is m after the steps from i on; those below i can still be taken
pub record Along (m n : Meaning) (steps : ℕ) (at through : ℕ → ℕ) (i : ℕ) : Type 0 where
  pub same_order : SameOrder m n
  pub needs : (s : ℕ) → s < i → n.held (at s) (through s) < n.need (at s) (through s)
  pub holds : (s : ℕ) → s < i → 0 < n.held (at (suc s)) (through s)
  pub passed : (t c : ℕ) → t < m.tasks → c < m.cores
      → n.held t c + sum_to steps (gave at through t c) + sum_to i (took at through t c) ≡ m.held t c + sum_to steps (took at through t c) + sum_to i (gave at through t c)

module _ (m : Meaning) (steps : ℕ) (at through : ℕ → ℕ) (r : Route m.tasks m.cores m.need m.held steps at through)
    (n : Meaning) (i : ℕ) (il : i < steps) (h : Along m n steps at through (suc i)) where
  pub along-may : MayShift n (at i) (through i) (at (suc i))
  along-may =
      let te : n.tasks ≡ m.tasks = ap (λ (n : Meaning). n.tasks) h.same_order in
      let ce : n.cores ≡ m.cores = ap (λ (n : Meaning). n.cores) h.same_order in
      record {
        takes = omega (arith, te, r.tasks i (omega arith));
        gives = omega (arith, te, r.tasks (suc i) (omega arith));
        real = omega (arith, ce, r.cores i il);
        wants = h.needs i (omega arith);
        some = h.holds i (omega arith);
        apart = r.no_task_twice i (suc i) (omega arith) (omega arith);
      }

  pub along-step : (o : Meaning) → Shifted n o (at i) (through i) (at (suc i)) → Along m o steps at through i
  along-step o s =
      let te : n.tasks ≡ m.tasks = ap (λ (n : Meaning). n.tasks) h.same_order in
      let ce : n.cores ≡ m.cores = ap (λ (n : Meaning). n.cores) h.same_order in
      let ne : o.need ≡ n.need = ap (λ (n : Meaning). n.need) s.same_order in
      record {
        same_order = s.same_order ∙ ap (λ (n : Meaning). planned n o.held) h.same_order;
        passed = λ t c tn cm. omega (arith, h.passed t c tn cm, s.moved t c (omega (arith, te)) (omega (arith, ce)));
        needs = λ k l.
            let z = h.needs k (omega arith) in
            let no : eqb (at k) (at i) ≡ false = ne_eqb _ _ (r.no_task_twice k i l (omega arith)) in
            rw ne (grind (arith, z, no, s.moved (at k) (through k) (omega (arith, te, r.tasks k (omega arith))) (omega (arith, ce, r.cores k (omega arith)))));
        holds = λ k l.
            let z = h.holds k (omega arith) in
            let no : eqb (at (suc k)) (at (suc i)) ≡ false = ne_eqb _ _ (r.no_task_twice (suc k) (suc i) (omega arith) (omega arith)) in
            grind (arith, z, no, s.moved (at (suc k)) (through k) (omega (arith, te, r.tasks (suc k) (omega arith))) (omega (arith, ce, r.cores k (omega arith))));
      }

-- the same along a list of steps
pub task-on : (r : List Step) (q i : ℕ) → i < length r → task_on r q i ≡ (get_or r i no_step).task
task-on r q i l = cond-true _ _ _ (lt-ltb i (length r) l)

pub loser-on : (r : List Step) (q : ℕ) → task_on r q (length r) ≡ q
loser-on r q = cond-false _ _ _ (le-ltb (length r) (length r) (omega arith))

-- n is m after the last steps of r: those that are left are its first, and the giver is what the next of them takes its slot from
pub record Halfway (m n : Meaning) (r left : List Step) (q giver : ℕ) : Type 0 where
  pub along : Along m n (length r) (task_on r q) (core_on r) (length left)
  pub fits : length left ≤ length r
  pub first : (i : ℕ) → i < length left → get_or left i no_step ≡ get_or r i no_step
  pub gives : giver ≡ task_on r q (length left)

module _ (m n : Meaning) (r left rest : List Step) (x : Step) (q giver : ℕ) (y : RouteTo m r q) (h : Halfway m n r left q giver) (last : left ≡ rest ++ x ∷ []) where
  one-more : length left ≡ suc (length rest)
  one-more = grind (arith, common_steps)

  within : length rest < length r
  within = omega (arith, h.fits, one-more)

  here : get_or r (length rest) no_step ≡ x
  here = sym (h.first (length rest) (omega (arith, one-more))) ∙ (ap (λ z. get_or z (length rest) no_step) last ∙ get_or-append_seam rest x [] no_step)

  taker : task_on r q (length rest) ≡ x.task
  taker = task-on r q (length rest) within ∙ ap (λ (z : Step). z.task) here

  core : core_on r (length rest) ≡ x.core
  core = ap (λ (z : Step). z.core) here

  before : Along m n (length r) (task_on r q) (core_on r) (suc (length rest))
  before = (let P : ℕ → Type 0 = λ k. Along m n (length r) (task_on r q) (core_on r) k in subst P one-more h.along)

  pub half-may : MayShift n x.task x.core giver
  half-may = rw (← taker, ← core, h.gives, one-more) (along-may m (length r) (task_on r q) (core_on r) y n (length rest) within before)

  pub half-turn : (o : Meaning) → Shifted n o x.task x.core giver → Halfway m o r rest q x.task
  half-turn o s = record {
    along = along-step m (length r) (task_on r q) (core_on r) y n (length rest) within before o (rw (taker, core, ← one-more, ← h.gives) s);
    fits = omega (arith, within);
    first = λ i l. sym (ap (λ z. get_or z i no_step) last ∙ get_or-append rest (x ∷ []) no_step i l) ∙ h.first i (omega (arith, one-more));
    gives = sym taker;
  }
