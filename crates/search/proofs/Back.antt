-- A way back grows by a step; it is short; it is a route.
use Rattle.std.proofs.Common.{◌≡◌, ℕ, zero, suc, ◌+◌, ◌-◌, ◌<◌, ◌≤◌, cond, nat_le, List, length, get_or, set, sym, refl, ap, ◌∙◌, inl, inr, arith, below_more}
use Rattle.std.proofs.lemmas.List.{get_or-set_same, get_or-set_other}
use Rattle.std.proofs.lemmas.Bool.{cases_lt, le-leb, lt-leb, cond-true, cond-false}
use Rattle.search.specs.declared.Search.{Search}
use Rattle.search.specs.Trails.{found_count, task_at, through_at, core_at, opener_at, Linked}
use Rattle.routes.specs.declared.Step.{Step}
use Rattle.routes.specs.Routes.{no_step, core_on}
use Rattle.search.specs.Chains.{Chain}

pub chain-none : (s : Search) (x : ℕ) (l : List Step) → x ≡ 0 → Linked s → Chain s x l 0
chain-none s x l e k = record {
  at = λ i. 0;
  start = refl;
  end = sym e;
  next = λ i u. absurd (omega arith);
  within = λ i u. k.some;
  tasks = λ i u. absurd (omega arith);
  cores = λ i u. absurd (omega arith);
}

module _ (s : Search) (x : ℕ) (l : List Step) (k : ℕ) (w : Linked s) (h : Chain s x l k) where
  -- each step has an opening of its own, in order
  pub chain_by : (i : ℕ) → i < k → i ≤ through_at s (h.at (suc i))
  chain_by zero u = omega arith
  chain_by (suc i) u =
      let a = h.next (suc i) u in
      let b = h.next i (omega arith) in
      let o = through_at s (h.at (suc (suc i))) in
      let le : i ≤ through_at s (h.at (suc i)) = chain_by i (omega arith) in
      let pos : 0 < opener_at s o = omega (arith, a.1, b.0) in
      let f : through_at s (opener_at s o) < o = w.falls o (w.cause _ (h.within (suc (suc i)) (omega arith)) a.0) pos in
      let g : through_at s (h.at (suc i)) ≡ through_at s (opener_at s o) = ap (through_at s) a.1 in
      omega arith

  -- a place that x opened the way to has room for one step more
  pub chain_fits : (y : ℕ) → y < found_count s → 0 < y → x ≡ opener_at s (through_at s y) → k ≤ through_at s y
  chain_fits y yl pos e = elim (cases_lt 0 k) [
    | inl u ↦
        let q : suc (k - 1) ≡ k = omega arith in
        let le : k - 1 ≤ through_at s x = rw (q, h.end) at (chain_by (k - 1) (omega arith)) in
        let n = h.next (k - 1) (omega arith) in
        let px : 0 < x = rw (q, h.end) at n.0 in
        let f = w.falls (through_at s y) (w.cause y yl pos) (rw (← e) px) in
        let g : through_at s x ≡ through_at s (opener_at s (through_at s y)) = ap (through_at s) e in
        omega arith
    | inr u ↦ omega arith
  ]

-- x opened the way to y, and the step is its own
module _ (s : Search) (x y : ℕ) (l : List Step) (k : ℕ) (step : Step) (yl : y < found_count s) (pos : 0 < y) (opened : x ≡ opener_at s (through_at s y)) (h : Chain s x l k) (kl : k < length l)
    (own : step.task ≡ task_at s x) (way : step.core ≡ core_at s (through_at s y)) where
  at' : ℕ → ℕ
  at' i = cond (nat_le i k) (h.at i) y

  old : (i : ℕ) → i ≤ k → at' i ≡ h.at i
  unfolding at'
  old i u = cond-true _ _ _ (le-leb i k u)

  new : (i : ℕ) → k < i → at' i ≡ y
  unfolding at'
  new i u = cond-false _ _ _ (lt-leb i k u)

  pub chain_more : Chain s y (set l k step) (k + 1)
  chain_more = record {
    at = at';
    start = old 0 (omega arith) ∙ h.start;
    end = new (k + 1) (omega arith);
    next = below_more (λ i. (0 < at' (suc i)) × (at' i ≡ opener_at s (through_at s (at' (suc i))))) k
        (λ i u. rw (old (suc i) (omega arith), old i (omega arith)) (h.next i u))
        (rw (new (suc k) (omega arith), old k (omega arith)) (pos, h.end ∙ opened));
    within = λ i u. elim (cases_lt k i) [ inl v ↦ rw (new i v) yl | inr v ↦ rw (old i v) (h.within i v) ];
    tasks = below_more (λ i. (get_or (set l k step) i no_step).task ≡ task_at s (at' i)) k
        (λ i u. ap (λ (z : Step). z.task) (get_or-set_other l k i step no_step (λ e. omega arith)) ∙ (h.tasks i u ∙ ap (task_at s) (sym (old i (omega arith)))))
        (ap (λ (z : Step). z.task) (get_or-set_same l k step no_step kl) ∙ (own ∙ ap (task_at s) (sym (old k (omega arith) ∙ h.end))));
    cores = below_more (λ i. core_on (set l k step) i ≡ core_at s (through_at s (at' (suc i)))) k
        (λ i u. ap (λ (z : Step). z.core) (get_or-set_other l k i step no_step (λ e. omega arith)) ∙ (h.cores i u ∙ ap (λ z. core_at s (through_at s z)) (sym (old (suc i) (omega arith)))))
        (ap (λ (z : Step). z.core) (get_or-set_same l k step no_step kl) ∙ (way ∙ ap (λ z. core_at s (through_at s z)) (sym (new (suc k) (omega arith)))));
  }
