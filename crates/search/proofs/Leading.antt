-- The way back of a search is a route.
use Rattle.std.proofs.Common.{◌≡◌, ℕ, zero, suc, ◌<◌, ◌≤◌, List, length, get_or, take, sym, ap, ◌∙◌, subst, inl, inr, arith}
use Rattle.std.proofs.lemmas.List.{get_or-take, length-take-le}
use Rattle.std.proofs.lemmas.Bool.{cases_lt, cases_eq}
use Rattle.board.specs.Meaning.{Meaning}
use Rattle.search.specs.declared.Search.{Search}
use Rattle.search.specs.Trails.{open_count, task_at, through_at, core_at, opener_at, Linked, Trail}
use Rattle.routes.specs.declared.Step.{Step}
use Rattle.fairness.specs.Routes.{Route}
use Rattle.routes.specs.Routes.{no_step, task_on, core_on, RouteTo}
use Rattle.routes.proofs.Along.{task-on, loser-on}
use Rattle.search.specs.Chains.{Chain}

module _ (s : Search) (x : ℕ) (l : List Step) (k : ℕ) (w : Linked s) (h : Chain s x l k) where
  up : (i : ℕ) → i < k → h.at i < h.at (suc i)
  up i u = let n = h.next i u in omega (arith, n.1, w.earlier (h.at (suc i)) (h.within (suc i) (omega arith)) n.0)

  pub rises : (j : ℕ) → j ≤ k → (i : ℕ) → i < j → h.at i < h.at j
  rises zero u i v = absurd (omega arith)
  rises (suc j) u i v =
      let a = up j (omega arith) in
      elim (cases_eq i j) [
        | inl f ↦ rw f (omega (arith, a))
        | inr ne ↦ omega (arith, a, rises j (omega arith) i (omega arith))
      ]

  cause : (i : ℕ) → i < k → through_at s (h.at (suc i)) < open_count s
  cause i u = w.cause (h.at (suc i)) (h.within (suc i) (omega arith)) (h.next i u).0

  by-up : (i : ℕ) → suc i < k → through_at s (h.at (suc i)) < through_at s (h.at (suc (suc i)))
  by-up i u =
      let n = h.next (suc i) u in
      let g : through_at s (h.at (suc i)) ≡ through_at s (opener_at s (through_at s (h.at (suc (suc i))))) = ap (through_at s) n.1 in
      omega (arith, g, w.falls (through_at s (h.at (suc (suc i)))) (cause (suc i) u) (omega (arith, n.1, (h.next i (omega arith)).0)))

  by-rises : (j : ℕ) → j < k → (i : ℕ) → i < j → through_at s (h.at (suc i)) < through_at s (h.at (suc j))
  by-rises zero u i v = absurd (omega arith)
  by-rises (suc j) u i v =
      let a = by-up j (omega arith) in
      elim (cases_eq i j) [
        | inl f ↦ rw f (omega (arith, a))
        | inr ne ↦ omega (arith, a, by-rises j (omega arith) i (omega arith))
      ]

  -- a chain to another place than the first has a step
  some : 0 < x → 0 < k
  some pos = elim (cases_lt 0 k) [
    | inl u ↦ u
    | inr u ↦ let e : k ≡ 0 = omega arith in absurd (omega (arith, h.start, h.end, ap h.at e))
  ]

  -- the chain read by a list's own terms
  route : (m : Meaning) → Trail m s → 0 < x → (at through : ℕ → ℕ) → ((i : ℕ) → i ≤ k → at i ≡ task_at s (h.at i)) → ((i : ℕ) → i < k → through i ≡ core_at s (through_at s (h.at (suc i))))
      → Route m.tasks m.cores m.need m.held k at through
  route m t pos at through e f = record {
    some = some pos;
    tasks = λ i u. rw (e i u) (t.inside (h.at i) (h.within i u));
    cores = λ i u. rw (f i u) (t.real (through_at s (h.at (suc i))) (cause i u));
    needs = λ i u. rw (e i (omega arith), f i u, (h.next i u).1) (t.wants (through_at s (h.at (suc i))) (cause i u));
    holds = λ i u. rw (e (suc i) (omega arith), f i u) (t.holds (h.at (suc i)) (h.within (suc i) (omega arith)) (h.next i u).0);
    no_task_twice = λ i j v u. rw (e i (omega arith), e j u) (w.apart (h.at j) (h.within j u) (h.at i) (rises j u i v));
    no_core_twice = λ i j v u. rw (f i (omega arith), f j u) (w.once (through_at s (h.at (suc j))) (cause j u) (through_at s (h.at (suc i))) (by-rises j u i v));
  }

-- the first k entries of l are a route from p to q
pub record Routed (m : Meaning) (l : List Step) (k p q : ℕ) : Type 0 where
  pub route : RouteTo m (take k l) q
  pub first : task_on (take k l) q 0 ≡ p

-- so it is on whatever board the search was made
abbrev pub Leads : Search → ℕ → List Step → ℕ → Type 0
Leads s x l k = (m : Meaning) → Trail m s → 0 < x → Routed m l k (task_at s 0) (task_at s x)

pub chain-leads : (s : Search) (x : ℕ) (l : List Step) (k : ℕ) → Chain s x l k → k ≤ length l → Leads s x l k
chain-leads s x l k h kl m t pos =
    let w = t.linked in
    let len : length (take k l) ≡ k = length-take-le k l kl in
    let at : (i : ℕ) → i < k → get_or (take k l) i no_step ≡ get_or l i no_step = λ i u. get_or-take k l i no_step u in
    let tasks : (i : ℕ) → i ≤ k → task_on (take k l) (task_at s x) i ≡ task_at s (h.at i) = λ i u. elim (cases_lt i k) [
      | inl v ↦ task-on (take k l) (task_at s x) i (omega (arith, len)) ∙ (ap (λ (z : Step). z.task) (at i v) ∙ h.tasks i v)
      | inr v ↦
          let e : i ≡ length (take k l) = omega (arith, len) in
          let f : i ≡ k = omega arith in
          ap (task_on (take k l) (task_at s x)) e ∙ (loser-on (take k l) (task_at s x) ∙ ap (task_at s) (sym (ap h.at f ∙ h.end)))
    ] in
    let cores : (i : ℕ) → i < k → core_on (take k l) i ≡ core_at s (through_at s (h.at (suc i))) = λ i u. ap (λ (z : Step). z.core) (at i u) ∙ h.cores i u in
    let P : ℕ → Type 0 = λ z. Route m.tasks m.cores m.need m.held z (task_on (take k l) (task_at s x)) (core_on (take k l)) in
    record {
      route = subst P (sym len) (route s x l k w h m t pos (task_on (take k l) (task_at s x)) (core_on (take k l)) tasks cores);
      first = tasks 0 (omega arith) ∙ ap (task_at s) h.start;
    }
