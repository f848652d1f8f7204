-- No other route from where a search began comes sooner to a task that it has found.
use Rattle.std.proofs.Common.{◌≡◌, ℕ, zero, suc, ◌<◌, ◌≤◌, List, sym, ap, ◌∙◌, inl, inr, arith}
use Rattle.std.proofs.lemmas.Bool.{cases_lt, cases_eq}
use Rattle.fairness.specs.Routes.{Route}
use Rattle.board.specs.Meaning.{Meaning}
use Rattle.routes.specs.declared.Step.{Step}
use Rattle.search.specs.declared.Search.{Search}
use Rattle.search.specs.Trails.{found_count, open_count, task_at, through_at, opener_at, Linked}
use Rattle.search.specs.Layers.{EarlyOpen, Gathered, Layered}
use Rattle.search.specs.Chains.{Chain}
use Rattle.search.proofs.Leading.{rises}

module _ (m : Meaning) (s : Search) (x : ℕ) (l : List Step) (k : ℕ) (w : Linked s) (h : Chain s x l k) (xl : x < found_count s)
    (layered : Layered m s) (gathered : Gathered m s) (early : (y : ℕ) → y < x → EarlyOpen m s y) where
  reaches : (i : ℕ) → i ≤ k → h.at i ≤ x
  reaches i u = elim (cases_eq i k) [
    | inl e ↦ omega (arith, h.end, ap h.at e)
    | inr ne ↦ omega (arith, h.end, rises s x l k w h k (omega arith) i (omega arith))
  ]

  -- an opening by an earlier task is an earlier opening
  opens_before : (o q : ℕ) → o < open_count s → opener_at s o < opener_at s q → o < q
  opens_before o q ol less = elim (cases_lt o q) [
    | inl u ↦ u
    | inr u ↦ elim (cases_eq q o) [
      | inl e ↦ absurd (omega (arith, ap (opener_at s) e))
      | inr ne ↦ absurd (omega (arith, layered.openers_rise o ol q (omega arith)))
    ]
  ]

  -- a task found through an earlier opening stands before
  found_before : (y z : ℕ) → y < found_count s → 0 < z → (0 < y → through_at s y < through_at s z) → y < z
  found_before y z yl pos less = elim (cases_lt y z) [
    | inl u ↦ u
    | inr u ↦ elim (cases_eq z y) [
      | inl e ↦ absurd (omega (arith, less (omega arith), ap (through_at s) e))
      | inr ne ↦ absurd (omega (arith, less (omega arith), layered.openings_rise y yl z pos (omega arith)))
    ]
  ]

  module _ (others : ℕ) (at through : ℕ → ℕ) (r : Route m.tasks m.cores m.need m.held others at through) (begins : at 0 ≡ task_at s 0) (ends : at others ≡ task_at s x) where
    -- after i steps the other route is at a task that the search found before the next place of its own way
    before : (i : ℕ) → i ≤ others → i < k → (y : ℕ) × (y < h.at (suc i)) × (task_at s y ≡ at i)
    before zero il u = (0, (h.next 0 u).0, sym begins)
    before (suc i) il u =
        let was = before i (omega arith) (omega arith) in
        let next = h.next (suc i) u in
        let sooner : was.0 < x = omega (arith, was.1, reaches (suc i) (omega arith)) in
        let core = early was.0 sooner (through i) (r.cores i (omega arith)) (rw was.2 (r.needs i (omega arith))) in
        let task = gathered core.opening (at (suc i)) core.made (r.tasks (suc i) il) (rw core.core (r.holds i (omega arith))) in
        let o : ℕ = through_at s (h.at (suc (suc i))) in
        let lt : core.opening < o = opens_before core.opening o core.made (omega (arith, core.early, was.1, next.1)) in
        (task.place, found_before task.place (h.at (suc (suc i))) task.here next.0 (λ pos. omega (arith, lt, task.early pos)), task.is)

    pub fewest : k ≤ others
    fewest = elim (cases_lt others k) [
      | inl u ↦
          let was = before others (omega arith) u in
          absurd (w.apart x xl was.0 (omega (arith, was.1, reaches (suc others) (omega arith))) (was.2 ∙ ends))
      | inr u ↦ u
    ]
