-- The way back of a search that found a loser is a route that makes the plan fairer.
use Rattle.std.proofs.Common.{◌≡◌, ℕ, ◌<◌, ◌≤◌, true, ltb, List, length, sym, ap, ◌∙◌, subst, inl, inr, arith}
use Rattle.std.proofs.lemmas.Bool.{cases_lt, and_parts}
use Rattle.fairness.specs.Laws.{Comparison, Lawful}
use Rattle.board.specs.Meaning.{Meaning, Sound, total_of}
use Rattle.routes.specs.declared.Step.{Step}
use Rattle.search.specs.Gains.{share_on, gains_from}
use Rattle.fairness.specs.Routes.{should_gain}
use Rattle.search.specs.declared.Search.{Search}
use Rattle.search.specs.Trails.{task_at}
use Rattle.search.specs.Searches.{Gain}
use Rattle.search.specs.Chains.{Chain, RestSame}
use Rattle.search.proofs.Leading.{chain-leads}
use Rattle.search.proofs.Shares.{not_own}
use Rattle.search.proofs.Fewest.{fewest}
use Rattle.search.specs.Founds.{FairerRoute}

-- the route to the task that a search came to
pub shown-route : (compare : Comparison) → Lawful compare → (m : Meaning) → Sound m → (p : ℕ) (s : Search) (x : ℕ) (a b : List Step) (k : ℕ) → Gain compare m p s x → Chain s x b k → k ≤ length b → k ≤ 16 → RestSame a b k
    → FairerRoute compare m a b (record { gainer = p; loser = task_at s x; steps = k })
shown-route compare lawful m so p s x a b k h chain fits few rest =
    let Q : ℕ → Type 0 = λ z. gains_from compare (share_on m p) (share_on m z) ≡ true in
    let other : 0 < x = elim (cases_lt 0 x) [
      | inl u ↦ u
      | inr u ↦ let e : x ≡ 0 = omega arith in absurd (not_own compare lawful m so p (subst Q (ap (task_at s) e ∙ h.first) h.gains))
    ] in
    let r = chain-leads s x b k chain fits m h.trail other in
    record {
      route = r.route;
      begins = r.first ∙ h.first;
      gains = (and_parts (ltb 0 (total_of m (task_at s x))) (should_gain compare (share_on m p) (share_on m (task_at s x))) h.gains).1;
      few = few;
      fewest = λ others at through route begins ends.
          fewest m s x b k h.trail.linked chain h.here h.layered h.gathered h.early others at through route (begins ∙ sym h.first) ends;
      rest = rest;
    }
