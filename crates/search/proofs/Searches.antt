-- A search begins, goes on, and ends with nothing found.
use Rattle.std.proofs.Common.{◌≡◌, ℕ, zero, suc, ◌+◌, ◌<◌, ◌≤◌, Bool, true, false, cond, get_or, replicate, sym, refl, ap, ◌∙◌, subst, inl, inr, arith, length-set, below_more}
use lib.ListN.{length-replicate}
use Rattle.std.proofs.lemmas.Bool.Decides.{nat_tests}
use Rattle.std.proofs.lemmas.List.{get_or-set_same, get_or-set_other}
use Rattle.std.proofs.lemmas.Bool.{cases_eq, both_ways, false_from_ne_true}
use Rattle.fairness.specs.Sums.{sum_to}
use Rattle.fairness.specs.Laws.{Comparison, Lawful}
use Rattle.fairness.specs.Routes.{should_gain}
use Rattle.fairness.proofs.Sums.{sum-eq, sum-zero}
use Rattle.board.specs.Meaning.{Meaning, Sound}
use Rattle.search.specs.declared.Search.{Search}
use Rattle.search.specs.Trails.{found_count, task_at, is_found, reached, empty, Trail}
use Rattle.search.specs.Layers.{EarlyOpen, Layered}
use Rattle.search.specs.Searches.{SweptTo, Spread, Trying, InVain}
use Rattle.search.specs.Gains.{share_on, gains_from, as_urgent, NoneFreeOn, SafeOn}
use Rattle.search.proofs.Trails.{flag-more}
use Rattle.search.proofs.Urgency.{gains-follow, urgent-self}
use Rattle.search.proofs.Spreads.{swept-on}
use Rattle.search.proofs.Layers.{early-on, early-now}

-- nothing is set in a list of false
pub none-set : (n k : ℕ) → get_or (replicate n false) k false ≡ false
none-set zero k = refl
none-set (suc n) zero = refl
none-set (suc n) (suc k) = none-set n k

none-count : (n c : ℕ) → sum_to n (λ k. cond (get_or (replicate c false) k false) 1 0) ≡ 0
none-count n c = sum-eq n (λ k. cond (get_or (replicate c false) k false) 1 0) (λ k. 0) (λ k l. ap (λ (b : Bool). cond b 1 0) (none-set c k)) ∙ sum-zero n

module _ (compare : Comparison) (m : Meaning) (p : ℕ) (so : Sound m) (pn : p < m.tasks) where
  start-trail : Trail m (reached empty p 0)
  start-trail = record {
    linked = record {
      sized = record { found = simp length-set refl; opened = refl };
      some = omega arith;
      room = omega arith;
      limit = omega arith;
      apart = λ y l x u. absurd (omega arith);
      cause = λ y l h. absurd (omega arith);
      earlier = λ y l h. absurd (omega arith);
      placing = λ o l. absurd (omega arith);
      falls = λ o l. absurd (omega arith);
      once = λ o l. absurd (omega arith);
    };
    number = omega (arith, flag-more m.tasks p (replicate 64 false) pn (omega (arith, so.few_tasks, length-replicate 64 false)) (none-set 64 p), none-count m.tasks 64);
    inside = λ x l. let e : x ≡ 0 = omega arith in rw e pn;
    known = λ x l. let e : x ≡ 0 = omega arith in rw e (get_or-set_same (replicate 64 false) p true false (omega (arith, so.few_tasks, length-replicate 64 false)));
    placed = λ k l h. elim (cases_eq k p) [ inl e ↦ (0, omega arith, sym e) | inr ne ↦ absurd (both_ways _ (get_or-set_other (replicate 64 false) p k true false ne ∙ none-set 64 k) h) ];
    holds = λ y l h. absurd (omega arith);
    few = sym (none-count m.cores 16);
    real = λ o l. absurd (omega arith);
    shown = λ o l. absurd (omega arith);
    wants = λ o l. absurd (omega arith);
  }

  start-layered : Layered m (reached empty p 0)
  start-layered = record {
    openers_rise = λ q l. absurd (omega arith);
    openings_rise = λ y l x pos u. absurd (omega arith);
    opening = λ j l on. absurd (both_ways _ (none-set 16 j) on);
  }

  pub trying_start : Trying compare m p (reached empty p 0) 0
  trying_start = record {
    complete = record { trail = start-trail; covered = λ j i jl il on has. absurd (both_ways _ (none-set 16 j) on); layered = start-layered; gathered = λ q i ql. absurd (omega arith) };
    first = refl;
    swept = λ x l. absurd (omega arith);
    early = λ x l. absurd (omega arith);
    latest = λ o l. absurd (omega arith);
    fails = λ x l. absurd (omega arith);
  }

  pub trying-more : (s t : Search) (h : ℕ) → Trying compare m p s h → h < found_count s → gains_from compare (share_on m p) (share_on m (task_at s h)) ≡ false → Spread m s t h m.cores → Trying compare m p t (h + 1)
  trying-more s t h y l fail sp = record {
    complete = sp.complete;
    first = sp.grown.same 0 (omega arith) ∙ y.first;
    swept = below_more (λ x. SweptTo m t x m.cores) h (λ x u. swept-on m s t x m.cores (omega arith) sp.grown (y.swept x u)) sp.swept;
    early = below_more (λ x. EarlyOpen m t x) h (λ x u. early-on m s t x (omega arith) sp.grown (y.early x u)) (early-now m t h sp.complete.layered sp.latest sp.swept);
    latest = λ o u. omega (arith, sp.latest o u);
    fails = below_more (λ x. gains_from compare (share_on m p) (share_on m (task_at t x)) ≡ false) h (λ x u. rw (sp.grown.same x (omega arith)) (y.fails x u)) (rw (sp.grown.same h l) fail);
  }

  -- of the tasks found, none that is no more urgent than p should gain from another
  found-safe : Lawful compare → (s : Search) (h : ℕ) → Trying compare m p s h → found_count s ≤ h → NoneFreeOn m → (task : ℕ) → is_found s task ≡ true → as_urgent compare (share_on m p) (share_on m task) ≡ true → SafeOn compare m task
  found-safe lawful s h y all none task found urgent =
      let t = y.complete.trail in
      let at : (i : ℕ) → i < m.tasks → is_found s i ≡ true → (x : ℕ) × (x < h) × (task_at s x ≡ i) = λ i l f. let w = t.placed i l f in (w.0, omega (arith, w.1), w.2) in
      record {
        set = is_found s;
        closed = record {
          full = λ i j il jl f less. none i j il jl less;
          inside = λ i j k il jl kl f less some.
              let w = at i il f in
              y.complete.covered j k jl kl (y.swept w.0 w.1 j jl (rw w.2 less)) some;
        };
        own = found;
        none_gives = λ q ql f some.
            let w = at q ql f in
            let fails : gains_from compare (share_on m p) (share_on m q) ≡ false = rw w.2 at (y.fails w.0 w.1) in
            let never : should_gain compare (share_on m p) (share_on m q) ≡ false = grind (arith, nat_tests) in
            false_from_ne_true _ (λ gains. both_ways _ never (gains-follow compare lawful (share_on m p) (share_on m task) (share_on m q) urgent gains));
      }

  pub trying-all : Lawful compare → (s : Search) (h : ℕ) → Trying compare m p s h → found_count s ≤ h → NoneFreeOn m → InVain compare m p s
  trying-all lawful s h y all none =
      let t = y.complete.trail in
      record {
        own = (let P : ℕ → Type 0 = λ i. is_found s i ≡ true in found-safe lawful s h y all none p (subst P y.first (t.known 0 t.linked.some)) (urgent-self compare lawful (share_on m p)));
        others = λ task _ found urgent. found-safe lawful s h y all none task found urgent;
      }
