-- Why each verdict holds.
use Rattle.std.proofs.Common.{◌≡◌, ℕ, true, List, length, take, sym, subst, arith}
use Rattle.fairness.specs.Plans.{Plan}
use Rattle.fairness.specs.Laws.{Comparison, Lawful}
use Rattle.fairness.specs.Routes.{FairExchange, should_gain}
use Rattle.fairness.proofs.Routes.{exchange, exchange-exchanged}
use Rattle.fairness.proofs.Theorems.{exchange-fairer, fairest-exactly}
use Rattle.board.specs.Meaning.{Meaning, Sound}
use Rattle.routes.specs.declared.Step.{Step}
use Rattle.routes.specs.Routes.{task_on, core_on}
use Rattle.routes.proofs.Along.{loser-on}
use Rattle.search.specs.declared.Found.{Found}
use Rattle.search.specs.Gains.{share_on, NoneFreeOn}
use Rattle.search.specs.Founds.{FairerRoute, FewestSteps, NothingToGain}
use Rattle.levelling.specs.declared.FreePair.{FreePair}
use Rattle.levelling.specs.Levelled.{FairestOn, LowestFree}
use Rattle.levelling.proofs.Boards.{feasible, countable}
use Rattle.levelling.proofs.Measure.{stands-fairest}
use Rattle.judge.specs.Verdicts.{PlanPassed, SlotFree, RouteShown, MakesFairer}

module _ (compare : Comparison) (lawful : Lawful compare) (m : Meaning) (so : Sound m) (before after : List Step) where
  -- nothing free and nothing to gain: every task is safe
  pub passed : NoneFreeOn m → NothingToGain compare m 0 m.tasks before after → PlanPassed compare m before after
  passed none nothing = record {
    fairest = stands-fairest compare lawful m so (λ task l _. nothing.safe none task (omega arith) l);
    untouched = nothing.untouched;
  }

  pub free : (pair : FreePair) → LowestFree m pair → after ≡ before → SlotFree compare m before after pair.core pair.task
  free pair lowest untouched = record {
    first_pair = lowest;
    not_fairest = λ fairest.
        let pays = lowest.free_pair in
        let full = ((fairest-exactly compare lawful m.tasks m.cores m.need m.capacity (countable m so) m.held (feasible m so)).0 fairest).0 pair.task pair.core pays.known_task pays.known_core pays.needed in
        omega (arith, full, pays.free);
    untouched = untouched;
  }

  module _ (found : Found) (f : FairerRoute compare m before after found) where
    abbrev route : List Step
    route = take found.steps after

    gains : should_gain compare (share_on m (task_on route found.loser 0)) (share_on m found.loser) ≡ true
    gains =
        let P : ℕ → Type 0 = λ gainer. should_gain compare (share_on m gainer) (share_on m found.loser) ≡ true in
        subst P (sym f.begins) f.gains

    fairer : MakesFairer compare m route found.loser
    fairer plan made =
        let P : ℕ → Type 0 = λ loser. should_gain compare (share_on m (task_on route found.loser 0)) (share_on m loser) ≡ true in
        let along : FairExchange compare m.tasks m.cores m.need m.held plan = record {
          steps = length route;
          at = task_on route found.loser;
          through = core_on route;
          route = f.route;
          passes = subst P (sym (loser-on route found.loser)) gains;
          exchanged = made;
        } in
        exchange-fairer compare lawful m.tasks m.cores m.need m.capacity (countable m so) m.held plan (feasible m so) along

    -- the exchange can be made, so a fairer plan is at hand
    not_fairest : FairestOn compare m → ⊥
    not_fairest fairest =
        let at : ℕ → ℕ = task_on route found.loser in
        let plan : Plan = exchange m.tasks m.cores m.need m.held (length route) at (core_on route) f.route in
        let better = fairer plan (exchange-exchanged m.tasks m.cores m.need m.held (length route) at (core_on route) f.route) in
        fairest.none_fairer plan better.0 better.1

    pub shown : NoneFreeOn m → RouteShown compare m before after found.steps found.loser
    shown none = record {
      none_free = none;
      few = f.few;
      fewest = (let P : ℕ → Type 0 = λ gainer. FewestSteps m gainer found.loser found.steps in subst P (sym f.begins) f.fewest);
      route = f.route;
      gains = gains;
      fairer = fairer;
      not_fairest = not_fairest;
      rest = f.rest;
    }
