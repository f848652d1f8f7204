-- A slot passed along a fairer route, and a free slot taken, give a fairer plan.
use Rattle.std.proofs.Common.{◌≡◌, ℕ, ◌+◌, true, List, length, take, sym, refl, ap, ◌∙◌, subst, arith}
use Rattle.std.proofs.lemmas.Bool.Decides.{nat_tests}
use Rattle.fairness.specs.Laws.{Comparison, Lawful}
use Rattle.fairness.specs.Plans.{Plan}
use Rattle.fairness.specs.Moves.{Taken}
use Rattle.fairness.specs.Routes.{should_gain, FreeSlotTaken, FairExchange}
use Rattle.fairness.proofs.Theorems.{free-slot-fairer, exchange-fairer}
use Rattle.board.specs.Meaning.{Meaning, Sound, put, with_held}
use Rattle.board.specs.Outcomes.{set_held, done, after}
use Rattle.board.proofs.Changes.{done_held}
use Rattle.routes.specs.declared.Step.{Step}
use Rattle.routes.specs.Routes.{task_on, core_on, PassedAlong}
use Rattle.routes.proofs.Along.{loser-on}
use Rattle.search.specs.declared.Found.{Found}
use Rattle.search.specs.Gains.{share_on}
use Rattle.search.specs.Founds.{FairerRoute}
use Rattle.levelling.specs.Levelled.{FreeFor, Better}
use Rattle.levelling.proofs.Boards.{feasible, countable}

module _ (compare : Comparison) (lawful : Lawful compare) (m : Meaning) (so : Sound m) where
  pub route-better : (n : Meaning) (before steps : List Step) (found : Found) → FairerRoute compare m before steps found → PassedAlong m n (take found.steps steps) found.loser → Better compare m n
  route-better n before steps found f p =
      let route : List Step = take found.steps steps in
      let P : ℕ → Type 0 = λ gainer. should_gain compare (share_on m gainer) (share_on m (task_on route found.loser (length route))) ≡ true in
      let Q : ℕ → Type 0 = λ loser. should_gain compare (share_on m found.gainer) (share_on m loser) ≡ true in
      let made : FairExchange compare m.tasks m.cores m.need m.held n.held = record {
        steps = length route;
        at = task_on route found.loser;
        through = core_on route;
        route = f.route;
        passes = subst P (sym f.begins) (subst Q (sym (loser-on route found.loser)) f.gains);
        exchanged = p.exchanged;
      } in
      record {
        same_order = p.same_order;
        fairer = (exchange-fairer compare lawful m.tasks m.cores m.need m.capacity (countable m so) m.held n.held (feasible m so) made).1;
      }

  pub free-better : (task core : ℕ) → FreeFor m task core → Better compare m (with_held m task core (m.held task core + 1))
  free-better task core f =
      let after : Plan = put m.held task core (m.held task core + 1) in
      let taken : Taken m.tasks m.cores m.held after task core = λ t c _ _. grind (arith, nat_tests) in
      let made : FreeSlotTaken m.tasks m.cores m.need m.capacity m.held after = record {
        task = task;
        core = core;
        known_task = f.known_task;
        known_core = f.known_core;
        needed = f.needed;
        free = f.free;
        taken = taken;
      } in
      record {
        same_order = refl;
        fairer = (free-slot-fairer compare lawful m.tasks m.cores m.need m.capacity (countable m so) m.held after (feasible m so) made).1;
      }

  -- the same, by what the board answered
  pub taken-better : (n : Meaning) (task core held : ℕ) → FreeFor m task core → held ≡ m.held task core → n ≡ after m (set_held m task core (held + 1)) → Better compare m n
  taken-better n task core held f e h =
      let P : Meaning → Type 0 = Better compare m in
      let fits : set_held m task core (m.held task core + 1) ≡ done (with_held m task core (m.held task core + 1)) =
      done_held m task core (m.held task core + 1) f.known_task f.known_core (omega (arith, f.needed)) (omega (arith, f.free)) in
      subst P (sym (h ∙ (ap (λ x. after m (set_held m task core (x + 1))) e ∙ ap (after m) fits))) (free-better task core f)
