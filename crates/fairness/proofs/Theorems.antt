-- The statements on fairest plans, from the theory on boards with caps.
use Rattle.std.proofs.Common.{◌≡◌, ℕ, ◌-◌, ◌<◌, true, sym, refl, ap, ◌∙◌, inl, inr, arith}
use Rattle.std.proofs.lemmas.Bool.{cases_Bool, cases_eq, cases_lt}
use Rattle.fairness.specs.Plans.{Plan, given, total, Feasible}
use Rattle.fairness.specs.Laws.{Comparison, Lawful}
use Rattle.fairness.specs.Levels.{Fairer, Countable, share_of}
use Rattle.fairness.specs.Routes.{should_gain}
use Rattle.fairness.specs.Settled.{Settled, NoneFree, NoFairerRoute}
use Rattle.fairness.specs.Theorems.{SettledFairest, FairestSettled, FreeSlotFairer, ExchangeFairer, FairestExactly, FairestSameLevels, FairestWithinOne, LevellingEnds}
use Rattle.fairness.proofs.Sums.{sum_lt, sum-at}
use Rattle.fairness.proofs.Rules.{on-board-laws, on-board-rising}
use Rattle.fairness.proofs.Boards.{capped-whole}
use Rattle.fairness.proofs.Moves.{take, taken-total, taken-feasible, same_self, same-other}
use Rattle.fairness.proofs.Levels.{cmp, fairer-on, fairer-off, fairest-on, fairest-off, settled_on, settled-off}
use Rattle.fairness.proofs.Settled.{settled-fairest, same-levels, height}
use Rattle.fairness.proofs.Fairest.{fairest-settled, fairest-within-one, no_self}
use Rattle.fairness.proofs.Gains.{gain-fairer, free-fairer}
use Rattle.fairness.proofs.Pot.{pot, pot-falls}
use Rattle.fairness.specs.Decision.{layer}
use Rattle.fairness.proofs.Reach.{layer-own, layer-next, stable, first, Fresh}
use Rattle.fairness.proofs.Routes.{exchange, exchange-exchanged, exchange-total, exchange-feasible}
use Rattle.fairness.proofs.Ways.{way, way-route}

pub settled-is-fairest : SettledFairest
settled-is-fairest compare lawful n m need capacity few held feasible settled =
    fairest-off compare n m need capacity held
    (settled-fairest (cmp compare n m need) (on-board-laws compare (total m need) lawful) n m need capacity (total m need) (on-board-rising compare (total m need) lawful n (total m need) few) held
    feasible (capped-whole n m need capacity held feasible) (settled_on compare n m need capacity held settled))

pub fairest-is-settled : FairestSettled
fairest-is-settled compare lawful n m need capacity few held fairest =
    settled-off compare n m need capacity held
    (fairest-settled (cmp compare n m need) (on-board-laws compare (total m need) lawful) n m need capacity (total m need) (on-board-rising compare (total m need) lawful n (total m need) few) held
    (fairest-on compare n m need capacity held fairest))

-- a task that needs more of a core has less than its whole need
short : (n m : ℕ) (need : Plan) (capacity : ℕ → ℕ) (held : Plan) → Feasible n m need capacity held
    → (task core : ℕ) → task < n → core < m → held task core < need task core → total m held task < total m need task
short n m need capacity held feasible task core l u less = sum_lt m core (held task) (need task) u less (λ c v. feasible.within task c l v)

pub free-slot-fairer : FreeSlotFairer
free-slot-fairer compare lawful n m need capacity few before after feasible f =
    let task = f.task in
    let totals = taken-total n m need capacity before after task f.core f.known_task f.known_core f.taken in (
      taken-feasible n m need capacity before after task f.core f.known_task f.known_core f.taken feasible f.needed f.free,
      fairer-off compare n m need after before
          (free-fairer (cmp compare n m need) (on-board-laws compare (total m need) lawful) n (total m need) (on-board-rising compare (total m need) lawful n (total m need) few)
          (total m before) (total m after) task f.known_task
          (short n m need capacity before feasible task f.core f.known_task f.known_core f.needed)
          (omega (arith, totals task f.known_task, same_self task))
          (λ t l ne. omega (arith, totals t l, same-other t task ne))),
    )

pub exchange-fairer : ExchangeFairer
exchange-fairer compare lawful n m need capacity few before after feasible f =
    let route = f.route in
    let p : ℕ = f.at 0 in
    let q : ℕ = f.at f.steps in
    let pl : p < n = route.tasks 0 (omega arith) in
    let ql : q < n = route.tasks f.steps (omega arith) in
    let ne : p ≡ q → ⊥ = route.no_task_twice 0 f.steps route.some (omega arith) in
    let totals = exchange-total n m need before f.steps f.at f.through route after f.exchanged in (
      exchange-feasible n m need before f.steps f.at f.through route after f.exchanged capacity feasible,
      fairer-off compare n m need after before
          (gain-fairer (cmp compare n m need) (on-board-laws compare (total m need) lawful) n (total m need) (on-board-rising compare (total m need) lawful n (total m need) few)
          (total m before) (total m after) p q pl ql ne
          (short n m need capacity before feasible p (f.through 0) pl (route.cores 0 route.some) (route.needs 0 route.some))
          (capped-whole n m need capacity before feasible q ql)
          (omega (arith, totals p pl, same_self p, same-other p q ne))
          (omega (arith, totals q ql, same_self q, same-other q p (λ e. ne (sym e))))
          (λ t l x y. omega (arith, totals t l, same-other t p x, same-other t q y))
          f.passes),
    )

-- no free slot and no fairer route: each task's reach is a closed set in which it gains nothing
settled-from-routes : (compare : Comparison) → Lawful compare → (n m : ℕ) (need : Plan) (capacity : ℕ → ℕ) → Countable n m need
    → (held : Plan) → Feasible n m need capacity held → NoneFree n m need capacity held → NoFairerRoute compare n m need held
    → Settled compare n m need capacity held
settled-from-routes compare lawful n m need capacity few held feasible none_free no-route p l low =
    record {
      set = layer n m need held p n;
      closed = record {
        full = λ task core u v x less. none_free task core u v less;
        inside = λ task core holder u v w x less pos. stable n m need held p holder w (layer-next n m need held p n task core holder u v x less pos);
      };
      own = layer-own n m need held p n;
      none_gives = λ q u x pos. elim (cases_Bool (should_gain compare (share_of m need held p) (share_of m need held q))) [
        | inl gain ↦ let f = first n m need held p n q x in absurd (gains-nothing f.0 q u f.1 pos gain)
        | inr none ↦ none
      ];
    }
  where
    gains-nothing : (steps q : ℕ) → q < n → Fresh n m need held p steps q → 0 < total m held q
        → should_gain compare (share_of m need held p) (share_of m need held q) ≡ true → ⊥
    gains-nothing steps q u f pos gain =
        let w = way n m need held p steps q u f in
        elim (cases_eq steps 0) [
          | inl none ↦
              let e : p ≡ q = sym w.begins ∙ ap w.at (sym none) ∙ w.ends in
              no_self (cmp compare n m need) (on-board-laws compare (total m need) lawful) p (total m held p) (rw e pos)
              (on-board-rising compare (total m need) lawful n (total m need) few p (total m held p - 1) l (omega arith)) (rw (← e) at gain)
          | inr ne ↦
              let route = way-route n m need held p steps q w (omega arith) in
              let after = exchange n m need held steps w.at w.through route in
              let made = exchange-exchanged n m need held steps w.at w.through route in
              no-route steps w.at w.through route after made
              (exchange-fairer compare lawful n m need capacity few held after feasible
              (record { steps = steps; at = w.at; through = w.through; route = route; passes = rw (w.begins, w.ends) gain; exchanged = made })).1
        ]

pub fairest-exactly : FairestExactly
fairest-exactly compare lawful n m need capacity few held feasible = (
  λ fairest. (
    λ task core l u less. elim (cases_lt (given n held core) (capacity core)) [
      | inl free ↦
          let better = free-slot-fairer compare lawful n m need capacity few held (take held task core) feasible
          (record { task = task; core = core; known_task = l; known_core = u; needed = less; free = free; taken = λ t c v w. refl }) in
          absurd (fairest.none_fairer (take held task core) better.0 better.1)
      | inr full ↦ full
    ],
    λ steps at through route after made fairer.
        fairest.none_fairer after (exchange-feasible n m need held steps at through route after made capacity feasible) fairer,
  ),
  λ none_free no-route.
      settled-is-fairest compare lawful n m need capacity few held feasible
      (settled-from-routes compare lawful n m need capacity few held feasible none_free no-route),
)

pub fairest-same-levels : FairestSameLevels
fairest-same-levels compare lawful n m need capacity one other fairest also =
    same-levels (cmp compare n m need) (on-board-laws compare (total m need) lawful) n m need capacity (total m need) one other
    (fairest-on compare n m need capacity one fairest) (fairest-on compare n m need capacity other also)

pub totals-within-one : FairestWithinOne
totals-within-one compare lawful n m need capacity greater few more one other fairest also =
    fairest-within-one (cmp compare n m need) (on-board-laws compare (total m need) lawful) n m need capacity greater (total m need) (on-board-rising compare (total m need) lawful n (total m need) few)
    one other more (fairest-on compare n m need capacity one fairest) (fairest-on compare n m need greater other also)

-- the measure falls where a feasible plan gets fairer
measure-falls : (compare : Comparison) → Lawful compare → (n m : ℕ) (need : Plan) (capacity : ℕ → ℕ) (before after : Plan)
    → Feasible n m need capacity before → Feasible n m need capacity after × Fairer compare n m need after before
    → pot (cmp compare n m need) n (height n (total m need)) (total m after) < pot (cmp compare n m need) n (height n (total m need)) (total m before)
measure-falls compare lawful n m need capacity before after feasible better =
    pot-falls (cmp compare n m need) (on-board-laws compare (total m need) lawful) n (height n (total m need)) (total m after) (total m before)
    (low after better.0) (low before feasible) (fairer-on compare n m need after before better.1)
  where
    low : (held : Plan) → Feasible n m need capacity held → (i : ℕ) → i < n → total m held i < height n (total m need)
    low held f i l = omega (arith, capped-whole n m need capacity held f i l, sum-at n i (total m need) l)

pub levelling-ends : LevellingEnds
levelling-ends compare lawful n m need capacity few = (
  λ held. pot (cmp compare n m need) n (height n (total m need)) (total m held),
  λ before after feasible step. elim step [
    | inl free ↦ measure-falls compare lawful n m need capacity before after feasible (free-slot-fairer compare lawful n m need capacity few before after feasible free)
    | inr exchange ↦ measure-falls compare lawful n m need capacity before after feasible (exchange-fairer compare lawful n m need capacity few before after feasible exchange)
  ],
)
