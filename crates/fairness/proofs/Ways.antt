-- From a task that is reached to a route that leads there.
use Rattle.std.proofs.Common.{◌≡◌, ℕ, zero, suc, ◌<◌, ◌≤◌, cond, ltb, leb, refl, ◌∙◌, inl, inr, arith}
use Rattle.std.proofs.lemmas.Bool.{cases_lt, eqb-true, both_ways, cond-true, cond-false, le-leb, lt-leb, lt-ltb, le-ltb}
use Rattle.fairness.specs.Plans.{Plan}
use Rattle.fairness.specs.Routes.{Route}
use Rattle.fairness.specs.Decision.{layer}
use Rattle.fairness.proofs.Reach.{Fresh, parent, apart, layer-next}

-- a way from p to q that goes up one layer with each step
pub record Way (n m : ℕ) (need held : Plan) (p steps q : ℕ) : Type 0 where
  pub at : ℕ → ℕ
  pub through : ℕ → ℕ
  pub begins : at 0 ≡ p
  pub ends : at steps ≡ q
  pub fresh : (s : ℕ) → s ≤ steps → Fresh n m need held p s (at s)
  pub tasks : (s : ℕ) → s ≤ steps → at s < n
  pub cores : (s : ℕ) → s < steps → through s < m
  pub needs : (s : ℕ) → s < steps → held (at s) (through s) < need (at s) (through s)
  pub holds : (s : ℕ) → s < steps → 0 < held (at (suc s)) (through s)

module _ (n m : ℕ) (need held : Plan) (p : ℕ) where
  pub way : (steps q : ℕ) → q < n → Fresh n m need held p steps q → Way n m need held p steps q
  unfolding layer
  way zero q l f = record {
    at = λ s. q;
    through = λ s. 0;
    begins = eqb-true q p f.now;
    ends = refl;
    fresh = λ s u. let e : s ≡ 0 = omega arith in rw e f;
    tasks = λ s u. l;
    cores = λ s u. absurd (omega arith);
    needs = λ s u. absurd (omega arith);
    holds = λ s u. absurd (omega arith);
  }
  way (suc steps) q l f =
      let o = parent n m need held p steps q f in
      let w = way steps o.0 o.2 o.4 in
      let at : ℕ → ℕ = λ s. cond (leb s steps) (w.at s) q in
      let through : ℕ → ℕ = λ s. cond (ltb s steps) (w.through s) o.1 in
      let old : (s : ℕ) → s ≤ steps → at s ≡ w.at s = λ s u. cond-true {A = ℕ} (leb s steps) (w.at s) q (le-leb s steps u) in
      let new : (s : ℕ) → steps < s → at s ≡ q = λ s u. cond-false {A = ℕ} (leb s steps) (w.at s) q (lt-leb s steps u) in
      let oldc : (s : ℕ) → s < steps → through s ≡ w.through s = λ s u. cond-true {A = ℕ} (ltb s steps) (w.through s) o.1 (lt-ltb s steps u) in
      let newc : (s : ℕ) → steps ≤ s → through s ≡ o.1 = λ s u. cond-false {A = ℕ} (ltb s steps) (w.through s) o.1 (le-ltb s steps u) in
      record {
        at = at;
        through = through;
        begins = old 0 (omega arith) ∙ w.begins;
        ends = new (suc steps) (omega arith);
        fresh = λ s u. elim (cases_lt steps s) [
          | inl v ↦ let e : s ≡ suc steps = omega arith in rw (new s v, e) f
          | inr v ↦ rw (old s v) (w.fresh s v)
        ];
        tasks = λ s u. elim (cases_lt steps s) [ inl v ↦ rw (new s v) l | inr v ↦ rw (old s v) (w.tasks s v) ];
        cores = λ s u. elim (cases_lt s steps) [ inl v ↦ rw (oldc s v) (w.cores s v) | inr v ↦ rw (newc s v) o.3 ];
        needs = λ s u. elim (cases_lt s steps) [
          | inl v ↦ rw (old s (omega arith), oldc s v) (w.needs s v)
          | inr v ↦ let e : s ≡ steps = omega arith in rw (old s (omega arith), newc s v, e, w.ends) o.5
        ];
        holds = λ s u. elim (cases_lt s steps) [
          | inl v ↦ rw (old (suc s) v, oldc s v) (w.holds s v)
          | inr v ↦ rw (new (suc s) (omega arith), newc s v) o.6
        ];
      }

  -- it is a route: a task or a core that came twice would have been a shorter way
  pub way-route : (steps q : ℕ) (w : Way n m need held p steps q) → 0 < steps → Route n m need held steps w.at w.through
  way-route steps q w some = record {
    some = some;
    tasks = w.tasks;
    cores = w.cores;
    needs = w.needs;
    holds = w.holds;
    no_task_twice = λ r s l u e. apart n m need held p r s (w.at r) (w.at s) l (w.fresh r (omega arith)) (w.fresh s u) e;
    no_core_twice = λ r s l u e.
        both_ways _ ((w.fresh (suc s) u).before (suc r) (omega arith))
        (layer-next n m need held p r (w.at r) (w.through r) (w.at (suc s)) (w.tasks r (omega arith)) (w.cores r (omega arith))
        (w.fresh r (omega arith)).now (w.needs r (omega arith)) (rw e (w.holds s u)));
  }
