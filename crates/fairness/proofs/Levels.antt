-- The definitions over shares, and the same ones on a board with caps: where each task's cap is its whole need, they agree.
use Rattle.std.proofs.Common.{ℕ}
use Rattle.fairness.specs.Plans.{Plan, total}
use Rattle.fairness.specs.Laws.{Comparison}
use Rattle.fairness.specs.Levels.{Fairer, Fairest}
use Rattle.fairness.specs.Settled.{Settled}
use Rattle.fairness.proofs.Orders as on
use Rattle.fairness.proofs.Boards.{capped-whole}

module _ (compare : Comparison) (n m : ℕ) (need : Plan) where
  -- the comparison on the board
  abbrev pub cmp : on.Compare
  cmp = on.on_board compare (total m need)

  pub fairer-on : (first second : Plan) → Fairer compare n m need first second → on.Fairer cmp n (total m first) (total m second)
  fairer-on first second f = record { who = f.task; what = f.slots; one = f.known; had = f.had; fewer = f.fewer; lower = f.lower }

  pub fairer-off : (first second : Plan) → on.Fairer cmp n (total m first) (total m second) → Fairer compare n m need first second
  fairer-off first second f = record { task = f.who; slots = f.what; known = f.one; had = f.had; fewer = f.fewer; lower = f.lower }

  module _ (capacity : ℕ → ℕ) (held : Plan) where
    pub fairest-on : Fairest compare n m need capacity held → on.Fairest cmp n m need capacity (total m need) held
    fairest-on f = record {
      feasible = f.feasible;
      capped = capped-whole n m need capacity held f.feasible;
      best = λ other feasible capped fairer. f.none_fairer other feasible (fairer-off other held fairer);
    }

    pub fairest-off : on.Fairest cmp n m need capacity (total m need) held → Fairest compare n m need capacity held
    fairest-off f = record {
      feasible = f.feasible;
      none_fairer = λ other feasible fairer. f.best other feasible (capped-whole n m need capacity other feasible) (fairer-on other held fairer);
    }

    pub settled_on : Settled compare n m need capacity held → on.Settled cmp n m need capacity (total m need) held
    settled_on settled p l low = let s = settled p l low in record { set = s.set; closed = s.closed; own = s.own; fails = s.none_gives }

    pub settled-off : on.Settled cmp n m need capacity (total m need) held → Settled compare n m need capacity held
    settled-off settled p l low = let s = settled p l low in record { set = s.set; closed = s.closed; own = s.own; none_gives = s.fails }
