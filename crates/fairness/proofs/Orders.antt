-- Levels on one board, with a cap on each task's total: a level is a task and a total, and `cmp i x k y` says where (i, x) stands, seen from (k, y).
use Rattle.std.proofs.Common.{◌≡◌, ℕ, suc, ◌-◌, ◌<◌, Bool, true, false, cond, ◌⊎◌}
use Rattle.std.specs.declared.cmp.Ordering.{Ordering}
use Rattle.std.specs.declared.cmp.Ordering.TheVariants.{Less}
use Rattle.std.specs.Ordering.{is_le, ordering_reverse}
use Rattle.fairness.specs.Sums.{sum_to}
use Rattle.fairness.specs.Plans.{total, Feasible}
use Rattle.fairness.specs.Levels.{share_with}
use Rattle.fairness.specs.Laws.{Comparison}
use Rattle.fairness.specs.Routes.{worthwhile}
use Rattle.fairness.specs.Settled.{Closed}
use Rattle.fairness.proofs.Steps.{Capped}

abbrev pub Compare : Type 0
Compare = ℕ → ℕ → ℕ → ℕ → Ordering

-- a rule's comparison on a board whose tasks have the whole needs given
abbrev pub on_board : Comparison → (ℕ → ℕ) → Compare
on_board compare whole i x k y = compare (share_with whole i x) (share_with whole k y)

pub record Laws (cmp : Compare) : Type 0 where
  pub mirrored : (i x k y : ℕ) → cmp k y i x ≡ ordering_reverse (cmp i x k y)
  pub transitive : (i x k y l z : ℕ) → is_le (cmp i x k y) ≡ true → is_le (cmp k y l z) ≡ true → is_le (cmp i x l z) ≡ true

-- a slot more is a higher level, up to the caps
abbrev pub Rising : Compare → ℕ → (ℕ → ℕ) → Type 0
Rising cmp n cap = (i x : ℕ) → i < n → x < cap i → cmp i x i (suc x) ≡ Less

-- how many of n tasks with the totals t stand at or below the level (k, y)
abbrev pub at_or_below : Compare → ℕ → (ℕ → ℕ) → ℕ → ℕ → ℕ
at_or_below cmp n t k y = sum_to n (λ i. cond (is_le (cmp i (t i) k y)) 1 0)

-- the totals t are fairer than u: at some level that a task has in either there are fewer at or below it, and at every lower level equally many
pub record Fairer (cmp : Compare) (n : ℕ) (t u : ℕ → ℕ) : Type 0 where
  pub who : ℕ
  pub what : ℕ
  pub one : who < n
  pub had : (t who ≡ what) ⊎ (u who ≡ what)
  pub fewer : at_or_below cmp n t who what < at_or_below cmp n u who what
  pub lower : (k y : ℕ) → k < n → cmp k y who what ≡ Less → at_or_below cmp n t k y ≡ at_or_below cmp n u k y

-- the same, but that only the lower levels count that a task has in either
pub record Fairer-had (cmp : Compare) (n : ℕ) (t u : ℕ → ℕ) : Type 0 where
  pub who : ℕ
  pub what : ℕ
  pub one : who < n
  pub had : (t who ≡ what) ⊎ (u who ≡ what)
  pub fewer : at_or_below cmp n t who what < at_or_below cmp n u who what
  pub lower : (k y : ℕ) → k < n → (t k ≡ y) ⊎ (u k ≡ y) → cmp k y who what ≡ Less → at_or_below cmp n t k y ≡ at_or_below cmp n u k y

pub record Fairest (cmp : Compare) (n m : ℕ) (d : ℕ → ℕ → ℕ) (c cap : ℕ → ℕ) (a : ℕ → ℕ → ℕ) : Type 0 where
  pub feasible : Feasible n m d c a
  pub capped : Capped n m cap a
  pub best : (b : ℕ → ℕ → ℕ) → Feasible n m d c b → Capped n m cap b → Fairer cmp n (total m b) (total m a) → ⊥

-- p at the total x should gain a slot from q, which has y
abbrev pub gains : Compare → ℕ → ℕ → ℕ → ℕ → Bool
gains cmp p x q y = worthwhile (cmp p x q (y - 1)) (cmp q y p (suc x))

-- a closed set with p in it, from which p should gain nothing: what a search from p that finds nothing leaves
pub record Safe (cmp : Compare) (n m : ℕ) (d : ℕ → ℕ → ℕ) (c : ℕ → ℕ) (a : ℕ → ℕ → ℕ) (p : ℕ) : Type 0 where
  pub set : ℕ → Bool
  pub closed : Closed n m d c a set
  pub own : set p ≡ true
  pub fails : (q : ℕ) → q < n → set q ≡ true → 0 < total m a q → gains cmp p (total m a p) q (total m a q) ≡ false

-- each task below its cap is safe
abbrev pub Settled : Compare → ℕ → ℕ → (ℕ → ℕ → ℕ) → (ℕ → ℕ) → (ℕ → ℕ) → (ℕ → ℕ → ℕ) → Type 0
Settled cmp n m d c cap a = (p : ℕ) → p < n → total m a p < cap p → Safe cmp n m d c a p
