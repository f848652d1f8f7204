-- Distributed lexicographic fairness, as it is defined for totals alone: what the even rule's fairest plans are.
use Rattle.std.specs.Prelude.{◌≡◌, ℕ, zero, suc, ◌<◌, cond, ◌⊎◌, List, [], ◌∷◌, length, nat_le, slice_index}
use Rattle.fairness.specs.Plans.{Plan, total, Feasible}
use Rattle.fairness.specs.Levels.{Fairest, Countable}
use Rattle.fairness.specs.Even.{even}

-- a number put into its place in a list that rises
abbrev pub insert : ℕ → List ℕ → List ℕ
insert x [] = x ∷ []
insert x (y ∷ ys) = cond (nat_le x y) (x ∷ y ∷ ys) (y ∷ insert x ys)

-- the totals of n tasks from lowest to highest
abbrev pub sorted : ℕ → (ℕ → ℕ) → List ℕ
sorted zero totals = []
sorted (suc n) totals = insert (totals n) (sorted n totals)

-- at the first place where the lists differ the first one is smaller
pub record Smaller (first second : List ℕ) : Type 0 where
  pub place : ℕ
  pub inside : place < length first
  pub less : slice_index first place < slice_index second place
  pub before : (k : ℕ) → k < place → slice_index first k ≡ slice_index second k

-- no place differs
abbrev pub Equal : List ℕ → List ℕ → Type 0
Equal first second = (place : ℕ) → place < length first → slice_index first place ≡ slice_index second place

-- feasible, and every feasible plan's sorted list is smaller than this one's or equal to it
pub record LexicographicallyFair (n m : ℕ) (need : Plan) (capacity : ℕ → ℕ) (held : Plan) : Type 0 where
  pub feasible : Feasible n m need capacity held
  pub greatest : (other : Plan) → Feasible n m need capacity other
      → Smaller (sorted n (total m other)) (sorted n (total m held)) ⊎ Equal (sorted n (total m other)) (sorted n (total m held))

-- under the even rule the fairest plans are the lexicographically fair ones
abbrev pub EvenLexicographic : Type 0
EvenLexicographic =
    (n m : ℕ) (need : Plan) (capacity : ℕ → ℕ) → Countable n m need → (held : Plan)
    → (Fairest even n m need capacity held → LexicographicallyFair n m need capacity held)
    × (LexicographicallyFair n m need capacity held → Fairest even n m need capacity held)
