-- What a board under a plan is between the plan's calls, and what a set call makes of it.
use Rattle.std.specs.Prelude.{◌≡◌, Result}
use Rattle.fairness.specs.Laws.{Comparison}
use Rattle.board.specs.declared.fault.Fault.{Fault}
use Rattle.board.specs.Meaning.{SameOrder}
use Rattle.board.specs.Outcomes.{Outcome, answered, after}
use Rattle.board.specs.Boards.{Build, Good, UnlessDone}
use Rattle.levelling.specs.Levelled.{FairestOn}

-- the condition of every call on a plan, which making gives and each call keeps: a good board, with a fairest plan on it
pub record Standing {S : Type 0} (build : Build S) (compare : Comparison) (board : S) : Type 0 where
  pub good : Good build board
  pub fairest : FairestOn compare (build.meaning board)

-- a set call that comes to the outcome makes b of a, and answers r
pub record Replanned {S : Type 0} (build : Build S) (compare : Comparison) (a b : S) (outcome : Outcome) (r : Result (Unit {0}) Fault) : Type 0 where
  pub told : r ≡ answered outcome
  -- needs and capacities are those of the outcome, and the plan is fairest for them
  pub order : SameOrder (after (build.meaning a) outcome) (build.meaning b)
  pub standing : Standing build compare b
  pub keeps : build.kept a b
  -- refused, the board is the same in value and memory
  pub unchanged : UnlessDone outcome (b ≡ a)
  -- and a number that is set to what it is moves nothing either
  pub still : after (build.meaning a) outcome ≡ build.meaning a → b ≡ a
