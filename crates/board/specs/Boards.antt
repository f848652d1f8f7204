-- What is asked of a board of any build, and what its calls give back.
use Rattle.std.specs.Prelude.{◌≡◌, Result}
use Rattle.board.specs.declared.fault.Fault.{Fault}
use Rattle.board.specs.Meaning.{Meaning, Sound, SameOrder, cleared}
use Rattle.board.specs.Outcomes.{Outcome, done, refused, answered, after}

-- what holds over any number of calls
pub record Keeping {S : Type 0} (kept : S → S → Type 0) : Type 0 where
  pub same : (a : S) → kept a a
  pub onward : (a b c : S) → kept a b → kept b c → kept a c

-- how the boards of one build are read
pub record Build (S : Type 0) : Type 1 where
  -- what a board says, whatever memory it lies in
  pub meaning : S → Meaning
  -- what the memory must be like for the calls to work
  pub ready : S → Type 0
  -- what the meaning does not show and no call changes: whose memory it is, and what lies past the board
  pub kept : S → S → Type 0
  pub keeping : Keeping kept

-- a board that can be used: its memory serves, and its meaning keeps the condition
pub record Good {S : Type 0} (build : Build S) (board : S) : Type 0 where
  pub serves : build.ready board
  pub sound : Sound (build.meaning board)

-- a is still a good board after whatever was done, in the same memory
pub record Went {S : Type 0} (build : Build S) (a b : S) : Type 0 where
  pub good : Good build b
  pub keeps : build.kept a b

-- and of all that it says, only the slots held are others
pub record Rearranged {S : Type 0} (build : Build S) (a b : S) : Type 0 where
  pub went : Went build a b
  pub order : SameOrder (build.meaning a) (build.meaning b)

-- refused, the board is the same in value and memory
abbrev pub UnlessDone : Outcome → Type 0 → Type 0
UnlessDone (done m) same = Unit {0}
UnlessDone (refused why) same = same

-- a call that comes to the outcome makes b of a, and answers r
pub record Changed {S : Type 0} (build : Build S) (a b : S) (outcome : Outcome) (r : Result (Unit {0}) Fault) : Type 0 where
  pub told : r ≡ answered outcome
  pub left : build.meaning b ≡ after (build.meaning a) outcome
  pub unchanged : UnlessDone outcome (b ≡ a)
  pub good : Good build b
  pub keeps : build.kept a b

pub record Cleared {S : Type 0} (build : Build S) (a b : S) : Type 0 where
  pub left : build.meaning b ≡ cleared (build.meaning a)
  pub good : Good build b
  pub keeps : build.kept a b
