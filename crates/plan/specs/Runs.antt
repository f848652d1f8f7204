-- What a run of calls comes to, from the making of the plan to the last call.
use Rattle.std.specs.Prelude.{◌≡◌, ℕ, ◌+◌, ◌<◌, ◌≤◌, List, [], length, take, Ok, Err, fold, Result, slice_index_or}
use Rattle.fairness.specs.Plans.{Plan}
use Rattle.fairness.specs.Laws.{Comparison}
use Rattle.board.specs.Meaning.{Meaning, Sound, planned}
use Rattle.board.specs.Outcomes.{Outcome, done, answered, after}
use Rattle.levelling.specs.Levelled.{FairestOn}
use Rattle.calls.specs.declared.Call.{Call}
use Rattle.calls.specs.declared.Call.TheVariants.{SetNeed, SetCapacity, Release, Reopen}
use Rattle.plan.specs.declared.runs.Note.{Note}
use Rattle.plan.specs.declared.runs.RunRefusal.{RunRefusal}
use Rattle.plan.specs.declared.runs.RunRefusal.TheVariants.{NotLegal, NotesTooFew}
use Rattle.changes.specs.Changes.{plan_need, plan_capacity}
use Rattle.plan.specs.Plans.{Totals}
use Rattle.calls.specs.Turns.{call_at, Legal, FirstOutOfTurn}

-- what a call comes to on a board; release and reopen change no number
abbrev pub outcome_of : Meaning → Call → Outcome
outcome_of m (SetNeed task core need) = plan_need m task core need
outcome_of m (SetCapacity core capacity) = plan_capacity m core capacity
outcome_of m Release = done m
outcome_of m Reopen = done m

abbrev pub called : Meaning → Call → Meaning
called m call = after m (outcome_of m call)

-- the present needs and capacities after the first k calls: each set call that is taken changes its one number, and nothing else does
abbrev pub present_at : Meaning → List Call → ℕ → Meaning
present_at m calls k = fold called m (take k calls)

-- the board after the first k calls: the present needs and capacities, and the plan
abbrev pub board_at : Meaning → List Call → (ℕ → Plan) → ℕ → Meaning
board_at m calls plans k = planned (present_at m calls k) (plans k)

abbrev pub note_at : List Note → ℕ → Note
note_at notes k = slice_index_or notes k (record { answer = Ok tt; totals = [] })

-- the calls were played: at every point of the run, from its beginning to its end, a fairest plan stood on the board
-- for the needs and capacities of that point
pub record RanTo (compare : Comparison) (m : Meaning) (calls : List Call) (count : ℕ) (notes : List Note) (end : Meaning) : Type 0 where
  -- the plan on the board after the first k calls
  pub plans : ℕ → Plan
  pub fairest : (k : ℕ) → k ≤ count → FairestOn compare (board_at m calls plans k)
  pub sound : (k : ℕ) → k ≤ count → Sound (board_at m calls plans k)
  -- each call was told what it comes to at its point
  pub answers : (k : ℕ) → k < count → (note_at notes k).answer ≡ answered (outcome_of (present_at m calls k) (call_at calls k))
  -- and its note has the totals of the plan that it left
  pub totals : (k : ℕ) → k < count → Totals (board_at m calls plans (k + 1)) (note_at notes k).totals
  pub ends : end ≡ board_at m calls plans count

abbrev pub Ran : Comparison → Meaning → List Call → List Note → Meaning → Type 0
Ran compare m calls notes end = RanTo compare m calls (length calls) notes end

-- the notes past the first `count` are what they were
pub record NotesPast (count : ℕ) (before after : List Note) : Type 0 where
  pub long : length after ≡ length before
  pub rest : (k : ℕ) → count ≤ k → note_at after k ≡ note_at before k

-- a run that was played
pub record Played (compare : Comparison) (m end : Meaning) (calls : List Call) (before after : List Note) : Type 0 where
  pub legal : Legal calls
  pub room : length calls ≤ length before
  pub ran : Ran compare m calls after end
  pub rest : NotesPast (length calls) before after

-- a run that was refused: the board is the same in value and memory, and so are the notes
pub record Unplayed {S : Type 0} (a b : S) (before after : List Note) (why : Type 0) : Type 0 where
  pub reason : why
  pub board : b ≡ a
  pub notes : after ≡ before

-- what a run answers: a list that is not legal is refused first, with the place of the first call that is out of turn;
-- then too few notes for the calls
abbrev pub RunTold : {S : Type 0} → (S → Meaning) → Comparison → S → S → List Call → List Note → List Note → Result (Unit {0}) RunRefusal → Type 0
RunTold meaning compare a b calls before after (Ok u) = Played compare (meaning a) (meaning b) calls before after
RunTold meaning compare a b calls before after (Err (NotLegal place)) = Unplayed a b before after (FirstOutOfTurn calls place)
RunTold meaning compare a b calls before after (Err NotesTooFew) = Unplayed a b before after (Legal calls × (length before < length calls))
