-- Which calls may follow which: a working plan takes set calls and can be released, a released one can be reopened.
use Rattle.std.specs.Prelude.{◌≡◌, ℕ, ◌<◌, Bool, true, false, not, List, length, take, fold, slice_index_or}
use Rattle.calls.specs.declared.Call.{Call}
use Rattle.calls.specs.declared.Call.TheVariants.{SetNeed, SetCapacity, Release, Reopen}
use Rattle.calls.specs.declared.Phase.{Phase}
use Rattle.calls.specs.declared.Phase.TheVariants.{Working, Released}

abbrev pub call_at : List Call → ℕ → Call
call_at calls k = slice_index_or calls k (SetNeed 0 0 0)

abbrev pub is_working : Phase → Bool
is_working Working = true
is_working Released = false

-- whether a plan in the phase takes the call
abbrev pub in_turn : Phase → Call → Bool
in_turn phase (SetNeed task core need) = is_working phase
in_turn phase (SetCapacity core capacity) = is_working phase
in_turn phase Release = is_working phase
in_turn phase Reopen = not (is_working phase)

-- the phase of the plan after the call
abbrev pub phase_after : Phase → Call → Phase
phase_after phase (SetNeed task core need) = phase
phase_after phase (SetCapacity core capacity) = phase
phase_after phase Release = Released
phase_after phase Reopen = Working

-- the phase of the plan after the first k calls; a new one is working
abbrev pub phase_at : List Call → ℕ → Phase
phase_at calls k = fold phase_after Working (take k calls)

abbrev pub InTurn : List Call → ℕ → Type 0
InTurn calls k = in_turn (phase_at calls k) (call_at calls k) ≡ true

abbrev pub Legal : List Call → Type 0
Legal calls = (k : ℕ) → k < length calls → InTurn calls k

pub record FirstOutOfTurn (calls : List Call) (place : ℕ) : Type 0 where
  pub inside : place < length calls
  pub out : in_turn (phase_at calls place) (call_at calls place) ≡ false
  pub before : (k : ℕ) → k < place → InTurn calls k
