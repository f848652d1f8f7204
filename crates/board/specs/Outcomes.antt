-- What each change comes to: the refusals in the order in which they are tested, or the new meaning.
use Rattle.std.specs.Prelude.{ℕ, Bool, true, false, cond, ◌&&◌, ◌||◌, Ok, Err, Result, ◌==◌, nat_le, nat_lt}
use Rattle.board.specs.declared.fault.Refusal.{Refusal}
use Rattle.board.specs.declared.fault.Refusal.TheVariants.{NoSuchTaskOrCore, AmountTooLarge, SlotsOverNeed, CoreOverCapacity, NoPairLeft, CannotBeMade}
use Rattle.board.specs.declared.fault.Fault.{Fault}
use Rattle.board.specs.Refusals.{fault_at}
use Rattle.board.specs.Meaning.{Meaning, most_slots, given_at, pair_count, with_need, with_held, with_capacity}

pub data Outcome : Type 0 where
  done : Meaning → Outcome
  refused : Refusal → Outcome

-- what the caller is told; a board's fault has the place 0
abbrev pub answered : Outcome → Result (Unit {0}) Fault
answered (done m) = Ok tt
answered (refused why) = Err (fault_at why 0)

-- the meaning afterwards
abbrev pub after : Meaning → Outcome → Meaning
after m (done changed) = changed
after m (refused why) = m

abbrev pub set_need : Meaning → ℕ → ℕ → ℕ → Outcome
set_need m task core amount =
    cond (nat_le m.tasks task || nat_le m.cores core) (refused NoSuchTaskOrCore)
    (cond (nat_lt most_slots amount) (refused AmountTooLarge)
    (cond (nat_lt amount (m.held task core)) (refused SlotsOverNeed)
    (cond (nat_lt 0 amount && m.need task core == 0 && nat_le m.greatest_pairs (pair_count m)) (refused NoPairLeft)
    (done (with_need m task core amount)))))

abbrev pub set_held : Meaning → ℕ → ℕ → ℕ → Outcome
set_held m task core amount =
    cond (nat_le m.tasks task || nat_le m.cores core) (refused NoSuchTaskOrCore)
    (cond (nat_lt (m.need task core) amount) (refused SlotsOverNeed)
    (cond (nat_lt (m.capacity core) (given_at (with_held m task core amount) core)) (refused CoreOverCapacity)
    (done (with_held m task core amount))))

abbrev pub set_capacity : Meaning → ℕ → ℕ → Outcome
set_capacity m core amount =
    cond (nat_le m.cores core) (refused NoSuchTaskOrCore)
    (cond (nat_lt (m.greatest_capacity core) amount) (refused AmountTooLarge)
    (cond (nat_lt amount (given_at m core)) (refused CoreOverCapacity)
    (done (with_capacity m core amount))))

-- what the check before making answers, where it is known whether the board can be made
abbrev pub checked : Bool → Result (Unit {0}) Fault
checked true = Ok tt
checked false = Err (fault_at CannotBeMade 0)
