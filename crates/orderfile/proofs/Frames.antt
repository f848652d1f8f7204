-- No change that a record makes touches what a cleared board still has: its sizes and its greatest numbers.
use Rattle.std.proofs.Common.{◌≡◌, ℕ, Bool, true, false, cond, ◌&&◌, ◌||◌, eqb, ltb, leb, refl}
use Rattle.board.specs.declared.fault.Refusal.{Refusal}
use Rattle.board.specs.declared.fault.Refusal.TheVariants.{NoSuchTaskOrCore, AmountTooLarge, SlotsOverNeed, CoreOverCapacity, NoPairLeft}
use Rattle.board.specs.Meaning.{Meaning, cleared, most_slots, given_at, pair_count, with_need, with_held, with_capacity}
use Rattle.board.specs.Outcomes.{Outcome, done, refused, after, set_need, set_held, set_capacity}
use Rattle.sections.specs.Lines.{Said, head, core, task, need, slots, end}
use Rattle.orders.specs.Steps.{board_by}

abbrev Framed : Meaning → Outcome → Type 0
Framed m o = cleared (after m o) ≡ cleared m

-- a test that refuses leaves the board as it was
unless : (m : Meaning) (b : Bool) (why : Refusal) (o : Outcome) → Framed m o → Framed m (cond b (refused why) o)
unless m true why o p = refl
unless m false why o p = p

frame-capacity : (m : Meaning) (c amount : ℕ) → Framed m (set_capacity m c amount)
frame-capacity m c amount =
    let last : Outcome = cond (ltb amount (given_at m c)) (refused CoreOverCapacity) (done (with_capacity m c amount)) in
    unless m (leb m.cores c) NoSuchTaskOrCore (cond (ltb (m.greatest_capacity c) amount) (refused AmountTooLarge) last)
    (unless m (ltb (m.greatest_capacity c) amount) AmountTooLarge last
    (unless m (ltb amount (given_at m c)) CoreOverCapacity (done (with_capacity m c amount)) refl))

frame-need : (m : Meaning) (t c amount : ℕ) → Framed m (set_need m t c amount)
frame-need m t c amount =
    let pairs : Bool = ltb 0 amount && eqb (m.need t c) 0 && leb m.greatest_pairs (pair_count m) in
    let last : Outcome = cond pairs (refused NoPairLeft) (done (with_need m t c amount)) in
    let under : Outcome = cond (ltb amount (m.held t c)) (refused SlotsOverNeed) last in
    unless m (leb m.tasks t || leb m.cores c) NoSuchTaskOrCore (cond (ltb most_slots amount) (refused AmountTooLarge) under)
    (unless m (ltb most_slots amount) AmountTooLarge under
    (unless m (ltb amount (m.held t c)) SlotsOverNeed last
    (unless m pairs NoPairLeft (done (with_need m t c amount)) refl)))

frame-held : (m : Meaning) (t c amount : ℕ) → Framed m (set_held m t c amount)
frame-held m t c amount =
    let last : Outcome = cond (ltb (m.capacity c) (given_at (with_held m t c amount) c)) (refused CoreOverCapacity) (done (with_held m t c amount)) in
    unless m (leb m.tasks t || leb m.cores c) NoSuchTaskOrCore (cond (ltb (m.need t c) amount) (refused SlotsOverNeed) last)
    (unless m (ltb (m.need t c) amount) SlotsOverNeed last
    (unless m (ltb (m.capacity c) (given_at (with_held m t c amount) c)) CoreOverCapacity (done (with_held m t c amount)) refl))

pub frame-by : (said : Said) (m : Meaning) → cleared (board_by said m) ≡ cleared m
frame-by head m = refl
frame-by (core line) m = frame-capacity m line.core line.capacity
frame-by (task line) m = refl
frame-by (need line) m = frame-need m line.task line.core line.amount
frame-by (slots line) m = frame-held m line.task line.core line.amount
frame-by end m = refl
