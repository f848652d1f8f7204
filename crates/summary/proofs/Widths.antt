-- How long the lines of a report are.
use Rattle.std.proofs.Common.{◌≡◌, ℕ, ◌-◌, ◌*◌, ◌/◌, ◌%◌, ◌≤◌, Bool, true, false, cond, eqb, List, [], ◌∷◌, ◌++◌, length, replicate, codes, decimal, mul-le-mul_right, arith, length-append}
use native.Mathlib.Nat.{div-le_of_le-mul}
use lib.ListN.{length-replicate}
use Rattle.std.proofs.lemmas.Fmt.{length-decimal-le}
use Rattle.summary.specs.Lines.{left_in, right_in, tenths, percent, task_line, free_line}

-- a text that fits fills just its field
left-width : (width : ℕ) (text : List ℕ) → length text ≤ width → length (left_in width text) ≡ width
left-width width text fits = omega (arith, length-append text (replicate (width - length text) 32), length-replicate {A = ℕ} (width - length text) 32)

right-width : (width : ℕ) (text : List ℕ) → length text ≤ width → length (right_in width text) ≡ width
right-width width text fits = omega (arith, length-append (replicate (width - length text) 32) text, length-replicate {A = ℕ} (width - length text) 32)

-- no share is above 100.0%
tenths-most : (total slots : ℕ) → total ≤ slots → tenths total slots ≤ 1000
tenths-most total slots within = most (eqb slots 0)
  where
    most : (none : Bool) → cond none 0 (total * 1000 / slots) ≤ 1000
    most true = omega arith
    most false = div-le_of_le-mul slots (mul-le-mul_right 1000 within)

percent-short : (share : ℕ) → share ≤ 1000 → length (percent share) ≤ 8
percent-short share most =
    let whole = decimal (share / 10) in
    let part = decimal (share % 10) in
    let long = length-decimal-le 3 (share / 10) (omega arith) (omega arith) (omega arith) in
    let short = length-decimal-le 1 (share % 10) (omega arith) (omega arith) (omega arith) in
    omega (arith, length-append whole (codes "." ++ (part ++ codes "%")), length-append part (codes "%"), long, short)

pub task-width : (name : List ℕ) (total slots : ℕ) → length name ≤ 12 → total ≤ 16000 → total ≤ slots → length (task_line name total slots) ≡ 27
task-width name total slots short small within =
    let first = left_in 12 name in
    let number = right_in 6 (decimal total) in
    let share = right_in 8 (percent (tenths total slots)) in
    omega (
      arith,
      length-append first (number ++ (share ++ 10 ∷ [])),
      length-append number (share ++ 10 ∷ []),
      length-append share (10 ∷ []),
      left-width 12 name short,
      right-width 6 (decimal total) (length-decimal-le 6 total (omega arith) (omega arith) (omega arith)),
      right-width 8 (percent (tenths total slots)) (percent-short (tenths total slots) (tenths-most total slots within)),
    )

pub free-width : (free : ℕ) → free ≤ 16000 → length (free_line free) ≡ 19
free-width free small =
    let number = right_in 6 (decimal free) in
    omega (
      arith,
      length-append (left_in 12 (codes "free")) (number ++ 10 ∷ []),
      length-append number (10 ∷ []),
      left-width 12 (codes "free") (omega arith),
      right-width 6 (decimal free) (length-decimal-le 6 free (omega arith) (omega arith) (omega arith)),
    )
