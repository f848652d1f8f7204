-- The letters that an order can have, and the head that names one.
use Rattle.std.specs.Prelude.{ℕ, cond, List, Some, None, Ok, Err, Option, Result, ◌==◌}
use Rattle.board.specs.Meaning.{sizes_allowed}
use Rattle.board.specs.declared.fault.Refusal.{Refusal}
use Rattle.board.specs.declared.fault.Refusal.TheVariants.{WrongLength, ValueOutOfBounds}
use Rattle.records.specs.declared.fields.HeadLine.{HeadLine}
use Rattle.records.specs.Fields.{head_in}
use Rattle.sections.specs.declared.letter.Sharing.{Sharing}
use Rattle.sections.specs.declared.letter.Sharing.TheVariants.{Even, Weighted, ByNeed}

-- e for even, w for weighted, n for by need
abbrev pub sharing_of : ℕ → Option Sharing
sharing_of letter =
    cond (letter == 101) (Some Even)
    (cond (letter == 119) (Some Weighted)
    (cond (letter == 110) (Some ByNeed) None))

-- the letter of each rule
abbrev pub letter_of : Sharing → ℕ
letter_of Even = 101
letter_of Weighted = 119
letter_of ByNeed = 110

abbrev pub head_lettered : HeadLine → Option Sharing → Result HeadLine Refusal
head_lettered head None = Err ValueOutOfBounds
head_lettered head (Some sharing) = cond (sizes_allowed head.tasks head.cores) (Ok head) (Err ValueOutOfBounds)

abbrev pub head_found : Option HeadLine → Result HeadLine Refusal
head_found None = Err WrongLength
head_found (Some head) = head_lettered head (sharing_of head.letter)

-- a head's body, or why it is none
abbrev pub head_test : List ℕ → Result HeadLine Refusal
head_test body = head_found (head_in body)
