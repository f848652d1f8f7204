-- When nothing stands against writing.
use Rattle.std.proofs.Common.{◌≡◌, ℕ, ◌<◌, ◌≤◌, cond, not, ◌||◌, eqb, ltb, List, length, Some, None, Ok, Option, ap, ◌∙◌, arith}
use Rattle.std.specs.Option.{ok_or}
use Rattle.std.proofs.lemmas.Bool.Decides.{nat_tests}
use Rattle.board.specs.declared.fault.Refusal.{Refusal}
use Rattle.board.specs.declared.fault.Refusal.TheVariants.{ValueOutOfBounds, SizesDiffer, OutputTooShort}
use Rattle.board.specs.Meaning.{Meaning}
use Rattle.sections.specs.declared.letter.Sharing.{Sharing}
use Rattle.sections.specs.Letters.{sharing_of}
use Rattle.tasks.specs.Rows.{Row}
use Rattle.orders.specs.Encoding.{file_of}
use Rattle.order_writer.specs.Writing.{lettered, write_why}

-- the tests of the sizes
pub sizes-allowed : (named tasks room long : ℕ) → named ≡ tasks → 0 < tasks → long ≤ room → cond (not (eqb named tasks) || eqb tasks 0) (Some SizesDiffer) (cond (ltb room long) (Some OutputTooShort) None) ≡ None
sizes-allowed named tasks room long same some fits = grind (arith, nat_tests)

-- a letter that was decoded is known
known : (letter : ℕ) (sharing : Sharing) (o : Option Sharing) → Ok sharing ≡ ok_or o ValueOutOfBounds → o ≡ Some sharing
known letter sharing None e = let z : ◌≡◌ {A = ℕ} 0 1 = cc in absurd (omega arith)
known letter sharing (Some decoded) e = cc

pub allowed : (letter : ℕ) (rows : List Row) (m : Meaning) (room : ℕ) (sharing : Sharing) → Ok sharing ≡ ok_or (sharing_of letter) ValueOutOfBounds → length rows ≡ m.tasks → 0 < m.tasks → length (file_of letter rows m) ≤ room → write_why letter rows m room ≡ None
allowed letter rows m room sharing decoded same some fits =
    let later : Option Refusal = cond (not (eqb (length rows) m.tasks) || eqb m.tasks 0) (Some SizesDiffer) (cond (ltb room (length (file_of letter rows m))) (Some OutputTooShort) None) in
    ap (λ o. lettered o later) (known letter sharing (sharing_of letter) decoded) ∙ sizes-allowed (length rows) m.tasks room (length (file_of letter rows m)) same some fits
