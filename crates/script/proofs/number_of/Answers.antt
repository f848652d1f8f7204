use Rattle.std.proofs.Common.{◌≡◌, ℕ, List, [], ◌∷◌, None, fold, refl, arith}
use Rattle.std.proofs.lemmas.Grind.{common_steps}
use Rattle.script.specs.Numbers.{with_digit}
use Rattle.script.proofs.number_of.Goals as goal

-- what is no number stays none
none_stays : (digits : List ℕ) → fold with_digit None digits ≡ None
none_stays [] = refl
none_stays (digit ∷ digits) = none_stays digits

pub returns-in_err-number : goal.returns-in_err-number
returns-in_err-number c = grind (arith, common_steps, none_stays)
