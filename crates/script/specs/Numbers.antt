-- Numbers in a script: decimal digits, up to 65,535.
use Rattle.std.specs.Prelude.{ℕ, ◌+◌, ◌-◌, ◌*◌, cond, ◌||◌, List, [], ◌∷◌, Some, None, fold, Option, nat_lt}

-- the number with one more digit behind it, unless that is no digit or the number grows too large
abbrev pub with_digit : Option ℕ → ℕ → Option ℕ
with_digit None digit = None
with_digit (Some number) digit =
    cond (nat_lt digit 48 || nat_lt 57 digit) None
    (cond (nat_lt 65535 (number * 10 + (digit - 48))) None
    (Some (number * 10 + (digit - 48))))

abbrev pub number_of : List ℕ → Option ℕ
number_of [] = None
number_of (digit ∷ digits) = fold with_digit (Some 0) (digit ∷ digits)
