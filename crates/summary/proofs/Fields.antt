-- What a field of a format holds: an ASCII text and blanks up to the field's width.
use Rattle.std.proofs.Common.{rules, ◌≡◌, ℕ, suc, zero, ◌-◌, ◌^◌, ◌/◌, ◌%◌, ◌<◌, ◌≤◌, true, false, List, [], ◌∷◌, ◌++◌, length, replicate, codes, decimal, ap, ◌∙◌, refl, arith, append-nil, length-append}
use Rattle.std.specs.Fmt.{char_count, take_chars, padded, padded_integral, format_spec}
use Rattle.std.specs.List.{repeat}
use Rattle.std.specs.Str.{IsAscii}
use Rattle.std.proofs.lemmas.Bool.Decides.{nat_tests}
use Rattle.std.proofs.lemmas.Fmt.{IsAscii-decimal, length-decimal-le}
use Rattle.std.proofs.lemmas.Str.{IsAscii-append}
use Rattle.std.proofs.lemmas.Str.Ascii.{IsAscii-nil, IsAscii-cons, IsAscii-from_all}
use Rattle.tasks.specs.Names.{printable_name}
use Rattle.summary.specs.Lines.{left_in, right_in, percent}

blanks : (n : ℕ) → repeat {A = ℕ} n (32 ∷ []) ≡ replicate n 32
blanks zero = refl
blanks (suc n) = ap (λ l. 32 ∷ l) (blanks n)

-- an ASCII text has as many characters as bytes
characters : (text : List ℕ) → IsAscii text → char_count text ≡ length text
unfolding char_count
characters [] ascii = refl
characters (b ∷ text) ascii =
    let low : b < 128 = ascii 0 in
    let rest : char_count text ≡ length text = characters text (λ i. ascii (suc i)) in
    grind (arith, nat_tests)

-- a text that is shorter than the precision is not cut
uncut : (most : ℕ) (text : List ℕ) → IsAscii text → length text ≤ most → take_chars most text ≡ text
unfolding take_chars
uncut most [] ascii short = refl
uncut most (b ∷ text) ascii short =
    let low : b < 128 = ascii 0 in
    let rest : take_chars (most - 1) text ≡ text = uncut (most - 1) text (λ i. ascii (suc i)) (omega arith) in
    grind (arith, nat_tests)

pub left-field : (width : ℕ) (text : List ℕ) → IsAscii text → length text < 2 ^ 32 → padded (format_spec 32 1 0 width (2 ^ 64 - 1)) text ≡ left_in width text
unfolding padded lib.Utf8.encode
left-field width text ascii few =
    let all : width - length text - 0 ≡ width - length text = omega arith in
    rw (uncut (2 ^ 64 - 1) text ascii (omega arith), characters text ascii, blanks) (ap (λ n. text ++ replicate n 32) all)

-- no blank follows a text at the right
last : (width long : ℕ) (text : List ℕ) → replicate width 32 ++ (text ++ repeat {A = ℕ} (long - long) (32 ∷ [])) ≡ replicate width 32 ++ text
last width long text =
    let none : long - long ≡ 0 = omega arith in
    rw none (ap (λ l. replicate width 32 ++ l) (append-nil text))

pub right-field : (width : ℕ) (text : List ℕ) → IsAscii text → length text < 2 ^ 32 → padded (format_spec 32 3 0 width (2 ^ 64 - 1)) text ≡ right_in width text
unfolding padded lib.Utf8.encode
right-field width text ascii few = rw (uncut (2 ^ 64 - 1) text ascii (omega arith), characters text ascii, blanks (width - length text)) (last (width - length text) (width - length text) text)

pub number-field : (number : List ℕ) → padded_integral (format_spec 32 3 0 6 (2 ^ 64 - 1)) false [] number ≡ right_in 6 number
unfolding padded_integral char_count lib.Utf8.encode
number-field number =
    let missing = 6 - length number - 0 - 0 in
    let same : missing ≡ 6 - length number = omega arith in
    rw (blanks missing, append-nil, append-nil, append-nil) (last missing missing number ∙ ap (λ n. replicate n 32 ++ number) same)

pub printable-ascii : (name : List ℕ) → printable_name name ≡ true → IsAscii name
printable-ascii [] shows = IsAscii-nil
printable-ascii (byte ∷ name) shows =
    let low : byte < 128 = grind (arith, nat_tests) in
    let rest : printable_name name ≡ true = grind (arith, nat_tests) in
    IsAscii-cons byte name low (printable-ascii name rest)

pub percent-ascii : (share : ℕ) → share < 2 ^ 64 → IsAscii (percent share)
percent-ascii share small =
    IsAscii-append (decimal (share / 10)) _ (IsAscii-decimal (share / 10) (omega arith))
    (IsAscii-append (codes ".") _ (IsAscii-cons 46 [] (omega arith) IsAscii-nil)
    (IsAscii-append (decimal (share % 10)) _ (IsAscii-decimal (share % 10) (omega arith)) (IsAscii-cons 37 [] (omega arith) IsAscii-nil)))

pub percent-few : (share : ℕ) → share < 2 ^ 64 → length (percent share) < 2 ^ 32
percent-few share small =
    let whole = decimal (share / 10) in
    let part = decimal (share % 10) in
    let long = length-decimal-le 20 (share / 10) (omega arith) (omega arith) (omega arith) in
    let short = length-decimal-le 1 (share % 10) (omega arith) (omega arith) (omega arith) in
    omega (arith, length-append whole (codes "." ++ (part ++ codes "%")), length-append part (codes "%"), long, short)

pub free-ascii : IsAscii (codes "free")
free-ascii = IsAscii-from_all (codes "free") (search rules)
