-- A file as a list of lines, and what taking them in one after another comes to.
use Rattle.std.proofs.Common.{◌≡◌, ℕ, ◌+◌, ◌*◌, ◌/◌, ◌%◌, ◌<◌, List, [], ◌∷◌, ◌++◌, length, Ok, Err, Result, sym, refl, ap, ◌∙◌, append_assoc, arith}
use Rattle.board.specs.declared.fault.Fault.{Fault}
use Rattle.records.specs.Cuts.{Cut}
use Rattle.records.specs.Wire.{word, record_bytes}
use Rattle.orders.specs.Encoding.{Line, bytes_of}
use Rattle.orders.specs.Steps.{then, Reading, step}

-- a line that stands at a place of a file
abbrev pub cut_of : Line → ℕ → Cut
cut_of line at = record { kind = line.kind; body = line.body; place = at }

-- the lines taken in one after another, the first of them at the place `at`
abbrev pub folded : Reading → ℕ → List Line → Result Reading Fault
folded s at [] = Ok s
folded s at (line ∷ lines) = then (step s (cut_of line at)) (λ next. folded next (at + 4 + length line.body) lines)

pub bytes-join : (xs ys : List Line) → bytes_of (xs ++ ys) ≡ bytes_of xs ++ bytes_of ys
bytes-join [] ys = refl
bytes-join (x ∷ xs) ys =
    let first = record_bytes x.kind x.body in
    ap (λ l. first ++ l) (bytes-join xs ys) ∙ sym (append_assoc first (bytes_of xs) (bytes_of ys))

-- where an accepted step leads
pub folded-step : (s t : Reading) (at : ℕ) (line : Line) (lines : List Line) → step s (cut_of line at) ≡ Ok t → folded s at (line ∷ lines) ≡ folded t (at + 4 + length line.body) lines
folded-step s t at line lines e = ap (λ r. then r (λ next. folded next (at + 4 + length line.body) lines)) e

-- an accepted chain of two steps was accepted at both
pub then_ok : {A B : Type 0} (r : Result A Fault) (next : A → Result B Fault) (x : B) → then r next ≡ Ok x → (y : A) × (r ≡ Ok y) × (next y ≡ Ok x)
then_ok (Ok y) next x e = (y, refl, e)
then_ok (Err fault) next x e = let z : ◌≡◌ {A = ℕ} 0 1 = cc in absurd (omega arith)

-- the two bytes of a number make that number
pub word_back : (n : ℕ) → n % 256 + 256 * (n / 256) ≡ n
word_back n = omega arith

-- two bytes make a number that has these bytes
pub word-forth : (a b : ℕ) → a < 256 → word (a + 256 * b) ≡ a ∷ b ∷ []
word-forth a b small =
    let low : (a + 256 * b) % 256 ≡ a = omega arith in
    let high : (a + 256 * b) / 256 ≡ b = omega arith in
    λ i. low i ∷ high i ∷ []
