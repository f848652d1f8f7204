-- A body that was read is made of the numbers that were found in it.
use Rattle.std.proofs.Common.{◌≡◌, ℕ, ◌-◌, ◌≤◌, List, [], ◌∷◌, length, get_or, take, drop, sym, refl, ap, ◌∙◌, arith}
use Rattle.std.specs.List.{AllByRecursion}
use Rattle.std.proofs.lemmas.List.{take_all}
use Rattle.std.proofs.ByRecursion.{All-get_or}
use Rattle.records.specs.Wire.{word, word_at}
use Rattle.orders.specs.Laws.{Byte}
use Rattle.orders.proofs.Lines.{word-forth}

two : (b : List ℕ) → length b ≡ 2 → b ≡ get_or b 0 0 ∷ get_or b 1 0 ∷ []
two [] e = absurd (omega arith)
two (x ∷ []) e = absurd (omega arith)
two (x ∷ y ∷ []) e = refl
two (x ∷ y ∷ z ∷ b) e = absurd (omega arith)

pub three : (b : List ℕ) → length b ≡ 3 → b ≡ get_or b 0 0 ∷ get_or b 1 0 ∷ get_or b 2 0 ∷ []
three [] e = absurd (omega arith)
three (x ∷ []) e = absurd (omega arith)
three (x ∷ y ∷ []) e = absurd (omega arith)
three (x ∷ y ∷ z ∷ []) e = refl
three (x ∷ y ∷ z ∷ w ∷ b) e = absurd (omega arith)

four : (b : List ℕ) → length b ≡ 4 → b ≡ get_or b 0 0 ∷ get_or b 1 0 ∷ get_or b 2 0 ∷ get_or b 3 0 ∷ []
four [] e = absurd (omega arith)
four (x ∷ []) e = absurd (omega arith)
four (x ∷ y ∷ []) e = absurd (omega arith)
four (x ∷ y ∷ z ∷ []) e = absurd (omega arith)
four (x ∷ y ∷ z ∷ w ∷ []) e = refl
four (x ∷ y ∷ z ∷ w ∷ v ∷ b) e = absurd (omega arith)

pub count-body : (b : List ℕ) → AllByRecursion Byte b → length b ≡ 2 → b ≡ word (word_at b 0)
count-body b bytes size = two b size ∙ sym (word-forth (get_or b 0 0) (get_or b 1 0) (All-get_or Byte b 0 0 (omega arith) bytes))

pub core-body : (b : List ℕ) → AllByRecursion Byte b → length b ≡ 3 → b ≡ get_or b 0 0 ∷ word (word_at b 1)
core-body b bytes size = three b size ∙ ap (λ l. get_or b 0 0 ∷ l) (sym (word-forth (get_or b 1 0) (get_or b 2 0) (All-get_or Byte b 1 0 (omega arith) bytes)))

pub pair-body : (b : List ℕ) → AllByRecursion Byte b → length b ≡ 4 → b ≡ get_or b 0 0 ∷ get_or b 1 0 ∷ word (word_at b 2)
pair-body b bytes size = four b size ∙ ap (λ l. get_or b 0 0 ∷ get_or b 1 0 ∷ l) (sym (word-forth (get_or b 2 0) (get_or b 3 0) (All-get_or Byte b 2 0 (omega arith) bytes)))

pub task-body : (b : List ℕ) → 2 ≤ length b → b ≡ get_or b 0 0 ∷ get_or b 1 0 ∷ take (length b - 2) (drop 2 b)
task-body [] e = absurd (omega arith)
task-body (x ∷ []) e = absurd (omega arith)
task-body (x ∷ y ∷ b) e = ap (λ l. x ∷ y ∷ l) (sym (take_all (length (x ∷ y ∷ b) - 2) b (omega arith)))
