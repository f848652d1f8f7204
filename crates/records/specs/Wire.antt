-- How numbers, lengths and kinds stand in the bytes of a file.
use Rattle.std.specs.Prelude.{ℕ, ◌+◌, ◌-◌, ◌*◌, ◌/◌, ◌%◌, cond, List, [], ◌∷◌, ◌++◌, length, Some, None, Option, ◌==◌, nat_lt, slice_index}
use Rattle.records.specs.declared.kind.Kind.{Kind}
use Rattle.records.specs.declared.kind.Kind.TheVariants.{Head, Core, Task, Need, Slots, End}

-- no order has more bytes
abbrev pub longest_file : ℕ
longest_file = 17661

-- the number in the two bytes from `at` on, the low one first
abbrev pub word_at : List ℕ → ℕ → ℕ
word_at bytes at = slice_index bytes at + 256 * slice_index bytes (at + 1)

-- the two bytes of a number
abbrev pub word : ℕ → List ℕ
word n = n % 256 ∷ n / 256 ∷ []

-- how each kind is numbered
abbrev pub number_of : Kind → ℕ
number_of Head = 1
number_of Core = 2
number_of Task = 3
number_of Need = 4
number_of Slots = 5
number_of End = 6

abbrev pub kind_of : ℕ → Option Kind
kind_of n =
    cond (n == 1) (Some Head)
    (cond (n == 2) (Some Core)
    (cond (n == 3) (Some Task)
    (cond (n == 4) (Some Need)
    (cond (n == 5) (Some Slots)
    (cond (n == 6) (Some End) None)))))

-- the length told at `at`: none where the file is too short to tell it, where it has no room for a kind, or where the file ends before it
abbrev pub length_at : List ℕ → ℕ → Option ℕ
length_at file at =
    cond (nat_lt (length file - at) 2) None
    (cond (nat_lt (word_at file at) 2) None
    (cond (nat_lt (length file - at - 2) (word_at file at)) None
    (Some (word_at file at))))

-- the bytes of a record
abbrev pub record_bytes : Kind → List ℕ → List ℕ
record_bytes kind body = word (2 + length body) ++ (word (number_of kind) ++ body)
