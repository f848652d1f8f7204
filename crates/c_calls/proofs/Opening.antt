-- A table board serves for a file as the report's pair board does: both have room for all that an order can say.
use Rattle.std.proofs.Common.{◌≡◌, ℕ, ◌+◌, ◌*◌, ◌≤◌, min, Bool, true, false, cond, ◌&&◌, leb, List, Ok, Err, sym, refl, ap, ◌∙◌, mul-le-mul_right, arith}
use Rattle.std.proofs.lemmas.Bool.Decides.{nat_tests}
use Rattle.board.specs.declared.fault.Fault.{Fault}
use Rattle.board.specs.Meaning.{Meaning, new_board, most_slots, sizes_allowed}
use Rattle.table_board.specs.Cells.{table_fits}
use Rattle.tasks.specs.Rows.{Row}
use Rattle.orderfile.specs.Sizes.{sizes_of}
use Rattle.orders.specs.Steps.{then}
use Rattle.orders.specs.Reads.{Outcome, read_of, letter_of, board_of, rows_of}
use Rattle.reporting.specs.Reports.{board_for, outcome_of}

abbrev table_for : ℕ → ℕ → ℕ → Meaning
table_for n m long = cond (table_fits n m long) (new_board n m (n * m) most_slots) (new_board 0 0 0 most_slots)

same-board : (n m : ℕ) (allowed : Bool) → sizes_allowed n m ≡ allowed → table_for n m 2064 ≡ board_for n m
same-board n m true allow =
    let few_tasks : n ≤ 64 = grind (arith, nat_tests) in
    let few_cores : m ≤ 16 = grind (arith, nat_tests) in
    let few : n * m ≤ 1024 = omega (arith, mul-le-mul_right m few_tasks) in
    let table : table_fits n m 2064 ≡ true = grind (arith, nat_tests) in
    let pairs : min 1024 (n * m) ≡ n * m = omega arith in
    ap (λ b. cond b (new_board n m (n * m) most_slots) (new_board 0 0 0 most_slots)) table
    ∙ sym (ap (λ b. cond (b && leb 1 1024) (new_board n m (min 1024 (n * m)) most_slots) (new_board 0 0 0 most_slots)) allow ∙ ap (λ z. new_board n m z most_slots) pairs)
same-board n m false refused =
    ap (λ b. cond (b && leb (2 * (n * m) + m) 2064) (new_board n m (n * m) most_slots) (new_board 0 0 0 most_slots)) refused
    ∙ sym (ap (λ b. cond (b && leb 1 1024) (new_board n m (min 1024 (n * m)) most_slots) (new_board 0 0 0 most_slots)) refused)

-- the sizes were told and the board was made, so the file gives what it gives on that board
pub outcome-is : (file : List ℕ) (told : ℕ × ℕ × ℕ) (m : Meaning) (long : ℕ) → Ok told ≡ sizes_of file → long ≡ 2064
    → m ≡ table_for told.1 told.2 long → outcome_of file ≡ read_of m file
outcome-is file told m long sized all made =
    let e : m ≡ board_for told.1 told.2 = made ∙ ap (table_for told.1 told.2) all ∙ same-board told.1 told.2 (sizes_allowed told.1 told.2) refl in
    ap (λ r. then r (λ (t : ℕ × ℕ × ℕ). read_of (board_for t.1 t.2) file)) (sym sized) ∙ ap (λ z. read_of z file) (sym e)

-- a letter was answered, so the file gave an order: this board and these rows
pub order_is : (outcome : Outcome) (old now : Meaning) (rows : List Row) (letter : ℕ) → Ok letter ≡ letter_of outcome → now ≡ board_of old outcome → rows ≡ rows_of outcome
    → outcome ≡ Ok (record { letter = letter; board = now; rows = rows })
order_is (Ok order) old now rows letter told left listed =
    let same : letter ≡ order.letter = cc in
    λ i. Ok (record { letter = sym same i; board = sym left i; rows = sym listed i })
order_is (Err fault) old now rows letter told left listed = cc

-- a fault was answered, so that is what the file came to
pub fault_is : (outcome : Outcome) (fault : Fault) → Err fault ≡ letter_of outcome → outcome ≡ Err fault
fault_is (Ok order) fault told = cc
fault_is (Err other) fault told = cc
