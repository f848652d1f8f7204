-- Lines that are taken in, whatever their places and however many stand before them.
use Rattle.std.proofs.Common.{◌≡◌, ℕ, ◌+◌, List, [], ◌∷◌, ◌++◌, length, Ok, Err, Result, sym, refl, ap, ◌∙◌, add-zero, arith, length-append}
use Rattle.board.specs.declared.fault.Fault.{Fault}
use Rattle.board.specs.Meaning.{Meaning}
use Rattle.tasks.specs.Rows.{Row}
use Rattle.records.specs.Cuts.{Cut}
use Rattle.sections.specs.declared.state.Reader.{Reader}
use Rattle.sections.specs.Lines.{Said, line_of, line_left}
use Rattle.orders.specs.Encoding.{Line}
use Rattle.orders.specs.Steps.{then, Reading, reading, told_by, board_by, rows_by, step_done, step_said, step}
use Rattle.orders.proofs.Lines.{cut_of, folded, folded-step}

-- where the bytes of some lines end
abbrev pub past : ℕ → List Line → ℕ
past at [] = at
past at (line ∷ lines) = past (at + 4 + length line.body) lines

pub folded-join : (s : Reading) (at : ℕ) (xs ys : List Line) → folded s at (xs ++ ys) ≡ then (folded s at xs) (λ t. folded t (past at xs) ys)
folded-join s at [] ys = refl
folded-join s at (x ∷ xs) ys =
    let next = at + 4 + length x.body in
    let rest : (t : Reading) → folded t next (xs ++ ys) ≡ then (folded t next xs) (λ u. folded u (past next xs) ys) = λ t. folded-join t next xs ys in
    go next rest (step s (cut_of x at))
  where
    go : (next : ℕ) → ((t : Reading) → folded t next (xs ++ ys) ≡ then (folded t next xs) (λ u. folded u (past next xs) ys)) → (r : Result Reading Fault) → then r (λ t. folded t next (xs ++ ys)) ≡ then (then r (λ t. folded t next xs)) (λ u. folded u (past next xs) ys)
    go next rest (Ok t) = rest t
    go next rest (Err fault) = refl

-- all that is known but the number of records read
abbrev pub State : Type 0
State = ℕ → Reading

abbrev pub state : Reader → Meaning → List Row → State
state reader board rows seen = reading reader seen board rows

-- the lines lead from one state to another
abbrev pub Takes : State → List Line → State → Type 0
Takes s lines t = (seen at : ℕ) → folded (s seen) at lines ≡ Ok (t (seen + length lines))

pub takes_none-stays : (s : State) → Takes s [] s
takes_none-stays s seen at = ap (λ n. Ok (s n)) (sym (add-zero seen))

pub takes-line : (s t : State) (line : Line) → ((seen at : ℕ) → step (s seen) (cut_of line at) ≡ Ok (t (seen + 1))) → Takes s (line ∷ []) t
takes-line s t line one seen at = folded-step (s seen) (t (seen + 1)) at line [] (one seen at)

pub takes-join : (s t u : State) (xs ys : List Line) → Takes s xs t → Takes t ys u → Takes s (xs ++ ys) u
takes-join s t u xs ys first second seen at =
    let count : seen + length xs + length ys ≡ seen + length (xs ++ ys) = omega (arith, length-append xs ys) in
    folded-join (s seen) at xs ys ∙ ap (λ r. then r (λ v. folded v (past at xs) ys)) (first seen at)
    ∙ second (seen + length xs) (past at xs) ∙ ap (λ n. Ok (u n)) count

-- a record that is read and that neither the board nor the table refuses
pub step-done : (r : Reader) (b : Meaning) (rows : List Row) (r' : Reader) (b' : Meaning) (rows' : List Row) (seen : ℕ) (cut : Cut) (said : Said)
    → line_of r seen cut ≡ Ok said → line_left r seen cut ≡ r' → told_by said b rows ≡ Ok tt → board_by said b ≡ b' → rows_by said rows ≡ rows'
    → step (reading r seen b rows) cut ≡ Ok (reading r' (seen + 1) b' rows')
step-done r b rows r' b' rows' seen cut said says leaves told boards tables =
    let s = reading r seen b rows in
    let next = reading (line_left r seen cut) (seen + 1) (board_by said b) (rows_by said rows) in
    ap (step_said s cut) says ∙ ap (λ answer. step_done answer cut.place next) told ∙ (λ i. Ok (reading (leaves i) (seen + 1) (boards i) (tables i)))
