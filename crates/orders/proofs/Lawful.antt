-- Accepted files are just the encodings of orders that the board can hold.
use Rattle.std.proofs.Common.{◌≡◌, ℕ, suc, ◌<◌, ◌≤◌, ltb, List, [], ◌∷◌, length, Ok, Err, Result, sym, refl, ap, ◌∙◌, subst, arith, length-append}
use Rattle.std.specs.List.{AllByRecursion}
use Rattle.std.proofs.lemmas.Bool.{le-ltb, cond-false}
use Rattle.board.specs.declared.fault.Fault.{Fault}
use Rattle.board.specs.declared.fault.Refusal.TheVariants.{FileTooLong}
use Rattle.board.specs.Refusals.{fault_at}
use Rattle.board.specs.Meaning.{Meaning, Sound, cleared}
use Rattle.records.specs.Wire.{longest_file, record_bytes}
use Rattle.records.specs.Cuts.{open_of}
use Rattle.records.proofs.Framing.{begun}
use Rattle.orders.specs.Encoding.{Line, bytes_of}
use Rattle.orders.specs.Steps.{then, Reading}
use Rattle.orders.specs.Reads.{Order, Outcome, run, before, run_from, order_of, read_of}
use Rattle.orders.specs.Laws.{Valid, encoding, Byte, Lawful, ReadingLawful, EncodingsRead}
use Rattle.orders.proofs.Lines.{then_ok}
use Rattle.orders.proofs.Bytes.{lines-run, run-lines}
use Rattle.orders.proofs.Forward.{all_lines, order-folds}
use Rattle.orders.proofs.Lengths.{encoding-short}
use Rattle.orders.proofs.Backward.{folds-order}

abbrev given : Reading → Order
given t = record { letter = t.reader.letter; board = t.board; rows = t.rows }

lines-short : (lines : List Line) → length lines ≤ length (bytes_of lines)
lines-short [] = omega arith
lines-short (line ∷ lines) = omega (arith, length-append (record_bytes line.kind line.body) (bytes_of lines), lines-short lines)

order-ok : (r : Result Reading Fault) (order : Order) → order_of r ≡ Ok order → (t : Reading) × ((r ≡ Ok t) × (given t ≡ order))
order-ok (Ok t) order e = (t, (refl, cc))
order-ok (Err fault) order e = let z : ◌≡◌ {A = ℕ} 0 1 = cc in absurd (omega arith)

pub encodings-read : EncodingsRead
encodings-read m order valid =
    let file = encoding order in
    let p = order-folds m order valid 0 in
    let short = le-ltb longest_file (length file) (encoding-short m order valid) in
    let enough : length (all_lines order) < suc (length file) = omega (arith, lines-short (all_lines order)) in
    let whole : run (suc (length file)) (before (cleared m) []) file 0 ≡ Ok p.0 = lines-run (all_lines order) (before (cleared m) []) p.0 [] 0 (suc (length file)) refl p.1 p.2 enough in
    ap (λ r. order_of (then r (λ walk. run (suc (length file)) (before (cleared m) []) walk.file walk.at))) (cond-false (ltb longest_file (length file)) (Err (fault_at FileTooLong 0)) (Ok (record { file = file; at = 0 })) short)
    ∙ ap order_of whole
    ∙ p.3

accepted : (m : Meaning) (file : List ℕ) (order : Order) → Sound m → AllByRecursion Byte file → read_of m file ≡ Ok order → Valid m order × (file ≡ encoding order)
accepted m file order sound bytes e =
    let p = order-ok (run_from (cleared m) [] file) order e in
    let q = then_ok (open_of file) (λ walk. run (suc (length file)) (before (cleared m) []) walk.file walk.at) p.0 p.1.0 in
    let b = begun file q.0 q.1 in
    let whole : run (suc (length file)) (before (cleared m) []) file 0 ≡ Ok p.0 = (λ i. run (suc (length file)) (before (cleared m) []) (sym b.0 i) (sym b.1 i)) ∙ q.2 in
    let lined = run-lines (suc (length file)) (before (cleared m) []) p.0 file 0 bytes whole in
    let found = folds-order m sound lined.lines 0 p.0 lined.small lined.taken lined.ended in
    subst (λ x. Valid m x × (file ≡ encoding x)) p.1.1 (found.0, lined.bytes ∙ ap bytes_of found.1)

lawful-by : (m : Meaning) (file : List ℕ) → Sound m → AllByRecursion Byte file → (o : Outcome) → read_of m file ≡ o → Lawful m file o
lawful-by m file sound bytes (Ok order) e = accepted m file order sound bytes e
lawful-by m file sound bytes (Err fault) e = λ order valid same.
    let no : ◌≡◌ {A = Outcome} (Err fault) (Ok order) = sym e ∙ ap (read_of m) same ∙ encodings-read m order valid in
    let z : ◌≡◌ {A = ℕ} 0 1 = cc in
    absurd (omega arith)

pub reading-lawful : ReadingLawful
reading-lawful m file sound bytes = lawful-by m file sound bytes (read_of m file) refl
