-- One record more, by what the sections say of it and what the board or the table answers.
use Rattle.std.proofs.Common.{◌≡◌, ℕ, ◌+◌, Ok, Err, Result, sym, ap, ◌∙◌, arith}
use Rattle.std.specs.Result.{MatchResult, IsErrAnd}
use Rattle.board.specs.declared.fault.Fault.{Fault}
use Rattle.board.specs.declared.fault.Refusal.{Refusal}
use Rattle.board.specs.Refusals.{fault_at}
use Rattle.records.specs.Cuts.{Cut}
use Rattle.sections.specs.declared.state.Line.{Line}
use Rattle.sections.specs.Lines.{Said, said_of, line_of, line_left}
use Rattle.orders.specs.Steps.{Reading, reading, told_by, board_by, rows_by, step, step_said, step_done}
use Rattle.orderfile.specs.Steps.{took}

abbrev pub next_by : Reading → Cut → Said → Reading
next_by s cut said = reading (line_left s.reader s.seen cut) (s.seen + 1) (board_by said s.board) (rows_by said s.rows)

refused-late : (s : Reading) (cut : Cut) (said : Said) (fault : Fault) → Ok said ≡ line_of s.reader s.seen cut → Err fault ≡ told_by said s.board s.rows → Err (fault_at fault.refusal cut.place) ≡ step s cut
refused-late s cut said fault e t = ap (λ r. step_done r cut.place (next_by s cut said)) t ∙ ap (step_said s cut) e

accepted : (s : Reading) (cut : Cut) (said : Said) → Ok said ≡ line_of s.reader s.seen cut → Ok tt ≡ told_by said s.board s.rows → Ok (next_by s cut said) ≡ step s cut
accepted s cut said e t = ap (λ r. step_done r cut.place (next_by s cut said)) t ∙ ap (step_said s cut) e

-- the sections refuse the record
pub refused-early : (s : Reading) (cut : Cut) (r : Result Line Refusal) (placed : Result Line Fault) (answer : Result (Unit {0}) Fault) (fault : Fault) (next : Reading) → said_of r ≡ line_of s.reader s.seen cut → MatchResult r (λ line. placed ≡ Ok line) (λ why. IsErrAnd placed (λ f. f ≡ fault_at why cut.place)) → placed ≡ Err fault → answer ≡ Err fault → took answer next ≡ step s cut
refused-early s cut (Ok line) placed answer fault next e h p a = let f = sym h ∙ p in let z : ◌≡◌ {A = ℕ} 0 1 = cc in absurd (omega arith)
refused-early s cut (Err why) (Ok line) answer fault next e h p a = absurd h
refused-early s cut (Err why) (Err placed) answer fault next e h p a =
    let same : ◌≡◌ {A = Result Reading Fault} (Err fault) (Err placed) = cc in
    ap (λ r. took r next) a ∙ same ∙ ap (λ f. Err f) h ∙ ap (step_said s cut) e

-- the board or the table has its say
pub taken : (s : Reading) (cut : Cut) (said : Said) (r answer : Result (Unit {0}) Fault) (next : Reading) → Ok said ≡ line_of s.reader s.seen cut → r ≡ told_by said s.board s.rows → MatchResult r (λ done. answer ≡ Ok done) (λ fault. IsErrAnd answer (λ f. f ≡ fault_at fault.refusal cut.place)) → next ≡ next_by s cut said → took answer next ≡ step s cut
taken s cut said (Ok _) answer next e t h n = ap (λ r. took r next) h ∙ ap (λ x. Ok x) n ∙ accepted s cut said e t
taken s cut said (Err fault) (Ok done) next e t h n = absurd h
taken s cut said (Err fault) (Err placed) next e t h n = ap (λ f. Err f) h ∙ refused-late s cut said fault e t
