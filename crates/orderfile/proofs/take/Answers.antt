use Rattle.std.proofs.Common.{◌≡◌, ◌+◌, Ok, Err, sym, refl, ap, ◌∙◌, rules}
use Rattle.std.specs.Result.{MatchResult, IsErrAnd}
use Rattle.std.proofs.lemmas.Result.{err_from_is_err_and}
use Rattle.board.specs.Refusals.{fault_at}
use Rattle.board.specs.Meaning.{cleared}
use Rattle.tasks.specs.Table.{rows}
use Rattle.tasks.proofs.Steps.{passed}
use Rattle.records.specs.Cuts.{plain}
use Rattle.sections.specs.Lines.{said_of, said_by}
use Rattle.orders.specs.Steps.{reading}
use Rattle.orderfile.proofs.Frames.{frame-by}
use Rattle.orderfile.proofs.Turns.{refused-early, taken}
use Rattle.orderfile.proofs.take.Goals as goal

pub returns-in_err-line : goal.returns-in_err-line
returns-in_err-line g c =
    let b = g.B.Board in
    let s = reading c.args.reader.now c.args.seen (b.build.meaning c.args.board.now) (rows c.args.tasks.now) in
    let next = reading c.line.new.self (c.args.seen + 1) (b.build.meaning c.args.board.now) (rows c.args.tasks.now) in
    let cases : MatchResult c.line.result (λ line. c.map_err.result ≡ Ok line) (λ why. IsErrAnd c.map_err.result (λ f. f ≡ fault_at why c.args.found.place)) = search rules in
    let out = err_from_is_err_and c.from_residual.result c.from_residual.ensures.1 in
    record {
      told = refused-early s (plain c.args.found) c.line.result c.map_err.result c.from_residual.result c.in_err-line.field-0.0 next c.line.ensures.told cases c.in_err-line.was (out.1 ∙ ap (λ f. Err f) out.2);
      frame = refl;
      good = c.requires;
      keeps = b.build.keeping.same c.args.board.now;
    }

pub returns : goal.returns
returns g c =
    let b = g.B.Board in
    let s = reading c.args.reader.now c.args.seen (b.build.meaning c.args.board.now) (rows c.args.tasks.now) in
    let next = reading c.line.new.self (c.args.seen + 1) (b.build.meaning c.apply.new.board) (rows c.apply.new.tasks) in
    let said = said_by c.in_ok-line.line in
    let read = passed c.line.result c.map_err.result _ c.in_ok-line.line c.map_err.ensures.cases c.in_ok-line.was in
    let done = c.apply.ensures in
    let cases : MatchResult c.apply.result (λ x. c.map_err-2.result ≡ Ok x) (λ fault. IsErrAnd c.map_err-2.result (λ f. f ≡ fault_at fault.refusal c.args.found.place)) = search rules in
    record {
      told = taken s (plain c.args.found) said c.apply.result c.map_err-2.result next (sym (ap said_of read) ∙ c.line.ensures.told) done.told cases
          (λ i. reading (c.line.ensures.left i) (c.args.seen + 1) (done.left i) (done.listed i));
      frame = ap cleared done.left ∙ frame-by said (b.build.meaning c.args.board.now);
      good = done.good;
      keeps = done.keeps;
    }
