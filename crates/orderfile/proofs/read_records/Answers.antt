use Rattle.std.proofs.Common.{◌+◌, Err, sym, refl, ap, ◌∙◌, subst}
use Rattle.std.proofs.lemmas.Result.{err_from_is_err_and}
use Rattle.tasks.specs.Table.{rows}
use Rattle.records.specs.Cuts.{plain, walk_of}
use Rattle.sections.specs.Turns.{start}
use Rattle.orders.specs.Steps.{reading}
use Rattle.orders.specs.Reads.{run_from}
use Rattle.orderfile.proofs.Loop.{Sofar, begin, more, onward, refused-told, ends-refused}
use Rattle.orderfile.proofs.read_records.Goals as goal

pub loop-records-init : goal.loop-records-init
loop-records-init g c =
    let b = g.B.Board in (
      record { frame = refl; good = c.requires; keeps = b.build.keeping.same c.args.board.now },
      begin (b.build.meaning c.args.board.now) (rows c.args.tasks.now) c.args.file.now (walk_of c.in_ok-records.records) c.new-reader.result c.in_ok-records.ensures
          (c.new-reader.ensures ∙ (λ i. start (c.tasks.ensures i) (c.cores.ensures i))),
    )

pub loop-records-preserved : goal.loop-records-preserved
loop-records-preserved g c =
    let b = g.B.Board in
    let at = c.loop-records in
    let whole = run_from (b.build.meaning c.args.board.now) (rows c.args.tasks.now) c.args.file.now in
    let s = reading at.reader at.seen (b.build.meaning at.board) (rows at.tasks) in
    let t = reading c.take.new.reader (at.seen + 1) (b.build.meaning c.take.new.board) (rows c.take.new.tasks) in
    let cut = plain c.in_ok-found.found in
    let walked = c.in_ok-found.ensures in
    let taken = c.take.ensures in
    let next = more whole s at.records.file.now at.records.at cut c.take.new.reader (b.build.meaning c.take.new.board) (rows c.take.new.tasks) at.invariant.1
    (sym c.loop-records-test.ensures) (sym walked.answer) (sym c.in_ok-take.ensures.told) in (
      onward b.build c.args.board.now at.board c.take.new.board at.invariant.0 (record { frame = taken.frame; good = taken.good; keeps = taken.keeps }),
      subst (λ f. Sofar whole t f c.next.new.self.at) (sym walked.file) (subst (λ n. Sofar whole t at.records.file.now n) (sym walked.at) next),
    )

pub returns-in_err-take : goal.returns-in_err-take
returns-in_err-take g c =
    let b = g.B.Board in
    let at = c.loop-records in
    let whole = run_from (b.build.meaning c.args.board.now) (rows c.args.tasks.now) c.args.file.now in
    let s = reading at.reader at.seen (b.build.meaning at.board) (rows at.tasks) in
    let cut = plain c.in_ok-found.found in
    let left = err_from_is_err_and c.from_residual-in_err-take.result c.from_residual-in_err-take.ensures.1 in
    let fault = c.in_err-take.field-0.0 in
    let taken = c.take.ensures in
    let on = onward b.build c.args.board.now at.board c.take.new.board at.invariant.0 (record { frame = taken.frame; good = taken.good; keeps = taken.keeps }) in
    record {
      told = refused-told c.from_residual-in_err-take.result (b.build.meaning c.take.new.board) (rows c.take.new.tasks) whole fault (left.1 ∙ ap (λ x. Err x) left.2)
          (ends-refused whole s at.records.file.now at.records.at cut fault at.invariant.1 (sym c.loop-records-test.ensures) c.in_ok-found.ensures.answer c.in_err-take.ensures.told);
      frame = on.frame;
      good = on.good;
      keeps = on.keeps;
    }
