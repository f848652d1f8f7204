use Rattle.std.proofs.Common.{◌≡◌, ℕ, ◌<◌, length, sym, refl, ap, ◌∙◌, subst, arith, rules}
use Rattle.std.proofs.lemmas.List.Sums.{fold_more}
use Rattle.levelling.specs.Levelled.{FairestOn}
use Rattle.calls.specs.declared.Call.TheVariants.{SetNeed}
use Rattle.calls.specs.declared.Phase.{Phase}
use Rattle.calls.specs.declared.Phase.TheVariants.{Working}
use Rattle.changes.specs.Standing.{Standing}
use Rattle.calls.specs.Turns.{call_at, phase_after}
use Rattle.plan.specs.Runs.{RanTo}
use Rattle.plan.specs.States.{lent_of}
use Rattle.plan.proofs.Playing.{ran-none, ran-more, ran-since, notes-more}
use Rattle.plan.proofs.runs.play.Goals as goal

pub loop-place-init : goal.loop-place-init
loop-place-init g c =
    let b = g.B.Board in
    let board = c.make.result.board.now in
    let made = c.make.ensures.planned in
    let P : g.row.R.Denot → Type 0 = λ z. Standing b.build (g.R.Rule.order z) board in
    let standing = subst P (sym c.make.ensures.rule) made.standing in (
      standing,
      b.build.keeping.same board,
      refl,
      refl,
      refl,
      ran-none (g.R.Rule.order c.make.result.rule) (b.build.meaning board) c.args.calls.now c.args.notes.now standing.good.sound standing.fairest,
      record { long = refl; rest = λ k h. refl },
    )

pub loop-place-preserved : goal.loop-place-preserved
loop-place-preserved g c =
    let b = g.B.Board in
    let calls = c.args.calls.now in
    let place = c.loop-place.place in
    let inv = c.loop-place.invariant in
    let step = c.step-next.ensures in
    let first = c.make.result.board.now in
    let board = (lent_of c.step-next.result.0).now in
    let P : g.row.R.Denot → Type 0 = λ z. Standing b.build (g.R.Rule.order z) board in
    let Q : g.row.R.Denot → Type 0 = λ z. FairestOn (g.R.Rule.order z) (b.build.meaning board) in
    let room : place < length c.loop-place.notes = omega (arith, c.loop-place-test.true, c.loop-place.auto.notes, c.requires.room) in (
      subst P (sym step.rule) step.replanned.standing,
      b.build.keeping.onward _ _ _ inv.1 step.replanned.keeps,
      step.rule ∙ inv.2,
      step.phase ∙ (ap (λ (z : Phase). phase_after z (call_at calls place)) inv.3 ∙ sym (fold_more phase_after Working calls place (SetNeed 0 0 0) c.loop-place-test.true)),
      step.lent ∙ inv.4,
      ran-more (g.R.Rule.order c.make.result.rule) (b.build.meaning first) calls place c.loop-place.notes (b.build.meaning (lent_of c.loop-place.state).now) (b.build.meaning board) _
          c.loop-place-test.true room inv.5 step.replanned.told step.replanned.order step.replanned.standing.good.sound (subst Q inv.2 step.replanned.standing.fairest) c.totals-totals.ensures,
      notes-more place c.args.notes.now c.loop-place.notes _ inv.6,
    )

moved : {X : Type 0} (P : X → Type 0) (v w : X) → v ≡ w → P w → P v
moved P v w e h = subst P (sym e) h

pub returns-clause-ran : goal.returns-clause-ran
returns-clause-ran g c =
    let b = g.B.Board in
    let calls = c.args.calls.now in
    let place = c.loop-place.place in
    let inv = c.loop-place.invariant in
    let made = c.make.ensures.planned in
    let last = (lent_of c.loop-place.state).now in
    let m = b.build.meaning c.args.board.now in
    let all : place ≡ length calls = omega (arith, c.loop-place-test.false, c.loop-place.auto.place-end) in
    let P : g.row.R.Denot → Type 0 = λ z. RanTo (g.R.Rule.order z) m calls place c.loop-place.notes (b.build.meaning last) in
    let ran = subst P c.make.ensures.rule (ran-since (g.R.Rule.order c.make.result.rule) m (b.build.meaning c.make.result.board.now) calls place c.loop-place.notes (b.build.meaning last) made.order inv.5) in
    let Q : ℕ → Type 0 = λ z. RanTo (g.R.Rule.order c.args.rule) m calls z c.loop-place.notes (b.build.meaning last) in
    moved (λ x. RanTo (g.R.Rule.order c.args.rule) m calls (length calls) c.loop-place.notes (b.build.meaning x)) _ last (search rules) (subst Q all ran)
