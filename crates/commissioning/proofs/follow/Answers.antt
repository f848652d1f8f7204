use Rattle.std.proofs.Common.{sym, subst, rules}
use Rattle.changes.specs.Standing.{Standing}
use Rattle.plan.specs.States.{lent_of, rule_of, phase_of}
use Rattle.commissioning.proofs.Standing.{attempt-stands}
use Rattle.commissioning.proofs.follow.Goals as goal

pub returns-in-Some-Play : goal.returns-in-Some-Play
returns-in-Some-Play g c =
    let b = g.B.Board in
    let order = g.R.Rule.order in
    let state = c.args.state in
    let next = c.attempt-next.result.0 in
    let told = c.attempt-next.ensures in
    let P : g.row.R.Denot → Type 0 = λ rule. Standing b.build (order rule) (lent_of next).now in
    record {
      lent = told.lent;
      rule = told.rule;
      standing = subst P (sym told.rule) (attempt-stands b.build (order (rule_of state)) (lent_of state).now (lent_of next).now (phase_of state) (phase_of next) _ _ told.attempted c.requires);
      followed = search rules;
    }
