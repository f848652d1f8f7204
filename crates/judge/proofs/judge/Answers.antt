use Rattle.std.proofs.Common.{refl, arith}
use Rattle.board.specs.Meaning.{Meaning}
use Rattle.judge.proofs.Verdicts.{passed, free, shown}
use Rattle.judge.proofs.judge.Goals as goal

pub returns-in-Some : goal.returns-in-Some
returns-in-Some g c =
    let m : Meaning = g.B.Board.build.meaning c.args.board.now in
    record {
      room = omega (arith, c.if-route-lt-MOST_CORES.false);
      holds = free (g.R.Rule.order c.args.rule) (g.R.Rule.lawful c.args.rule) m c.requires.sound c.args.route.now c.args.route.now c.in-Some.field-0 c.in-Some.ensures refl;
    }

pub returns-in_default-find_route : goal.returns-in_default-find_route
returns-in_default-find_route g c =
    let m : Meaning = g.B.Board.build.meaning c.args.board.now in
    record {
      room = omega (arith, c.if-route-lt-MOST_CORES.false);
      holds = passed (g.R.Rule.order c.args.rule) (g.R.Rule.lawful c.args.rule) m c.requires.sound c.args.route.now c.find_route.new.steps c.in_default.ensures c.in_default-find_route.ensures;
    }

pub returns : goal.returns
returns g c =
    let m : Meaning = g.B.Board.build.meaning c.args.board.now in
    record {
      room = omega (arith, c.if-route-lt-MOST_CORES.false);
      holds = shown (g.R.Rule.order c.args.rule) (g.R.Rule.lawful c.args.rule) m c.requires.sound c.args.route.now c.find_route.new.steps c.in-Some-find_route.field-0 c.in-Some-find_route.ensures
          c.in_default.ensures;
    }
