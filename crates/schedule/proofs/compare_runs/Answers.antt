use Rattle.schedule.proofs.Ends.{played, ends-fairest, fairest-alike}
use Rattle.schedule.proofs.compare_runs.Goals as goal

pub returns : goal.returns
returns g c =
    let one = c.run_and_judge-first.ensures in
    let two = c.run_and_judge-second.ensures in
    record {
      first = one;
      second = two;
      alike = λ p q same.
          let ran_one = played g.A.Board.build.meaning (g.R.Rule.order c.args.rule) _ _ _ _ _ _ one.told p in
          let ran_two = played g.B.Board.build.meaning (g.R.Rule.order c.args.rule) _ _ _ _ _ _ two.told q in
          fairest-alike (g.R.Rule.order c.args.rule) (g.R.Rule.lawful c.args.rule) _ _ one.went.good.sound two.went.good.sound
          (ends-fairest _ _ _ _ _ ran_one.ran) (ends-fairest _ _ _ _ _ ran_two.ran) same;
    }
