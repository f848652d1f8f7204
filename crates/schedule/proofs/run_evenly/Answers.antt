use Rattle.fairness.specs.Even.{even}
use Rattle.schedule.proofs.Ends.{played, ran-evenly}
use Rattle.schedule.proofs.run_evenly.Goals as goal

pub returns : goal.returns
returns g c = record {
  went = c.run.ensures.went;
  told = c.run.ensures.told;
  fair = λ accepted. ran-evenly _ _ _ _ (played g.B.Board.build.meaning even _ _ _ _ _ _ c.run.ensures.told accepted).ran;
}
