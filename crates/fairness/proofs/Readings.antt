-- Both readings of "every lower level" come to the same.
use Rattle.fairness.specs.Plans.{total}
use Rattle.fairness.specs.Readings.{ReadingsAgree}
use Rattle.fairness.proofs.Pot as on
use Rattle.fairness.proofs.Rules.{on-board-laws}
use Rattle.fairness.proofs.Levels.{cmp, fairer-on, fairer-off}

pub readings-agree : ReadingsAgree
readings-agree compare lawful n m need first second =
    let both = on.readings-agree (cmp compare n m need) (on-board-laws compare (total m need) lawful) n (total m first) (total m second) in (
      λ f. fairer-off compare n m need first second
          (both.0 (record { who = f.task; what = f.slots; one = f.known; had = f.had; fewer = f.fewer; lower = f.lower })),
      λ f.
          let g = both.1 (fairer-on compare n m need first second f) in
          record { task = g.who; slots = g.what; known = g.one; had = g.had; fewer = g.fewer; lower = g.lower },
    )
