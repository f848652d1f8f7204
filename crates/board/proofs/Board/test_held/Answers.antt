use Rattle.std.proofs.Common.{◌≤◌, Err, sym, ap, ◌∙◌, arith}
use Rattle.fairness.proofs.Sums.{sum-at}
use Rattle.board.specs.Meaning.{Meaning, given_at}
use Rattle.board.specs.Outcomes.{answered}
use Rattle.board.proofs.Changes.{refused_full, done_held}
use Rattle.board.proofs.Board.test_held.Goals as goal

pub overflow_sub-others : goal.overflow_sub-others
overflow_sub-others g c =
    let m : Meaning = g.Self.Board.build.meaning c.args.self.now in
    omega (arith, sum-at m.tasks c.args.task (λ t. m.held t c.args.core) (omega arith))

pub returns-then-others-held : goal.returns-then-others-held
returns-then-others-held g c =
    let m : Meaning = g.Self.Board.build.meaning c.args.self.now in
    let part : m.held c.args.task c.args.core ≤ given_at m c.args.core = sum-at m.tasks c.args.task (λ t. m.held t c.args.core) (omega arith) in
    ap Err c.at-then-others-held.ensures ∙ sym (ap answered (refused_full m c.args.task c.args.core c.args.held (omega arith) (omega arith) (omega arith) (omega arith)))

pub returns : goal.returns
returns g c =
    let m : Meaning = g.Self.Board.build.meaning c.args.self.now in
    let part : m.held c.args.task c.args.core ≤ given_at m c.args.core = sum-at m.tasks c.args.task (λ t. m.held t c.args.core) (omega arith) in
    sym (ap answered (done_held m c.args.task c.args.core c.args.held (omega arith) (omega arith) (omega arith) (omega arith)))
