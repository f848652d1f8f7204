use Rattle.std.proofs.Common.{◌≡◌, ℕ, ap, arith}
use Rattle.fairness.specs.Sums.{sum_to}
use Rattle.fairness.proofs.Sums.{sum_more}
use Rattle.board.specs.Meaning.{Meaning, needed}
use Rattle.board.proofs.Bounds.{needed-one, needed-none}
use Rattle.board.proofs.Board.pair_count.Goals as goal
use Rattle.board.proofs.Board.pair_count.Goals.{then-need-gt0, else-need-gt0}

pub loop-core-preserved : goal.loop-core-preserved
loop-core-preserved g c =
    let m : Meaning = g.Self.Board.build.meaning c.args.self.now in
    let task : ℕ = c.loop-task.task in
    let core : ℕ = c.loop-core.core in
    let more = sum_more core (λ k. needed (m.need task k)) in
    let e : c.need.result ≡ m.need task core = c.need.ensures in
    elim c.if-need-gt0.branch [
      | then-need-gt0 w ↦ (let one : needed (m.need task core) ≡ 1 = needed-one (m.need task core) (omega (arith, w.if-need-gt0.true)) in (omega (arith, w.count-is, more), omega (arith, w.count-is)))
      | else-need-gt0 w ↦ (let none : needed (m.need task core) ≡ 0 = needed-none (m.need task core) (omega (arith, w.if-need-gt0.false)) in (omega (arith, w.count-is, more), omega (arith, w.count-is)))
    ]

pub loop-task-preserved : goal.loop-task-preserved
loop-task-preserved g c =
    let m : Meaning = g.Self.Board.build.meaning c.args.self.now in
    let task : ℕ = c.loop-task.task in
    let more = sum_more task (λ t. sum_to m.cores (λ k. needed (m.need t k))) in
    let all : c.loop-core.core ≡ m.cores = omega arith in
    let row : sum_to c.loop-core.core (λ k. needed (m.need task k)) ≡ sum_to m.cores (λ k. needed (m.need task k)) = ap (λ n. sum_to n (λ k. needed (m.need task k))) all in
    (omega (arith, more, row), omega (arith, c.requires.sound.few_cores))
