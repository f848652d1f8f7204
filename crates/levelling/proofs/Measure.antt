-- A number that falls with each improvement, and what holds when none is left.
use Rattle.std.proofs.Common.{ℕ, ◌<◌, sym, subst, arith}
use Rattle.fairness.specs.Laws.{Comparison, Lawful}
use Rattle.fairness.specs.Settled.{Settled}
use Rattle.fairness.proofs.Sums.{sum-at}
use Rattle.fairness.proofs.Rules.{on-board-laws}
use Rattle.fairness.proofs.Levels.{cmp, fairer-on}
use Rattle.fairness.proofs.Boards.{capped-whole}
use Rattle.fairness.proofs.Pot.{pot, pot-falls}
use Rattle.fairness.proofs.Settled.{height}
use Rattle.fairness.proofs.Theorems.{settled-is-fairest}
use Rattle.board.specs.Meaning.{Meaning, Sound, planned, total_of, whole_need_of}
use Rattle.levelling.specs.Levelled.{Better, FairestOn}
use Rattle.levelling.proofs.Boards.{feasible, countable}

abbrev pub unfairness : Comparison → Meaning → ℕ
unfairness compare m = pot (cmp compare m.tasks m.cores m.need) m.tasks (height m.tasks (whole_need_of m)) (total_of m)

low : (m : Meaning) → Sound m → (task : ℕ) → task < m.tasks → total_of m task < height m.tasks (whole_need_of m)
low m so task l = omega (arith, capped-whole m.tasks m.cores m.need m.capacity m.held (feasible m so) task l, sum-at m.tasks task (whole_need_of m) l)

pub better-falls : (compare : Comparison) → Lawful compare → (m n : Meaning) → Sound m → Sound n → Better compare m n → unfairness compare n < unfairness compare m
better-falls compare lawful m n sm sn b =
    let k : Meaning = planned m n.held in
    let sk : Sound k = subst Sound b.same_order sn in
    let P : Meaning → Type 0 = λ z. unfairness compare z < unfairness compare m in
    subst P (sym b.same_order)
    (pot-falls (cmp compare m.tasks m.cores m.need) (on-board-laws compare (whole_need_of m) lawful) m.tasks (height m.tasks (whole_need_of m)) (total_of k) (total_of m) (low k sk) (low m sm)
    (fairer-on compare m.tasks m.cores m.need n.held m.held b.fairer))

pub stands-fairest : (compare : Comparison) → Lawful compare → (m : Meaning) → Sound m → Settled compare m.tasks m.cores m.need m.capacity m.held → FairestOn compare m
stands-fairest compare lawful m so settled = settled-is-fairest compare lawful m.tasks m.cores m.need m.capacity (countable m so) m.held (feasible m so) settled
