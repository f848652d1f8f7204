-- A plan on a board is a plan for the board's order, and its slots are those of all cores.
use Rattle.std.proofs.Common.{◌≡◌, ℕ, ◌+◌, ◌<◌, ◌≤◌, true, List, length, get_or, sym, ap, ◌∙◌, subst, arith}
use Rattle.fairness.specs.Laws.{Comparison}
use Rattle.fairness.specs.Sums.{sum_to}
use Rattle.fairness.proofs.Sums.{sum-le, sum-eq, sum-add, sum-swap, sum-at}
use Rattle.board.specs.Meaning.{Meaning, Sound, SameOrder, planned, given_at, free_at, total_of, free_slots, most_tasks}
use Rattle.board.proofs.Bounds.{sum_bound, held_small}
use Rattle.tasks.specs.Rows.{Row, sound}
use Rattle.tasks.specs.Table.{name_in}
use Rattle.tasks.proofs.Steps.{sound-name}
use Rattle.levelling.specs.Levelled.{FairestOn}
use Rattle.plan.specs.Plans.{Totals}
use Rattle.summary.specs.Lines.{task_line, slots_of, share_lines, report_lines}
use Rattle.summary.proofs.Widths.{task-width, free-width}
use Rattle.reporting.specs.Reports.{Aligned, Shown, capacities}

-- what the tasks of a fairest plan hold and what is free make up all capacities
pub slots-of-all : (compare : Comparison) (m : Meaning) (totals : List ℕ) → m.tasks ≤ most_tasks → FairestOn compare m → Totals m totals
    → slots_of totals m.tasks (free_slots m) ≡ capacities m
slots-of-all compare m totals few fairest listed =
    let held : sum_to m.tasks (λ task. get_or totals task 0) ≡ sum_to m.cores (given_at m) =
    sum-eq m.tasks _ _ (λ task l. listed.each task (omega (arith, few, l))) ∙ sum-swap m.tasks m.cores m.held in
    let whole : sum_to m.cores (λ core. free_at m core + given_at m core) ≡ capacities m =
    sum-eq m.cores _ _ (λ core l. omega (arith, fairest.feasible.room core l)) in
    ap (λ z. free_slots m + z) held ∙ (sym (sum-add m.cores (free_at m) (given_at m)) ∙ whole)

-- no total and no number of free slots is beyond the greatest, and no total beyond all capacities, so that each stands in its field
total-small : (m : Meaning) → Sound m → (task : ℕ) → total_of m task ≤ 16000
total-small m sound task = omega (arith, sum_bound m.cores (m.held task) 1000 (held_small m sound task), sound.few_cores)

capacities-small : (m : Meaning) → Sound m → capacities m ≤ 16000
capacities-small m sound = omega (arith, sum_bound m.cores m.capacity 1000 (λ core. omega (arith, sound.capped core, sound.low core)), sound.few_cores)

lines-aligned : (compare : Comparison) (m : Meaning) (rows : List Row) (totals : List ℕ) → Sound m → FairestOn compare m → sound rows ≡ true → length rows ≡ m.tasks → Totals m totals → Aligned rows totals (capacities m) (free_slots m)
lines-aligned compare m rows totals fit fairest fine all listed =
    let few = fit.few_tasks in
    let slots = slots-of-all compare m totals few fairest listed in
    let each : (task : ℕ) → task < length rows → length (task_line (name_in rows task) (get_or totals task 0) (capacities m)) ≡ 27 = λ task l.
    let total = listed.each task (omega (arith, few, all, l)) in
    task-width (name_in rows task) (get_or totals task 0) (capacities m) (sound-name rows task fine).0 (omega (arith, total, total-small m fit task))
    (omega (arith, slots, sum-at m.tasks task (λ t. get_or totals t 0) (omega (arith, all, l)))) in
    record {
      tasks = each;
      last = free-width (free_slots m) (omega (arith, sum-le m.cores (free_at m) m.capacity (λ core l. omega arith), capacities-small m fit));
    }

pub plan-shown : (compare : Comparison) (m now : Meaning) (rows : List Row) (totals text : List ℕ) (free : ℕ) → Sound now → sound rows ≡ true → m.tasks ≤ most_tasks → length rows ≡ m.tasks
    → SameOrder m now → FairestOn compare now → Totals now totals → free ≡ free_slots now → text ≡ report_lines rows totals free → Shown compare m rows text
plan-shown compare m now rows totals text free fit fine few all order fairest listed freed reads =
    let P : Meaning → Type 0 = λ z. FairestOn compare z in
    let Q : Meaning → Type 0 = λ z. Totals z totals in
    let shown : Meaning = planned m now.held in
    let printed : text ≡ report_lines rows totals (free_slots shown) = reads ∙ ap (report_lines rows totals) (freed ∙ ap free_slots order) in
    record {
      held = now.held;
      fairest = subst P order fairest;
      totals = totals;
      listed = subst Q order listed;
      reads = printed;
      shares = printed ∙ ap (λ z. share_lines rows totals z (free_slots shown)) (ap (λ n. slots_of totals n (free_slots shown)) all ∙ slots-of-all compare shown totals few (subst P order fairest) (subst Q order listed));
      aligned = lines-aligned compare shown rows totals (subst Sound order fit) (subst P order fairest) fine all (subst Q order listed);
    }
