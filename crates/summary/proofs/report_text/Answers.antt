use Rattle.std.proofs.Common.{◌≡◌, ◌≤◌, ◌+◌, ◌++◌, length, ap, ◌∙◌, arith}
use Rattle.std.proofs.lemmas.List.{length-take}
use Rattle.tasks.specs.Table.{rows}
use Rattle.tasks.proofs.Steps.{rows_few}
use Rattle.summary.specs.Lines.{task_lines, free_line, slots_of}
use Rattle.summary.proofs.Totals.{first-totals}
use Rattle.summary.proofs.report_text.Goals as goal

pub returns : goal.returns
returns c =
    let rs = rows c.args.tasks.now in
    let totals = c.args.totals.now in
    let few : c.len-count.result ≤ length totals = omega (arith, rows_few c.args.tasks.now) in
    let all : c.loop-task.task ≡ length rs = omega (arith, length-take c.len-count.result totals) in
    let slots : c.all_slots-slots.result ≡ slots_of totals (length rs) c.args.free =
    c.all_slots-slots.ensures ∙ (ap (λ held. c.args.free + held) (first-totals totals c.len-count.result few) ∙ ap (λ n. slots_of totals n c.args.free) c.len-count.ensures) in
    c.in_ok-put_free_line.ensures ∙ (ap (λ x. x ++ free_line c.args.free) c.loop-task.invariant
    ∙ (ap (λ n. task_lines rs totals c.all_slots-slots.result n ++ free_line c.args.free) all ∙ ap (λ n. task_lines rs totals n (length rs) ++ free_line c.args.free) slots))
