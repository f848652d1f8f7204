use Rattle.tasks.proofs.Steps.{passed, grown}
use Rattle.tasks.proofs.table.TaskTable.push.Goals as goal

pub invariant_of-self : goal.invariant_of-self
invariant_of-self c =
    let old = c.args.self.now in
    let took = passed c.next.result c.map_err.result _ c.in_ok-next.next c.map_err.ensures.cases c.in_ok-next.was in
    let t = grown old.entries c.fill.new.self old.count c.args.task c.args.weight c.args.name.now c.next.result c.in_ok-next.next old.size old.room old.sound c.next.ensures took c.fill.ensures in
    record { size = t.size; room = t.room; sound = t.sound }

pub returns-clause-left : goal.returns-clause-left
returns-clause-left c =
    let old = c.args.self.now in
    let took = passed c.next.result c.map_err.result _ c.in_ok-next.next c.map_err.ensures.cases c.in_ok-next.was in
    let t = grown old.entries c.fill.new.self old.count c.args.task c.args.weight c.args.name.now c.next.result c.in_ok-next.next old.size old.room old.sound c.next.ensures took c.fill.ensures in
    t.left
