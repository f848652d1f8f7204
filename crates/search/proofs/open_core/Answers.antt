use Rattle.std.proofs.Common.{◌+◌, ◌<◌, ◌≤◌, sym, ◌∙◌, subst, inl, inr, arith}
use Rattle.board.specs.Meaning.{Meaning}
use Rattle.search.specs.declared.Search.{Search}
use Rattle.search.proofs.Trails.{reach-room, enter-room}
use Rattle.search.proofs.Openings.{Holders, holders-none, holders-reach, holders-skip, holders-all}
use Rattle.search.proofs.open_core.Goals as goal
use Rattle.search.proofs.open_core.Goals.{then-not-search-task+then-held-gt0, else-not-search-task, else-not-search-task-via-then-not-search-task+else-held-gt0, else-not-search-task-via-else-not-search-task}

pub enter-requires : goal.enter-requires
enter-requires g c =
    let m : Meaning = g.B.Board.build.meaning c.args.board.now in
    let r = c.requires.start in
    let so = c.requires.good.sound in
    (omega (arith, enter-room m c.args.search.now c.args.place c.args.core r.trail r.here r.real so.few_cores r.shut), omega (arith, r.real, so.few_cores))

pub loop-task-init : goal.loop-task-init
loop-task-init g c =
    let m : Meaning = g.B.Board.build.meaning c.args.board.now in
    let P : Search → Type 0 = λ s. Holders m s s c.args.core c.len-opening.result 0 in
    subst P (sym c.enter.ensures) (holders-none m c.args.search.now c.args.place c.args.core _ c.requires.good.sound c.requires.start c.len-opening.ensures.value)

pub reach-requires : goal.reach-requires
reach-requires g c =
    let m : Meaning = g.B.Board.build.meaning c.args.board.now in
    let h = c.loop-task.invariant in
    let so = c.requires.good.sound in
    let kn : c.loop-task.task < m.tasks = omega arith in
    let few : m.tasks ≤ 64 = so.few_tasks in
    (omega (arith, reach-room m c.loop-task.search c.loop-task.task c.len-opening.result h.trail kn few c.if-not-search-task.true h.last), omega arith)

pub loop-task-preserved : goal.loop-task-preserved
loop-task-preserved g c =
    let m : Meaning = g.B.Board.build.meaning c.args.board.now in
    let s : Search = c.enter.new.self in
    let t : Search = c.loop-task.search in
    let j = c.args.core in
    let o = c.len-opening.result in
    let k = c.loop-task.task in
    let kn : k < m.tasks = omega arith in
    let P : Search → Type 0 = λ u. Holders m s u j o (k + 1) in
    elim c.if-not-search-task.branch [
      | then-not-search-task+then-held-gt0 w ↦
          subst P (sym (w.search-is ∙ w.reach.ensures)) (holders-reach m s t j o k c.requires.good.sound c.loop-task.invariant kn w.if-not-search-task.true (omega (arith, w.if-held-gt0.true, w.held.ensures)))
      | else-not-search-task w ↦
          subst P (sym w.search-is) (holders-skip m s t j o k c.requires.good.sound c.loop-task.invariant kn (elim w.else-not-search-task.branch [
            | else-not-search-task-via-then-not-search-task+else-held-gt0 w' ↦ inr (omega (arith, w'.if-held-gt0.false, w'.held.ensures))
            | else-not-search-task-via-else-not-search-task w' ↦ inl w'.if-not-search-task.false
          ]))
    ]

pub returns : goal.returns
returns g c =
    holders-all (g.B.Board.build.meaning c.args.board.now) c.args.search.now c.enter.new.self c.loop-task.search c.args.place c.args.core c.len-opening.result c.loop-task.task
    c.requires.good.sound c.requires.start c.enter.ensures c.loop-task.invariant (omega arith)
