use Rattle.std.proofs.Common.{◌+◌, sym, subst, inl, inr, arith}
use Rattle.board.specs.Meaning.{Meaning}
use Rattle.search.specs.declared.Search.{Search}
use Rattle.search.specs.Searches.{Spread}
use Rattle.search.proofs.Spreads.{spread_none, spread-open, spread-skip}
use Rattle.search.proofs.open_wanted.Goals as goal
use Rattle.search.proofs.open_wanted.Goals.{then-not-search-core+then-held-need, else-not-search-core, else-not-search-core-via-then-not-search-core+else-held-need, else-not-search-core-via-else-not-search-core}

pub loop-core-init : goal.loop-core-init
loop-core-init g c = spread_none _ _ _ c.requires.complete c.requires.latest

pub loop-core-preserved : goal.loop-core-preserved
loop-core-preserved g c =
    let m : Meaning = g.B.Board.build.meaning c.args.board.now in
    let s : Search = c.args.search.now in
    let t : Search = c.loop-core.search in
    let x = c.args.place in
    let b = c.loop-core.core in
    let P : Search → Type 0 = λ u. Spread m s u x (b + 1) in
    elim c.if-not-search-core.branch [
      | then-not-search-core+then-held-need w ↦
          subst P (sym w.search-is) (spread-open m s t x b c.requires.place c.loop-core.invariant w.open_core.new.search w.open_core.ensures)
      | else-not-search-core w ↦
          subst P (sym w.search-is) (spread-skip m s t x b c.requires.place c.loop-core.invariant (elim w.else-not-search-core.branch [
            | else-not-search-core-via-then-not-search-core+else-held-need w' ↦ inr (rw (sym c.task_at-task.ensures) (omega (arith, w'.if-held-need.false, w'.held.ensures, w'.need.ensures)))
            | else-not-search-core-via-else-not-search-core w' ↦ inl w'.if-not-search-core.false
          ]))
    ]
