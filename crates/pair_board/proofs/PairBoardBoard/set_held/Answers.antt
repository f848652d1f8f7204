use Rattle.std.proofs.Common.{◌≤◌, length, sym, refl, ap, ◌∙◌, arith, length-set}
use Rattle.std.proofs.lemmas.List.{drop-set-lt}
use Rattle.board.specs.Meaning.{pair_count}
use Rattle.board.proofs.Passed.{held-passed, stays, held-changes}
use Rattle.pair_board.specs.declared.PairBoard.{PairBoard}
use Rattle.pair_board.specs.Pairs.{pairs_of, taken, pair_build}
use Rattle.pair_board.proofs.Lookups.{absent_none}
use Rattle.pair_board.proofs.Steps.{held-changed, held-changed-serving, held-stands, in_list}
use Rattle.pair_board.proofs.PairBoardBoard.set_held.Goals as goal

pub returns-in_err-test_held : goal.returns-in_err-test_held
returns-in_err-test_held c =
    stays pair_build _ _ _ _ c.requires c.in_err-test_held.ensures c.from_residual.ensures.1

pub returns-in-Some : goal.returns-in-Some
returns-in-Some c =
    let b : PairBoard = c.args.self.now in
    let entries = b.entries.now in
    let here = c.in-Some.at in
    let found = c.in-Some.ensures in
    let serves = c.requires.serves in
    let inside = in_list b c.requires in
    let fits : b.used ≤ length entries = omega (arith, inside) in
    let left = held-changed b.tasks b.cores b.used b.capacities entries serves.serving fits c.args.task c.args.core here found c.args.held in
    held-changes pair_build b _ c.args.task c.args.core c.args.held c.requires c.in_ok-test_held.ensures left
    (record {
      sixteen = serves.sixteen;
      counted = serves.counted ∙ sym (ap pair_count left);
      serving = held-changed-serving b.tasks b.cores b.used b.capacities entries serves.serving fits c.args.task c.args.core here found c.args.held;
    })
    (record { whose = refl; past = drop-set-lt (taken b) entries here _ (omega (arith, inside, found.0)); same_length = length-set entries here _; same_tasks = refl; same_cores = refl })

pub returns-in_default : goal.returns-in_default
returns-in_default c =
    let b : PairBoard = c.args.self.now in
    let p = held-passed (pairs_of b) c.args.task c.args.core c.args.held c.in_ok-test_held.ensures in
    let no-need = absent_none (λ entry. entry.need) b.entries.now b.used c.args.task c.args.core c.in_default.ensures in
    let no-slots = absent_none (λ entry. entry.held) b.entries.now b.used c.args.task c.args.core c.in_default.ensures in
    held-changes pair_build b b c.args.task c.args.core c.args.held c.requires c.in_ok-test_held.ensures
    (held-stands (pairs_of b) c.args.task c.args.core c.args.held (omega (arith, no-need, no-slots, p.within)))
    c.requires.serves (pair_build.keeping.same b)
