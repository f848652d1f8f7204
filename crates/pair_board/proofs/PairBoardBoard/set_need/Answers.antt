use Rattle.std.proofs.Common.{◌≡◌, ℕ, ◌+◌, ◌-◌, ◌<◌, ◌≤◌, length, sym, refl, ap, ◌∙◌, arith, length-set}
use Rattle.std.proofs.lemmas.List.{drop-set-lt}
use Rattle.board.specs.Meaning.{Meaning, pair_count, needed, with_need}
use Rattle.board.proofs.Bounds.{needed-one, needed-none}
use Rattle.board.proofs.Passed.{need-passed, need-changes}
use Rattle.pair_board.specs.declared.PairBoard.{PairBoard}
use Rattle.pair_board.specs.Entries.{Absent}
use Rattle.pair_board.specs.Pairs.{pairs_of, taken, pair_build}
use Rattle.pair_board.proofs.Lookups.{absent_none}
use Rattle.pair_board.proofs.Steps.{need-there, need-changed, need-changed-serving, pair-removed, pair-removed-serving, pair-added, pair-added-serving, need-stands, recounted, room-left, in_list}
use Rattle.pair_board.proofs.PairBoardBoard.set_need.Goals as goal

pub bounds-self-self : goal.bounds-self-self
bounds-self-self c =
    let b : PairBoard = c.args.self.now in
    let m : Meaning = pairs_of b in
    let p = need-passed m c.args.task c.args.core c.args.need c.in_ok-test_need.ensures in
    let absent : Absent b.entries.now b.used c.args.task c.args.core = rw c.in-None-default.is-0 at c.find.ensures in
    let none = absent_none (λ entry. entry.need) b.entries.now b.used c.args.task c.args.core absent in
    omega (arith, c.requires.serves.counted, room-left c.args.need (m.need c.args.task c.args.core) m.greatest_pairs (pair_count m) p.room (omega arith) none)

-- the pair's entry is taken out
pub returns-in-Some-eq0 : goal.returns-in-Some-eq0
returns-in-Some-eq0 c =
    let b : PairBoard = c.args.self.now in
    let m : Meaning = pairs_of b in
    let entries = b.entries.now in
    let task = c.args.task in
    let core = c.args.core in
    let here = c.in-Some-eq0.at in
    let last : ℕ = b.used - 1 in
    let found = c.in-Some-eq0.ensures in
    let serves = c.requires.serves in
    let p = need-passed m task core c.args.need c.in_ok-test_need.ensures in
    let zero : c.args.need ≡ 0 = omega arith in
    let inside = in_list b c.requires in
    let fits : b.used ≤ length entries = omega (arith, inside) in
    let is_last : last + 1 ≡ b.used = omega (arith, found.0) in
    let left = pair-removed b.tasks b.cores b.used b.capacities entries serves.serving fits task core here last found is_last (omega (arith, p.covers, zero)) in
    let was : needed (m.need task core) ≡ 1 =
    needed-one _ (omega (arith, serves.serving.some here found.0, need-there b.tasks b.cores b.used b.capacities entries serves.serving fits task core here found 0)) in
    let count = recounted m _ task core 0 p.on_tasks p.on_cores left in
    need-changes pair_build b _ task core c.args.need c.requires c.in_ok-test_need.ensures
    (left ∙ ap (with_need m task core) (sym zero))
    (record {
      sixteen = serves.sixteen;
      counted = omega (arith, serves.counted, count, was, needed-none 0 (omega arith));
      serving = pair-removed-serving b.tasks b.cores b.used b.capacities entries serves.serving fits task core here last found is_last;
    })
    (record { whose = refl; past = drop-set-lt (taken b) entries here _ (omega (arith, inside, found.0)); same_length = length-set entries here _; same_tasks = refl; same_cores = refl })

-- the pair's entry gets the new need
pub returns-in-Some-default : goal.returns-in-Some-default
returns-in-Some-default c =
    let b : PairBoard = c.args.self.now in
    let m : Meaning = pairs_of b in
    let entries = b.entries.now in
    let task = c.args.task in
    let core = c.args.core in
    let here = c.in-Some-default.at in
    let found = c.in-Some-default.ensures in
    let serves = c.requires.serves in
    let some : 0 < c.args.need = omega arith in
    let p = need-passed m task core c.args.need c.in_ok-test_need.ensures in
    let inside = in_list b c.requires in
    let fits : b.used ≤ length entries = omega (arith, inside) in
    let left = need-changed b.tasks b.cores b.used b.capacities entries serves.serving fits task core here found c.args.need some in
    let was : needed (m.need task core) ≡ 1 =
    needed-one _ (omega (arith, serves.serving.some here found.0, need-there b.tasks b.cores b.used b.capacities entries serves.serving fits task core here found c.args.need)) in
    let count = recounted m _ task core c.args.need p.on_tasks p.on_cores left in
    need-changes pair_build b _ task core c.args.need c.requires c.in_ok-test_need.ensures left
    (record {
      sixteen = serves.sixteen;
      counted = omega (arith, serves.counted, count, was, needed-one c.args.need some);
      serving = need-changed-serving b.tasks b.cores b.used b.capacities entries serves.serving fits task core here found c.args.need some;
    })
    (record { whose = refl; past = drop-set-lt (taken b) entries here _ (omega (arith, inside, found.0)); same_length = length-set entries here _; same_tasks = refl; same_cores = refl })

-- a new pair gets the next entry
pub returns-in-None-default : goal.returns-in-None-default
returns-in-None-default c =
    let b : PairBoard = c.args.self.now in
    let m : Meaning = pairs_of b in
    let entries = b.entries.now in
    let task = c.args.task in
    let core = c.args.core in
    let absent : Absent entries b.used task core = rw c.in-None-default.is-0 at c.find.ensures in
    let serves = c.requires.serves in
    let some : 0 < c.args.need = omega arith in
    let p = need-passed m task core c.args.need c.in_ok-test_need.ensures in
    let none = absent_none (λ entry. entry.need) entries b.used task core absent in
    let more = room-left c.args.need (m.need task core) m.greatest_pairs (pair_count m) p.room some none in
    let room : b.used < taken b = omega (arith, serves.counted, more) in
    let below : b.used < length entries = omega (arith, room) in
    let fits : b.used ≤ length entries = omega (arith, below) in
    let left = pair-added b.tasks b.cores b.used b.capacities entries serves.serving fits task core absent below c.args.need in
    let count = recounted m _ task core c.args.need p.on_tasks p.on_cores left in
    need-changes pair_build b _ task core c.args.need c.requires c.in_ok-test_need.ensures left
    (record {
      sixteen = serves.sixteen;
      counted = omega (arith, serves.counted, count, needed-none (m.need task core) (omega (arith, none)), needed-one c.args.need some);
      serving = pair-added-serving b.tasks b.cores b.used b.capacities entries serves.serving fits task core absent below c.args.need p.on_tasks p.on_cores some;
    })
    (record { whose = refl; past = drop-set-lt (taken b) entries b.used _ room; same_length = length-set entries b.used _; same_tasks = refl; same_cores = refl })

-- a pair without a need is to have none
pub returns-in-None-eq0 : goal.returns-in-None-eq0
returns-in-None-eq0 c =
    let b : PairBoard = c.args.self.now in
    let absent : Absent b.entries.now b.used c.args.task c.args.core = rw c.in-None-eq0.is-0 at c.find.ensures in
    let none = absent_none (λ entry. entry.need) b.entries.now b.used c.args.task c.args.core absent in
    need-changes pair_build b b c.args.task c.args.core c.args.need c.requires c.in_ok-test_need.ensures
    (need-stands (pairs_of b) c.args.task c.args.core c.args.need (omega (arith, none)))
    c.requires.serves (pair_build.keeping.same b)
