-- What a core has given, added up by entries.
use Rattle.std.proofs.Common.{◌≡◌, ℕ, ◌<◌, ◌≤◌, true, cond, ◌&&◌, eqb, List, zero, suc, length, take, ◌++◌, [], ◌∷◌, ◌+◌, refl, sym, ap, ◌∙◌, add-one, arith}
use Rattle.std.proofs.lemmas.Bool.Decides.{nat_tests}
use Rattle.fairness.specs.Sums.{sum_to}
use Rattle.std.proofs.Math.Seq.{take-length}
use Rattle.std.proofs.lemmas.Bool.{cond-true}
use Rattle.fairness.proofs.Dominance.{sum-longer}
use Rattle.fairness.proofs.Sums.{sum-swap, sum-eq, sum_one}
use Rattle.pair_board.specs.declared.entry.Entry.{Entry}
use Rattle.board.specs.Meaning.{given_at}
use Rattle.board.specs.Boards.{Good}
use Rattle.pair_board.specs.declared.PairBoard.{PairBoard}
use Rattle.pair_board.specs.Entries.{blank, entry_at, is_for, amounts, slots_of, Serving}
use Rattle.pair_board.specs.Pairs.{pairs_of, pair_build}
use Rattle.pair_board.proofs.Steps.{in_list}
use Rattle.std.proofs.lemmas.List.{take_more, map-append}
use Rattle.std.proofs.lemmas.List.Elements.{filter-append}
use Rattle.std.proofs.lemmas.Grind.{common_steps}

-- what an entry adds to a core
abbrev pub adds : List Entry → ℕ → ℕ → ℕ
adds entries core at = cond (eqb (entry_at entries at).core core) (entry_at entries at).held 0

one-task : (task core held k c : ℕ) → cond (eqb k task && eqb c core) held 0 ≡ cond (eqb task k) (cond (eqb c core) held 0) 0
one-task task core held k c = grind (arith, nat_tests)

pub by_entries : (n m : ℕ) (entries : List Entry) (used core : ℕ) → Serving n m entries used
    → sum_to n (λ task. amounts (λ entry. entry.held) entries used task core) ≡ sum_to used (adds entries core)
by_entries n m entries used core serving =
    sum-swap n used (λ task at. cond (is_for (entry_at entries at) task core) (entry_at entries at).held 0)
    ∙ sum-eq used (λ at. sum_to n (λ task. cond (is_for (entry_at entries at) task core) (entry_at entries at).held 0)) (adds entries core)
    (λ at l.
    let e : Entry = entry_at entries at in
    sum-eq n (λ task. cond (is_for e task core) e.held 0) (λ task. cond (eqb task e.task) (cond (eqb e.core core) e.held 0) 0) (λ task _. one-task task core e.held e.task e.core)
    ∙ sum_one n e.task (cond (eqb e.core core) e.held 0) (serving.on_tasks at l))

-- the entries in use, added up one by one
slots-sum : (entries : List Entry) (core used : ℕ) → used ≤ length entries → slots_of (take used entries) core ≡ sum_to used (adds entries core)
slots-sum entries core zero fits = refl
slots-sum entries core (suc used) fits =
    let one = take_more entries used blank (omega arith) in
    let before = slots-sum entries core used (omega arith) in
    let apart : slots_of (take used entries ++ entry_at entries used ∷ []) core ≡ slots_of (take used entries) core + slots_of (entry_at entries used ∷ []) core =
    grind (arith, filter-append, map-append, common_steps) in
    let last : slots_of (entry_at entries used ∷ []) core ≡ adds entries core used = grind (arith, nat_tests) in
    ap (λ xs. slots_of xs core) (ap (λ k. take k entries) (sym (add-one used)) ∙ one) ∙ omega (arith, apart, last, before)

-- the slots of an entry of the core, and those of the entries before it, are among those of the whole list
pub slots-room : (entries : List Entry) (core at : ℕ) → at < length entries → eqb (entry_at entries at).core core ≡ true
    → slots_of (take at entries) core + (entry_at entries at).held ≤ slots_of entries core
slots-room entries core at inside here =
    let before = slots-sum entries core at (omega arith) in
    let all = slots-sum entries core (length entries) (omega arith) in
    let whole : slots_of (take (length entries) entries) core ≡ slots_of entries core = ap (λ xs. slots_of xs core) (take-length entries) in
    let grows = sum-longer (suc at) (length entries) (adds entries core) (omega arith) in
    let added : adds entries core at ≡ (entry_at entries at).held = cond-true (eqb (entry_at entries at).core core) (entry_at entries at).held 0 here in
    omega (arith, before, all, whole, grows, added)

pub given-slots : (b : PairBoard) (core : ℕ) → Good pair_build b → slots_of (take b.used b.entries.now) core ≡ given_at (pairs_of b) core
given-slots b core good =
    slots-sum b.entries.now core b.used (omega (arith, in_list b good))
    ∙ sym (by_entries b.tasks b.cores b.entries.now b.used core good.serves.serving)
