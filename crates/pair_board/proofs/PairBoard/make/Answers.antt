use Rattle.std.proofs.Common.{◌≡◌, ℕ, ◌*◌, min, true, false, length, refl, sym, subst, ap, ◌∙◌, arith}
use Rattle.std.proofs.lemmas.Bool.{and_parts}
use Rattle.board.specs.Meaning.{Sound, most_slots, new_board, sizes_allowed}
use Rattle.board.proofs.New.{new-sound, empty-sound, allowed, passes, refuses}
use Rattle.pair_board.specs.Pairs.{pair_fits}
use Rattle.pair_board.proofs.Steps.{all-clear, none-serving, none-counted}
use Rattle.pair_board.proofs.PairBoard.make.Goals as goal
use Rattle.pair_board.proofs.PairBoard.make.Goals.{then-is_err, else-is_err}

pub returns : goal.returns
returns c =
    let n : ℕ = c.args.n in
    let m : ℕ = c.args.m in
    let entries = c.args.entries.now in
    let tasks : ℕ = c.if-is_err.tasks.0 in
    let cores : ℕ = c.if-is_err.tasks.1 in
    let clear = all-clear tasks cores entries in
    elim c.if-is_err.branch [
      | then-is_err w ↦
          let none : tasks ≡ 0 = ap (λ z. z.0) w.tasks-is in
          let no-core : cores ≡ 0 = ap (λ z. z.1) w.tasks-is in
          let not-fit : pair_fits n m (length entries) ≡ false = refuses _ c.check.result c.check.ensures w.if-is_err.ensures.value in
          let zero : min (length entries) (0 * 0) ≡ 0 = omega arith in
          let empty = clear ∙ (λ i. new_board (none i) (no-core i) (min (length entries) (none i * no-core i)) most_slots) ∙ ap (λ x. new_board 0 0 x most_slots) zero in
          record {
            good = record {
              serves = record { sixteen = refl; counted = none-counted tasks cores entries; serving = none-serving tasks cores entries };
              sound = subst Sound (sym empty) (empty-sound 0 most_slots (omega arith));
            };
            means = rw not-fit empty;
            whose = refl;
            list = refl;
          }
      | else-is_err w ↦
          let all : tasks ≡ n = ap (λ z. z.0) w.tasks-is in
          let all-cores : cores ≡ m = ap (λ z. z.1) w.tasks-is in
          let fit : pair_fits n m (length entries) ≡ true = passes _ c.check.result c.check.ensures w.if-is_err.ensures.value in
          let made = clear ∙ (λ i. new_board (all i) (all-cores i) (min (length entries) (all i * all-cores i)) most_slots) in
          record {
            good = record {
              serves = record { sixteen = refl; counted = none-counted tasks cores entries; serving = none-serving tasks cores entries };
              sound = subst Sound (sym made) (new-sound n m (min (length entries) (n * m)) most_slots (allowed n m (and_parts (sizes_allowed n m) _ fit).0) (omega arith));
            };
            means = rw fit made;
            whose = refl;
            list = refl;
          }
    ]
