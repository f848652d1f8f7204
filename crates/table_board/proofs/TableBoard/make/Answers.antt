use Rattle.std.proofs.Common.{◌≡◌, ℕ, ◌*◌, true, false, length, sym, refl, ap, ◌∙◌, subst, arith}
use Rattle.board.specs.Meaning.{Sound, most_slots, new_board}
use Rattle.board.proofs.New.{new-sound, empty-sound, passes, refuses}
use Rattle.table_board.specs.Cells.{Wiped, numbers, table_fits}
use Rattle.table_board.proofs.Writes.{all-zero, fits}
use Rattle.table_board.proofs.TableBoard.make.Goals as goal
use Rattle.table_board.proofs.TableBoard.make.Goals.{then-is_err, else-is_err}

pub returns : goal.returns
returns c =
    let n : ℕ = c.args.n in
    let m : ℕ = c.args.m in
    let long : ℕ = length c.args.cells.now in
    let tasks : ℕ = c.if-is_err.tasks.0 in
    let cores : ℕ = c.if-is_err.tasks.1 in
    let wiped : Wiped (numbers tasks cores) c.args.cells.now c.wipe.new.cells = rw c.numbers.ensures at c.wipe.ensures in
    let clear = all-zero tasks cores c.wipe.new.cells wiped.zero in
    elim c.if-is_err.branch [
      | then-is_err w ↦
          let none : tasks ≡ 0 = ap (λ z. z.0) w.tasks-is in
          let no-core : cores ≡ 0 = ap (λ z. z.1) w.tasks-is in
          let not-fit : table_fits n m long ≡ false = refuses _ c.check.result c.check.ensures w.if-is_err.ensures.value in
          let empty = clear ∙ (λ i. new_board (none i) (no-core i) (none i * no-core i) most_slots) in
          record {
            good = record { serves = rw (none, no-core) (omega arith); sound = subst Sound (sym empty) (empty-sound 0 most_slots (omega arith)) };
            means = rw not-fit empty;
            whose = refl;
            past = wiped.past;
          }
      | else-is_err w ↦
          let all : tasks ≡ n = ap (λ z. z.0) w.tasks-is in
          let all-cores : cores ≡ m = ap (λ z. z.1) w.tasks-is in
          let fit : table_fits n m long ≡ true = passes _ c.check.result c.check.ensures w.if-is_err.ensures.value in
          let sizes = fits n m long fit in
          let made = clear ∙ (λ i. new_board (all i) (all-cores i) (all i * all-cores i) most_slots) in
          record {
            good = record { serves = rw (all, all-cores) (omega (arith, sizes.1, wiped.long)); sound = subst Sound (sym made) (new-sound n m _ most_slots sizes.0 (omega arith)) };
            means = rw fit made;
            whose = refl;
            past = wiped.past;
          }
    ]
