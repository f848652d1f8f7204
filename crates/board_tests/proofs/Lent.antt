-- What lies past a pair board is its lender's.
use Rattle.std.proofs.Common.{◌≡◌, ℕ, ◌*◌, min, cond, List, length, drop, sym, ap, ◌∙◌, inl, inr, MutBor}
use Rattle.std.proofs.lemmas.Bool.{cases_Bool}
use Rattle.board.specs.Meaning.{Meaning, most_slots, new_board}
use Rattle.pair_board.specs.declared.entry.Entry.{Entry}
use Rattle.pair_board.specs.declared.PairBoard.{PairBoard}
use Rattle.pair_board.specs.Pairs.{pair_fits, pairs_of, taken, Untouched, Made}

pub past-stays : (n m : ℕ) (lent : MutBor (List Entry)) (made later : PairBoard) → Made n m lent made → Untouched made later
    → drop (min (length lent.now) (n * m)) later.entries.now ≡ drop (min (length lent.now) (n * m)) lent.now
past-stays n m lent made later is untouched =
    let clear : Meaning = new_board n m (min (length lent.now) (n * m)) most_slots in
    let empty : Meaning = new_board 0 0 0 most_slots in
    let same : drop (taken made) later.entries.now ≡ drop (taken made) lent.now = untouched.past ∙ ap (drop (taken made)) is.list in
    elim (cases_Bool (pair_fits n m (length lent.now))) [
      | inl fit ↦
          let means : pairs_of made ≡ clear = is.means ∙ ap (λ b. cond b clear empty) fit in
          let size : taken made ≡ min (length lent.now) (n * m) = ap (λ x. x.greatest_pairs) means in
          ap (λ k. drop k later.entries.now) (sym size) ∙ same ∙ ap (λ k. drop k lent.now) size
      | inr not-fit ↦
          let means : pairs_of made ≡ empty = is.means ∙ ap (λ b. cond b clear empty) not-fit in
          let size : taken made ≡ 0 = ap (λ x. x.greatest_pairs) means in
          let all : later.entries.now ≡ lent.now = ap (λ k. drop k later.entries.now) (sym size) ∙ same ∙ ap (λ k. drop k lent.now) size in
          ap (drop (min (length lent.now) (n * m))) all
    ]
