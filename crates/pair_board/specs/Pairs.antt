-- What a pair board means, what its memory must be like, and whose it is.
use Rattle.std.specs.Prelude.{◌≡◌, refl, ℕ, ◌*◌, min, Bool, cond, ◌&&◌, List, length, drop, nat_le, nat_lt, slice_index}
use Rattle.std.specs.Borrow.{MutBor}
use Rattle.std.proofs.Common.{◌∙◌}
use Rattle.board.specs.Meaning.{Meaning, most_slots, new_board, pair_count, sizes_allowed}
use Rattle.board.specs.Boards.{Build, Keeping, Good}
use Rattle.pair_board.specs.Entries.{amounts, Serving}
use Rattle.pair_board.specs.declared.entry.Entry.{Entry}
use Rattle.pair_board.specs.declared.PairBoard.{PairBoard}

-- whether a board can be made in a list so long
abbrev pub pair_fits : ℕ → ℕ → ℕ → Bool
pair_fits n m long = sizes_allowed n m && nat_le 1 long

abbrev pub pairs : ℕ → ℕ → ℕ → List ℕ → List Entry → Meaning
pairs n m used capacities entries = record {
  tasks = n;
  cores = m;
  capacity = λ core. cond (nat_lt core m) (slice_index capacities core) 0;
  need = amounts (λ entry. entry.need) entries used;
  held = amounts (λ entry. entry.held) entries used;
  greatest_pairs = min (length entries) (n * m);
  greatest_capacity = λ core. cond (nat_lt core m) most_slots 0;
}

abbrev pub pairs_of : PairBoard → Meaning
pairs_of board = pairs board.tasks board.cores board.used board.capacities board.entries.now

-- how many entries of its list the board may use
abbrev pub taken : PairBoard → ℕ
taken board = min (length board.entries.now) (board.tasks * board.cores)

-- as many entries are in use as pairs have a need
pub record Ready (board : PairBoard) : Type 0 where
  pub sixteen : length board.capacities ≡ 16
  pub counted : board.used ≡ pair_count (pairs_of board)
  pub serving : Serving board.tasks board.cores board.entries.now board.used

-- b lies in the list of a, and the entries past what it may use are as they were
pub record Untouched (a b : PairBoard) : Type 0 where
  pub whose : b.entries.ghost_name ≡ a.entries.ghost_name
  pub past : drop (taken a) b.entries.now ≡ drop (taken a) a.entries.now
  pub same_length : length b.entries.now ≡ length a.entries.now
  pub same_tasks : b.tasks ≡ a.tasks
  pub same_cores : b.cores ≡ a.cores

-- what is untouched over any number of calls is untouched
pub untouched-keeps : Keeping Untouched
untouched-keeps = record {
  same = λ a. record { whose = refl; past = refl; same_length = refl; same_tasks = refl; same_cores = refl };
  onward = λ a b c p q. record {
    whose = q.whose ∙ p.whose;
    past = rw (p.same_length, p.same_tasks, p.same_cores) at q.past ∙ p.past;
    same_length = q.same_length ∙ p.same_length;
    same_tasks = q.same_tasks ∙ p.same_tasks;
    same_cores = q.same_cores ∙ p.same_cores;
  };
}

-- how such a board is read
abbrev pub pair_build : Build PairBoard
pair_build = record { meaning = pairs_of; ready = Ready; kept = Untouched; keeping = untouched-keeps }

-- a board just made: clear where it can be made, and else empty; it lies in the lent list, which is as it was
pub record Made (n m : ℕ) (lent : MutBor (List Entry)) (board : PairBoard) : Type 0 where
  pub good : Good pair_build board
  pub means : pairs_of board ≡ cond (pair_fits n m (length lent.now)) (new_board n m (min (length lent.now) (n * m)) most_slots) (new_board 0 0 0 most_slots)
  pub whose : board.entries.ghost_name ≡ lent.ghost_name
  pub list : board.entries.now ≡ lent.now
