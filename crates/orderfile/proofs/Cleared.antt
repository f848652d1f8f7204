-- What stands on the board and in the table, by what the records came to.
use Rattle.std.proofs.Common.{◌≡◌, ℕ, true, false, List, [], Ok, Err, Result, refl, arith}
use Rattle.std.specs.Result.{is_err}
use Rattle.board.specs.declared.fault.Fault.{Fault}
use Rattle.board.specs.Meaning.{Meaning, cleared}
use Rattle.tasks.specs.Rows.{Row}
use Rattle.orders.specs.Reads.{letter_of, board_of, rows_of}
use Rattle.orderfile.specs.Reads.{gave}

pub letter-gave : (r : Result ℕ Fault) (m : Meaning) (rs : List Row) → r ≡ letter_of (gave r m rs)
letter-gave (Ok letter) m rs = refl
letter-gave (Err fault) m rs = refl

-- refused, a reading leaves nothing, and gives the same whatever stands there
pub record Refused (r : Result ℕ Fault) (m n : Meaning) (rs qs : List Row) : Type 0 where
  pub left : (k : Meaning) → cleared k ≡ board_of k (gave r m rs)
  pub listed : [] ≡ rows_of (gave r m rs)
  pub same : gave r n qs ≡ gave r m rs

pub refused : (r : Result ℕ Fault) (m n : Meaning) (rs qs : List Row) → is_err r ≡ true → Refused r m n rs qs
refused (Ok letter) m n rs qs e = let z : ◌≡◌ {A = ℕ} 0 1 = cc in absurd (omega arith)
refused (Err fault) m n rs qs e = record { left = λ k. refl; listed = refl; same = refl }

-- accepted, it leaves what was read
pub record Taken (r : Result ℕ Fault) (m : Meaning) (rs : List Row) : Type 0 where
  pub left : (k : Meaning) → m ≡ board_of k (gave r m rs)
  pub listed : rs ≡ rows_of (gave r m rs)

pub taken : (r : Result ℕ Fault) (m : Meaning) (rs : List Row) → is_err r ≡ false → Taken r m rs
taken (Ok letter) m rs e = record { left = λ k. refl; listed = refl }
taken (Err fault) m rs e = let z : ◌≡◌ {A = ℕ} 0 1 = cc in absurd (omega arith)
