-- What the walk over a file's records comes to at each place.
use Rattle.std.specs.Prelude.{ℕ, ◌+◌, ◌-◌, cond, List, length, take, drop, Some, None, Ok, Err, Option, Result, nat_lt}
use Rattle.board.specs.declared.fault.Fault.{Fault}
use Rattle.board.specs.declared.fault.Refusal.TheVariants.{FileTooLong, RecordCutShort, UnknownKind, BytesAfterEnd}
use Rattle.board.specs.Refusals.{fault_at}
use Rattle.records.specs.declared.kind.Kind.{Kind}
use Rattle.records.specs.declared.Record.{Record}
use Rattle.records.specs.declared.Records.{Records}
use Rattle.records.specs.Wire.{longest_file, word_at, length_at, kind_of}

-- a record as the bytes that it has
pub record Cut : Type 0 where
  pub kind : Kind
  pub body : List ℕ
  pub place : ℕ

-- where a walk over a file stands
pub record Walk : Type 0 where
  pub file : List ℕ
  pub at : ℕ

abbrev pub walk_of : Records → Walk
walk_of records = record { file = records.file.now; at = records.at }

abbrev pub opened : Result Records Fault → Result Walk Fault
opened (Ok records) = Ok (walk_of records)
opened (Err fault) = Err fault

-- a file that is too long is not walked over at all
abbrev pub open_of : List ℕ → Result Walk Fault
open_of file = cond (nat_lt longest_file (length file)) (Err (fault_at FileTooLong 0)) (Ok (record { file = file; at = 0 }))

abbrev pub plain : Record → Cut
plain found = record { kind = found.kind; body = found.body.now; place = found.place }

abbrev pub cut_of : Result Record Fault → Result Cut Fault
cut_of (Ok found) = Ok (plain found)
cut_of (Err fault) = Err fault

abbrev pub cut_as : List ℕ → ℕ → ℕ → Option Kind → Result Cut Fault
cut_as file at length None = Err (fault_at UnknownKind at)
cut_as file at length (Some kind) = Ok (record { kind = kind; body = take (at + 2 + length - (at + 4)) (drop (at + 4) file); place = at })

abbrev pub cut_to : List ℕ → ℕ → Option ℕ → Result Cut Fault
cut_to file at None = Err (fault_at RecordCutShort at)
cut_to file at (Some length) = cut_as file at length (kind_of (word_at file (at + 2)))

-- the record that begins at `at`, or why there is none
abbrev pub cut_at : List ℕ → ℕ → Result Cut Fault
cut_at file at = cut_to file at (length_at file at)

-- where the walk stands after it
abbrev pub place_after : ℕ → Result Cut Fault → ℕ
place_after at (Ok cut) = at + 4 + length cut.body
place_after at (Err fault) = at

-- nothing may follow the last record; the place is that of the first byte that does
abbrev pub finish_at : List ℕ → ℕ → Result (Unit {0}) Fault
finish_at file at = cond (nat_lt at (length file)) (Err (fault_at BytesAfterEnd at)) (Ok tt)
