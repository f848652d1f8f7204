-- What it says of a file that a record was found in it.
use Rattle.std.proofs.Common.{◌≡◌, ℕ, ◌+◌, ◌-◌, ◌≤◌, Bool, true, false, cond, ltb, List, length, take, drop, Some, None, Ok, Err, Option, Result, sym, refl, ap, ◌∙◌, arith, length-drop}
use Rattle.std.proofs.lemmas.List.{length-take-le}
use Rattle.std.proofs.lemmas.Bool.Decides.{nat_tests}
use Rattle.board.specs.declared.fault.Fault.{Fault}
use Rattle.records.specs.declared.kind.Kind.{Kind}
use Rattle.records.specs.Wire.{longest_file, word_at, length_at, kind_of}
use Rattle.records.specs.Cuts.{Cut, Walk, cut_as, cut_to, cut_at, open_of}

ok-cut : (x y : Cut) → ◌≡◌ {A = Result Cut Fault} (Ok x) (Ok y) → x ≡ y
ok-cut x y e = cc

ok-walk : (x y : Walk) → ◌≡◌ {A = Result Walk Fault} (Ok x) (Ok y) → x ≡ y
ok-walk x y e = cc

-- a record that was found lies in the file, with its kind and its body
pub record Found (file : List ℕ) (at : ℕ) (cut : Cut) : Type 0 where
  pub told : length_at file at ≡ Some (word_at file at)
  pub long : 2 ≤ word_at file at
  pub within : at + 2 + word_at file at ≤ length file
  pub kind : kind_of (word_at file (at + 2)) ≡ Some cut.kind
  pub body : cut.body ≡ take (at + 2 + word_at file at - (at + 4)) (drop (at + 4) file)
  pub place : cut.place ≡ at

cut_as-kind : (file : List ℕ) (at n : ℕ) (o : Option Kind) (cut : Cut) → cut_as file at n o ≡ Ok cut → (o ≡ Some cut.kind) × (cut.body ≡ take (at + 2 + n - (at + 4)) (drop (at + 4) file)) × (cut.place ≡ at)
cut_as-kind file at n None cut e = let z : ◌≡◌ {A = ℕ} 0 1 = cc in absurd (omega arith)
cut_as-kind file at n (Some k) cut e = let h = ok-cut _ cut e in (ap (λ x. Some x.kind) h, sym (ap (λ x. x.body) h), sym (ap (λ x. x.place) h))

cut-to : (file : List ℕ) (at : ℕ) (o : Option ℕ) (cut : Cut) → cut_to file at o ≡ Ok cut → (n : ℕ) × ((o ≡ Some n) × (cut_as file at n (kind_of (word_at file (at + 2))) ≡ Ok cut))
cut-to file at None cut e = let z : ◌≡◌ {A = ℕ} 0 1 = cc in absurd (omega arith)
cut-to file at (Some n) cut e = (n, (refl, e))

-- a length that is told has room for a kind, and the file has all its bytes
told-length : (file : List ℕ) (at n : ℕ) → length_at file at ≡ Some n → (n ≡ word_at file at) × (2 ≤ word_at file at) × (at + 2 + word_at file at ≤ length file)
told-length file at n e = (grind (arith, nat_tests), grind (arith, nat_tests), grind (arith, nat_tests))

pub found : (file : List ℕ) (at : ℕ) (cut : Cut) → cut_at file at ≡ Ok cut → Found file at cut
found file at cut e =
    let a = cut-to file at (length_at file at) cut e in
    let n = a.0 in
    let b = told-length file at n a.1.0 in
    let d = cut_as-kind file at n (kind_of (word_at file (at + 2))) cut a.1.1 in
    record {
      told = a.1.0 ∙ ap (λ x. Some x) b.0;
      long = b.1;
      within = b.2;
      kind = d.0;
      body = d.1 ∙ ap (λ x. take (at + 2 + x - (at + 4)) (drop (at + 4) file)) b.0;
      place = d.2;
    }

-- the next record begins where this one ends
pub found-end : (file : List ℕ) (at : ℕ) (cut : Cut) → Found file at cut → at + 4 + length cut.body ≡ at + 2 + word_at file at
found-end file at cut h =
    let d = length-drop (at + 4) file in
    let w = h.within in
    let g = h.long in
    let t = length-take-le (at + 2 + word_at file at - (at + 4)) (drop (at + 4) file) (omega arith) in
    let e = ap length h.body in
    omega arith

-- a walk that was begun stands before the first byte of a file that is not too long
begun-at : (file : List ℕ) (b : Bool) (fault : Fault) (walk : Walk) → cond b (Err fault) (Ok (record { file = file; at = 0 })) ≡ Ok walk → (b ≡ false) × (walk.file ≡ file) × (walk.at ≡ 0)
begun-at file true fault walk e = let z : ◌≡◌ {A = ℕ} 0 1 = cc in absurd (omega arith)
begun-at file false fault walk e = let h = ok-walk _ walk e in (refl, sym (ap (λ w. w.file) h), sym (ap (λ w. w.at) h))

pub begun : (file : List ℕ) (walk : Walk) → open_of file ≡ Ok walk → (walk.file ≡ file) × (walk.at ≡ 0) × (length file ≤ longest_file)
begun file walk e =
    let a = begun-at file (ltb longest_file (length file)) _ walk e in
    let short = a.0 in
    (a.1, a.2, grind (arith, nat_tests))
