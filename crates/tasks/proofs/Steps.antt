-- How the rows of a table change when one entry is filled, and what a search through them has seen.
use Rattle.std.proofs.Common.{◌≡◌, ℕ, Bool, zero, suc, ◌+◌, ◌<◌, ◌≤◌, true, false, ◌||◌, List, [], ◌∷◌, ◌++◌, map, length, get_or, take, drop, set, Some, None, Ok, Err, Option, Result, subst, sym, refl, ap, ◌∙◌, ⊎_elim, arith, length-set}
use borrow.Rule.Slice.PartMut.{put_mid}
use Rattle.std.specs.List.{list_any}
use Rattle.std.specs.Result.{MatchResult, IsErrAnd}
use Rattle.std.specs.Str.{bytes_eq}
use Rattle.std.proofs.lemmas.List.Folds.{list_any-append}
use Rattle.std.proofs.Math.Bool.{or-false}
use Rattle.std.proofs.lemmas.List.{length-take-le, length-map, take_more_set, map_push, take-set, drop-set, drop-drop, take-append-drop, get_or_past}
use Rattle.std.proofs.lemmas.Bool.Decides.{nat_tests, same_from_decides, Decides-like}
use Rattle.std.proofs.lemmas.Bool.{cases_lt}
use Rattle.std.proofs.lemmas.Slice.Eq.{bytes_eq-Decides}
use Rattle.board.specs.declared.fault.Refusal.{Refusal}
use Rattle.tasks.specs.declared.task.Task.{Task}
use Rattle.tasks.specs.declared.entries.Entries.{Entries}
use Rattle.tasks.specs.Names.{good_name, printable_name}
use Rattle.tasks.specs.Rows.{Row, row, taken, row_of, rows_of, sound, good_weight}
use Rattle.tasks.specs.declared.table.TaskTable.{TaskTable}
use Rattle.tasks.specs.Table.{rows, no_row, name_in, weight_in, row_seen, row_unless, unless_refused, push_why, push_after}

pub length-rows : (es : Entries) (k : ℕ) → k ≤ length es.tasks → length (rows_of es k) ≡ k
length-rows es k le = length-map (take k es.tasks) row_of ∙ length-take-le k es.tasks le

pub rows_fill : (es fs : Entries) (k : ℕ) (t : Task) → k < length es.tasks → fs.tasks ≡ set es.tasks k t → rows_of fs (k + 1) ≡ rows_of es k ++ row_of t ∷ []
rows_fill es fs k t h e = ap (λ ts. map row_of (take (k + 1) ts)) e ∙ ap (map row_of) (take_more_set es.tasks k t h) ∙ map_push row_of (take k es.tasks) t

pub list_any-map : {A B : Type 0} (p : B → Bool) (f : A → B) (xs : List A) → list_any p (map f xs) ≡ list_any (λ x. p (f x)) xs
list_any-map p f [] = refl
list_any-map p f (x ∷ xs) = ap (λ b. p (f x) || b) (list_any-map p f xs)

same-sym : (x y : List ℕ) → bytes_eq x y ≡ bytes_eq y x
same-sym x y = same_from_decides _ _ (Decides-like _ sym sym (bytes_eq-Decides x y)) (bytes_eq-Decides y x)

taken-push : (n : List ℕ) (rs : List Row) (r : Row) → taken n (rs ++ r ∷ []) ≡ (taken n rs || bytes_eq r.name n)
taken-push n rs r = list_any-append (λ row. bytes_eq row.name n) rs (r ∷ []) ∙ ap (λ b. taken n rs || b) (or-false (bytes_eq r.name n))

-- a sound table stays sound with one more good row of a new name
pub sound-push : (rs : List Row) (r : Row) → sound rs ≡ true → good_weight r.weight ≡ true → good_name r.name ≡ true → taken r.name rs ≡ false → sound (rs ++ r ∷ []) ≡ true
sound-push [] r s w g f = grind (arith, nat_tests)
sound-push (u ∷ rs) r s w g f =
    let e = taken-push u.name rs r in
    let y = same-sym u.name r.name in
    let q : sound rs ≡ true → taken r.name rs ≡ false → sound (rs ++ r ∷ []) ≡ true = λ a b. sound-push rs r a w g b in
    grind (arith, nat_tests)

-- a part of one entry written over is that entry set
pub filled : (xs : List Task) (a k : ℕ) (y : Task) (ys : List Task) → a < length xs → k ≡ 1 → ys ≡ y ∷ [] → put_mid a k xs ys ≡ set xs a y
filled xs a k y ys h one e =
    ap (λ zs. take a xs ++ (zs ++ drop k (drop a xs))) e
    ∙ ap (λ zs. take a xs ++ y ∷ zs) (drop-drop k a xs ∙ ap (λ n. drop (a + n) xs) one)
    ∙ sym (ap (λ zs. zs ++ y ∷ drop (a + 1) xs) (take-set xs a y))
    ∙ sym (ap (λ zs. take a (set xs a y) ++ zs) (drop-set xs a y h))
    ∙ take-append-drop a (set xs a y)

-- weights that are right for each task that an order can have are right for every number
pub weights-all : (ws : List ℕ) (rs : List Row) → length ws ≡ 64 → length rs ≤ 64 → ((t : ℕ) → t < 64 → get_or ws t 1 ≡ weight_in rs t) → (t : ℕ) → get_or ws t 1 ≡ weight_in rs t
weights-all ws rs a b h t =
    ⊎_elim (h t) (λ far. get_or_past ws t 1 (omega arith) ∙ sym (ap (λ r. r.weight) (get_or_past rs t no_row (omega arith)))) (cases_lt t 64)

-- what a row that nothing refuses is like
pub record Fresh (rs : List Row) (task weight : ℕ) (name : List ℕ) : Type 0 where
  pub next : task ≡ length rs
  pub room : length rs < 64
  pub weighed : good_weight weight ≡ true
  pub named : good_name name ≡ true
  pub alone : taken name rs ≡ false

pub fresh : (rs : List Row) (task weight : ℕ) (name : List ℕ) → None ≡ push_why rs task weight name → Fresh rs task weight name
fresh rs task weight name e = record {
  next = grind (arith, nat_tests);
  room = grind (arith, nat_tests);
  weighed = grind (arith, nat_tests);
  named = grind (arith, nat_tests);
  alone = grind (arith, nat_tests);
}

-- what passes a change of its errors was there before
pub passed : {T E D : Type 0} (r : Result T E) (s : Result T D) (Q : E → D → Type 0) (x : T) → MatchResult r (λ y. s ≡ Ok y) (λ e. IsErrAnd s (Q e)) → s ≡ Ok x → r ≡ Ok x
passed (Ok y) s Q x h e = let f = sym h ∙ e in cc
passed (Err why) s Q x h e = absurd (subst (λ t. IsErrAnd t (Q why)) e h)

-- a task that is taken as the next one has the row that is added
added : (why : Option Refusal) (new row : Row) → Ok new ≡ row_unless why row → (None ≡ why) × (new ≡ row)
added None new row e = (refl, cc)
added (Some why) new row e = let z : ◌≡◌ {A = ℕ} 0 1 = cc in absurd (omega arith)

-- how a table stands once the next task's entry is filled
pub record Grown (es fs : Entries) (k task weight : ℕ) (name : List ℕ) : Type 0 where
  pub left : rows_of fs (k + 1) ≡ push_after (rows_of es k) task weight name
  pub size : length fs.tasks ≡ 64
  pub room : k + 1 ≤ 64
  pub sound : sound (rows_of fs (k + 1)) ≡ true

pub grown : (es fs : Entries) (k task weight : ℕ) (name : List ℕ) (next : Result Task Refusal) (t : Task) → length es.tasks ≡ 64 → k ≤ 64 → sound (rows_of es k) ≡ true → row_seen next ≡ row_unless (push_why (rows_of es k) task weight name) (row weight name) → next ≡ Ok t → fs.tasks ≡ set es.tasks k t → Grown es fs k task weight name
grown es fs k task weight name next t long within good told took filled =
    let add = added (push_why (rows_of es k) task weight name) (row_of t) (row weight name) (sym (ap row_seen took) ∙ told) in
    let new = fresh (rows_of es k) task weight name add.0 in
    let l = length-rows es k (omega arith) in
    let room = new.room in
    let e : rows_of fs (k + 1) ≡ rows_of es k ++ row weight name ∷ [] = rows_fill es fs k t (omega arith) filled ∙ ap (λ r. rows_of es k ++ r ∷ []) add.1 in
    record {
      left = e ∙ ap (λ o. unless_refused o (rows_of es k) (row weight name)) add.0;
      size = ap length filled ∙ length-set es.tasks k t ∙ long;
      room = omega arith;
      sound = ap sound e ∙ sound-push (rows_of es k) (row weight name) good new.weighed new.named new.alone;
    }

-- each name of a sound table can be shown, and so can the name of a task that it does not have
pub sound-name : (rs : List Row) (i : ℕ) → sound rs ≡ true → (length (name_in rs i) ≤ 12) × (printable_name (name_in rs i) ≡ true)
sound-name [] i s = (omega arith, refl)
sound-name (r ∷ rs) zero s = (grind (arith, nat_tests), grind (arith, nat_tests))
sound-name (r ∷ rs) (suc i) s = sound-name rs i (grind (arith, nat_tests))

-- and each weight is within its bounds
pub sound-weight : (rs : List Row) (i : ℕ) → sound rs ≡ true → (1 ≤ weight_in rs i) × (weight_in rs i ≤ 100)
sound-weight [] i s = (omega arith, omega arith)
sound-weight (r ∷ rs) zero s = (grind (arith, nat_tests), grind (arith, nat_tests))
sound-weight (r ∷ rs) (suc i) s = sound-weight rs i (grind (arith, nat_tests))

-- a table has at most 64 rows
pub rows_few : (table : TaskTable) → length (rows table) ≤ 64
rows_few table = omega (arith, length-rows table.entries table.count (omega (arith, table.size, table.room)), table.room)
