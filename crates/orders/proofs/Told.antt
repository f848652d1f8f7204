-- What is known of a record's body and numbers once the reader has let it pass.
use Rattle.std.proofs.Common.{◌≡◌, ℕ, ◌-◌, ◌<◌, ◌≤◌, true, List, length, get_or, take, drop, Some, None, Ok, Err, Option, Result, sym, refl, ap, ◌∙◌, subst, arith}
use Rattle.std.proofs.lemmas.Bool.Decides.{nat_tests}
use Rattle.board.specs.declared.fault.Refusal.{Refusal}
use Rattle.records.specs.declared.fields.HeadLine.{HeadLine}
use Rattle.records.specs.declared.fields.CoreLine.{CoreLine}
use Rattle.records.specs.declared.fields.PairLine.{PairLine}
use Rattle.records.specs.Fields.{TaskSaid, head_in, core_in, task_in, pair_in, count_in}
use Rattle.records.specs.Wire.{word_at}
use Rattle.sections.specs.declared.letter.Sharing.{Sharing}
use Rattle.sections.specs.declared.letter.Sharing.TheVariants.{Even, Weighted, ByNeed}
use Rattle.sections.specs.declared.state.Reader.{Reader}
use Rattle.sections.specs.Letters.{sharing_of, letter_of, head_lettered, head_found, head_test}
use Rattle.sections.specs.Turns.{head_fits, core_fits, core_told, task_fits, task_told, pair_fits, pair_told, pair_of, follows, end_fits, end_told}
use Rattle.orders.specs.Laws.{Known}

abbrev is_ok : {A E : Type 0} → Result A E → Type 0
is_ok (Ok x) = Unit {0}
is_ok (Err why) = ⊥

-- a refusal is no answer
pub never : {A E : Type 0} {P : Type 0} (why : E) (x : A) → ◌≡◌ {A = Result A E} (Err why) (Ok x) → P
never why x e = absurd (subst is_ok (sym e) tt)

abbrev given : {A E : Type 0} → A → Result A E → A
given x (Ok y) = y
given x (Err why) = x

pub ok_same : {A E : Type 0} (x y : A) → ◌≡◌ {A = Result A E} (Ok x) (Ok y) → x ≡ y
ok_same x y e = ap (given x) e

known : (letter : ℕ) (sharing : Sharing) → sharing_of letter ≡ Some sharing → letter ≡ letter_of sharing
known letter Even e = grind (arith, nat_tests)
known letter Weighted e = grind (arith, nat_tests)
known letter ByNeed e = grind (arith, nat_tests)

pub record HeadTold (s : Reader) (body : List ℕ) (head : HeadLine) : Type 0 where
  pub size : length body ≡ 3
  pub says : head ≡ record { letter = get_or body 0 0; tasks = get_or body 1 0; cores = get_or body 2 0 }
  pub letter : Known head.letter
  pub some : 1 ≤ head.tasks
  pub cores-some : 1 ≤ head.cores
  pub tasks : head.tasks ≡ s.tasks
  pub cores : head.cores ≡ s.cores

head-fits : (s : Reader) (head : HeadLine) (r : Result HeadLine Refusal) → head_fits s r ≡ Ok head → (r ≡ Ok head) × (head.tasks ≡ s.tasks) × (head.cores ≡ s.cores)
head-fits s head (Err why) e = never why head e
head-fits s head (Ok found) e = (grind (arith, nat_tests), grind (arith, nat_tests), grind (arith, nat_tests))

head-lettered : (found head : HeadLine) (o : Option Sharing) → head_lettered found o ≡ Ok head → (sharing : Sharing) × (o ≡ Some sharing) × (found ≡ head) × (1 ≤ head.tasks) × (1 ≤ head.cores)
head-lettered found head None e = never _ head e
head-lettered found head (Some sharing) e = (sharing, refl, grind (arith, nat_tests), grind (arith, nat_tests), grind (arith, nat_tests))

head-found : (head : HeadLine) (o : Option HeadLine) → head_found o ≡ Ok head → (o ≡ Some head) × Known head.letter × (1 ≤ head.tasks) × (1 ≤ head.cores)
head-found head None e = never _ head e
head-found head (Some found) e =
    let p = head-lettered found head (sharing_of found.letter) e in
    (ap Some p.2, (p.0, ap (λ h. h.letter) (sym p.2) ∙ known found.letter p.0 p.1), p.3, p.4)

pub head-told : (s : Reader) (body : List ℕ) (head : HeadLine) → head_fits s (head_test body) ≡ Ok head → HeadTold s body head
head-told s body head e =
    let p = head-fits s head (head_test body) e in
    let q = head-found head (head_in body) p.0 in
    let r : head_in body ≡ Some head = q.0 in
    record { size = grind (arith, nat_tests); says = grind (arith, nat_tests); letter = q.1; some = q.2; cores-some = q.3; tasks = p.1; cores = p.2 }

pub record CoreTold (s : Reader) (body : List ℕ) (line : CoreLine) : Type 0 where
  pub size : length body ≡ 3
  pub says : line ≡ record { core = get_or body 0 0; capacity = word_at body 1 }
  pub next : line.core ≡ s.core

core-fits : (s : Reader) (line : CoreLine) (o : Option CoreLine) → core_fits s o ≡ Ok line → (o ≡ Some line) × (line.core ≡ s.core)
core-fits s line None e = never _ line e
core-fits s line (Some found) e = (grind (arith, nat_tests), grind (arith, nat_tests))

pub core-told : (s : Reader) (body : List ℕ) (line : CoreLine) → core_told s body ≡ Ok line → CoreTold s body line
core-told s body line e =
    let p = core-fits s line (core_in body) e in
    let r : core_in body ≡ Some line = p.0 in
    record { size = grind (arith, nat_tests); says = grind (arith, nat_tests); next = p.1 }

pub record TaskTold (s : Reader) (body : List ℕ) (line : TaskSaid) : Type 0 where
  pub size : 3 ≤ length body
  pub says : line ≡ record { task = get_or body 0 0; weight = get_or body 1 0; name = take (length body - 2) (drop 2 body) }
  pub next : line.task ≡ s.task

task-fits : (s : Reader) (line : TaskSaid) (o : Option TaskSaid) → task_fits s o ≡ Ok line → (o ≡ Some line) × (line.task ≡ s.task)
task-fits s line None e = never _ line e
task-fits s line (Some found) e = (grind (arith, nat_tests), grind (arith, nat_tests))

pub task-told : (s : Reader) (body : List ℕ) (line : TaskSaid) → task_told s body ≡ Ok line → TaskTold s body line
task-told s body line e =
    let p = task-fits s line (task_in body) e in
    let r : task_in body ≡ Some line = p.0 in
    record { size = grind (arith, nat_tests); says = grind (arith, nat_tests); next = p.1 }

pub record PairTold (s : Reader) (body : List ℕ) (line : PairLine) : Type 0 where
  pub size : length body ≡ 4
  pub says : line ≡ record { task = get_or body 0 0; core = get_or body 1 0; amount = word_at body 2 }
  pub on_tasks : line.task < s.tasks
  pub on_cores : line.core < s.cores
  pub rises : follows (pair_of line) s.last ≡ true
  pub some : 0 < line.amount

pair_fits-kept : (s : Reader) (line : PairLine) (o : Option PairLine) → pair_fits s o ≡ Ok line → (o ≡ Some line) × (line.task < s.tasks) × (line.core < s.cores) × (follows (pair_of line) s.last ≡ true) × (0 < line.amount)
pair_fits-kept s line None e = never _ line e
pair_fits-kept s line (Some found) e = (grind (arith, nat_tests), grind (arith, nat_tests), grind (arith, nat_tests), grind (arith, nat_tests), grind (arith, nat_tests))

pub pair-told : (s : Reader) (body : List ℕ) (line : PairLine) → pair_told s body ≡ Ok line → PairTold s body line
pair-told s body line e =
    let p = pair_fits-kept s line (pair_in body) e in
    let r : pair_in body ≡ Some line = p.0 in
    record { size = grind (arith, nat_tests); says = grind (arith, nat_tests); on_tasks = p.1; on_cores = p.2; rises = p.3; some = p.4 }

end_fits-count : (seen : ℕ) (o : Option ℕ) → end_fits seen o ≡ Ok tt → o ≡ Some seen
end_fits-count seen None e = never _ tt e
end_fits-count seen (Some count) e = grind (arith, nat_tests)

pub end-told : (seen : ℕ) (body : List ℕ) → end_told seen body ≡ Ok tt → (length body ≡ 2) × (word_at body 0 ≡ seen)
end-told seen body e =
    let r : count_in body ≡ Some seen = end_fits-count seen (count_in body) e in
    (grind (arith, nat_tests), grind (arith, nat_tests))
