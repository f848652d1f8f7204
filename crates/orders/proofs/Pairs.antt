-- The needs and the slots of a file are the lines of what is read from them.
use Rattle.std.proofs.Common.{◌≡◌, ℕ, ◌<◌, ◌≤◌, true, List, [], ◌∷◌, ◌++◌, length, Some, None, Option, sym, refl, ap, ◌∙◌, subst, arith}
use Rattle.std.specs.List.{AllByRecursion}
use Rattle.std.proofs.lemmas.List.{length_push}
use Rattle.std.proofs.lemmas.Bool.Decides.{nat_tests}
use Rattle.fairness.specs.Plans.{Plan}
use Rattle.board.specs.Meaning.{Meaning, put}
use Rattle.records.specs.declared.kind.Kind.{Kind}
use Rattle.records.specs.declared.kind.Kind.TheVariants as kind
use Rattle.records.specs.declared.fields.PairLine.{PairLine}
use Rattle.records.specs.Wire.{word}
use Rattle.sections.specs.declared.state.Section.TheVariants as section
use Rattle.sections.specs.declared.state.Pair.{Pair}
use Rattle.sections.specs.declared.state.Reader.{Reader}
use Rattle.sections.specs.Turns.{follows}
use Rattle.orders.specs.Encoding.{Line, line, each, head_line, core_line, task_line, pair_lines}
use Rattle.orders.specs.Steps.{Reading}
use Rattle.orders.specs.Laws.{Byte}
use Rattle.orders.proofs.Pushes.{pairs-none, pairs-push}
use Rattle.orders.proofs.Bodies.{pair-body}
use Rattle.orders.proofs.Told.{PairTold}
use Rattle.orders.proofs.Taken.{NeedTaken, SlotsTaken, need_done, slots_done, slots_begun}
use Rattle.orders.proofs.Sofar.{NothingAfter, InNeeds, InSlots, Read, push-here, push-under}
use Rattle.orders.proofs.Opening.{Next}

abbrev pair_at : ℕ → ℕ → Pair
pair_at t c = record { task = t; core = c }

-- what comes after a pair that may come may come as well
follows-core : (last : Option Pair) (t c d : ℕ) → c ≤ d → follows (pair_at t c) last ≡ true → follows (pair_at t d) last ≡ true
follows-core None t c d le f = refl
follows-core (Some before) t c d le f = grind (arith, nat_tests)

follows-task : (last : Option Pair) (t c u d : ℕ) → t < u → follows (pair_at t c) last ≡ true → follows (pair_at u d) last ≡ true
follows-task None t c u d lt f = refl
follows-task (Some before) t c u d lt f = grind (arith, nat_tests)

follows_on : (last : Option Pair) (pair : Pair) (t c : ℕ) → follows (pair_at t c) last ≡ true → follows pair (Some (pair_at t c)) ≡ true → follows pair last ≡ true
follows_on None pair t c f g = refl
follows_on (Some before) pair t c f g = grind (arith, nat_tests)

put-before : (plan : Plan) (t c amount : ℕ) (pair : Pair) → follows pair (Some (pair_at t c)) ≡ true → put plan t c amount pair.task pair.core ≡ plan pair.task pair.core
put-before plan t c amount pair f = grind (arith, nat_tests)

nothing-on : (last : Option Pair) (plan : Plan) (t c amount : ℕ) → follows (pair_at t c) last ≡ true → NothingAfter last plan → NothingAfter (Some (pair_at t c)) (put plan t c amount)
nothing-on last plan t c amount f none pair g = put-before plan t c amount pair g ∙ none pair (follows_on last pair t c f g)

pairs-more : (kind : Kind) (n m : ℕ) (plan : Plan) (s : Reader) (body : List ℕ) (found : PairLine) → s.tasks ≡ n → s.cores ≡ m → NothingAfter s.last plan → PairTold s body found
    → pair_lines kind n m (put plan found.task found.core found.amount) ≡ pair_lines kind n m plan ++ line kind (found.task ∷ found.core ∷ word found.amount) ∷ []
pairs-more kind n m plan s body found tasks cores none told =
    let t = found.task in
    let c = found.core in
    let tn = told.on_tasks in
    let cm = told.on_cores in
    pairs-push kind n m plan t c found.amount (omega arith) (omega arith) told.some
    (λ d le. none (pair_at t d) (follows-core s.last t c d le told.rises))
    (λ u d lt. none (pair_at u d) (follows-task s.last t c u d lt told.rises))

pair-shape : (s : Reader) (body : List ℕ) (found : PairLine) → AllByRecursion Byte body → PairTold s body found → body ≡ found.task ∷ found.core ∷ word found.amount
pair-shape s body found bytes told = pair-body body bytes told.size ∙ ap (λ l. l.task ∷ l.core ∷ word l.amount) (sym told.says)

pub need-read : (m : Meaning) (s t : Reading) (lines : List Line) (body : List ℕ) → AllByRecursion Byte body → s.reader.section ≡ section.Needs → InNeeds m s lines → NeedTaken s t body → Next m t lines (line kind.Need body)
need-read m s t lines body bytes at r w =
    let h = r.sofar in
    let b = s.board in
    let found = w.line in
    let none = pairs-none kind.Slots m.tasks m.cores b.held r.held in
    let more = pairs-more kind.Need m.tasks m.cores b.need s.reader body found h.tasks h.cores r.need w.told in
    let seen = h.seen in
    let size = length_push lines (line kind.Need body) in
    subst (λ z. Next m z lines (line kind.Need body)) (sym w.comes)
    (subst (λ z. Read m z (need_done s found) (lines ++ line kind.Need body ∷ [])) (sym at) (record {
      sofar = record {
        tasks = h.tasks;
        cores = h.cores;
        some = h.some;
        letter = h.letter;
        seen = omega arith;
        board = w.board h.board;
        fits = h.fits;
        rows = h.rows;
        listed = h.listed;
        front =
            (λ i. h.front i ++ line kind.Need (pair-shape s.reader body found bytes w.told i) ∷ [])
            ∙ push-under (head_line s.reader.letter m.tasks m.cores) _ _ _
            (push-under (each s.reader.core (core_line b.capacity)) _ _ _
            (push-under (each (length s.rows) (task_line s.rows)) _ _ _
            (push-here _ _ _ _ none more)));
      };
      cores = r.cores;
      listed = r.listed;
      need = nothing-on s.reader.last b.need found.task found.core found.amount w.told.rises r.need;
      held = r.held;
    }))

pub slots_read : (m : Meaning) (s t : Reading) (lines : List Line) (body : List ℕ) → AllByRecursion Byte body → s.reader.section ≡ section.Slots → InSlots m s lines → SlotsTaken s t body → Next m t lines (line kind.Slots body)
slots_read m s t lines body bytes at r w =
    let h = r.sofar in
    let b = s.board in
    let found = w.line in
    let more = pairs-more kind.Slots m.tasks m.cores b.held s.reader body found h.tasks h.cores r.held w.told in
    let seen = h.seen in
    let size = length_push lines (line kind.Slots body) in
    subst (λ z. Next m z lines (line kind.Slots body)) (sym w.comes)
    (subst (λ z. Read m z (slots_done s found) (lines ++ line kind.Slots body ∷ [])) (sym at) (record {
      sofar = record {
        tasks = h.tasks;
        cores = h.cores;
        some = h.some;
        letter = h.letter;
        seen = omega arith;
        board = w.board h.board;
        fits = h.fits;
        rows = h.rows;
        listed = h.listed;
        front =
            (λ i. h.front i ++ line kind.Slots (pair-shape s.reader body found bytes w.told i) ∷ [])
            ∙ push-under (head_line s.reader.letter m.tasks m.cores) _ _ _
            (push-under (each s.reader.core (core_line b.capacity)) _ _ _
            (push-under (each (length s.rows) (task_line s.rows)) _ _ _
            (push-under (pair_lines kind.Need m.tasks m.cores b.need) _ _ _ (sym more))));
      };
      cores = r.cores;
      listed = r.listed;
      held = nothing-on s.reader.last b.held found.task found.core found.amount w.told.rises r.held;
    }))

-- where needs may come, slots may begin
pub slots-begin : (m : Meaning) (s : Reading) (lines : List Line) → InNeeds m s lines → InSlots m (slots_begun s) lines
slots-begin m s lines r =
    let h = r.sofar in
    record {
      sofar = record {
        tasks = h.tasks;
        cores = h.cores;
        some = h.some;
        letter = h.letter;
        seen = h.seen;
        board = h.board;
        fits = h.fits;
        rows = h.rows;
        listed = h.listed;
        front = h.front;
      };
      cores = r.cores;
      listed = r.listed;
      held = λ pair _. r.held pair.task pair.core;
    }
