-- The head, the cores and the tasks of a file are the lines of what is read from them.
use Rattle.std.proofs.Common.{◌≡◌, ℕ, suc, ◌+◌, eqb, List, [], ◌∷◌, ◌++◌, length, get_or, sym, refl, ap, ◌∙◌, subst, arith}
use Rattle.std.specs.List.{AllByRecursion}
use Rattle.std.proofs.lemmas.List.{length_push, get_or_push}
use Rattle.std.proofs.lemmas.Bool.Decides.{nat_tests}
use Rattle.std.proofs.lemmas.Bool.{cond_both, eqb-true, eqb-false}
use Rattle.board.specs.Meaning.{Meaning, Sound, cleared, with_capacity}
use Rattle.board.proofs.Changes.{cleared-sound}
use Rattle.records.specs.declared.kind.Kind.TheVariants as kind
use Rattle.records.specs.declared.fields.CoreLine.{CoreLine}
use Rattle.records.specs.Fields.{TaskSaid}
use Rattle.records.specs.Wire.{word}
use Rattle.tasks.specs.Rows.{Row, row}
use Rattle.tasks.specs.Table.{no_row}
use Rattle.tasks.proofs.Steps.{Fresh, sound-push}
use Rattle.sections.specs.declared.state.Section.TheVariants as section
use Rattle.sections.specs.declared.state.Reader.{Reader}
use Rattle.orders.specs.Encoding.{Line, line, each, head_line, core_line, task_line, pair_lines}
use Rattle.orders.specs.Steps.{Reading}
use Rattle.orders.specs.Reads.{before}
use Rattle.orders.specs.Laws.{Byte}
use Rattle.orders.proofs.Pushes.{pairs-none, cores-push, tasks-push}
use Rattle.orders.proofs.Bodies.{three, core-body, task-body}
use Rattle.orders.proofs.Told.{HeadTold, CoreTold, TaskTold}
use Rattle.orders.proofs.Taken.{HeadTaken, CoreTaken, TaskTaken, head_done, core_done, task_done}
use Rattle.orders.proofs.Sofar.{parts, Sofar, Nothing, InCores, InTasks, Read, push-here, push-under}

-- what holds with one line more
abbrev pub Next : Meaning → Reading → List Line → Line → Type 0
Next m t lines new = Read m t.reader.section t (lines ++ new ∷ [])

-- no pairs have lines yet
pub no_pairs : (n m : ℕ) (need held : ℕ → ℕ → ℕ) → Nothing need → Nothing held → pair_lines kind.Need n m need ++ pair_lines kind.Slots n m held ≡ []
no_pairs n m need held a b = (λ i. pairs-none kind.Need n m need a i ++ pairs-none kind.Slots n m held b i)

pub head_read : (m : Meaning) (s t : Reading) (lines : List Line) (body : List ℕ) → Sound m → Read m section.Head s lines → HeadTaken s t body → Next m t lines (line kind.Head body)
head_read m s t lines body sound r w =
    let head = w.line in
    let told = subst (λ z. HeadTold z.reader body head) r.0 w.told in
    let start : Reading = before (cleared m) [] in
    let comes : t ≡ head_done start head = w.comes ∙ ap (λ z. head_done z head) r.0 in
    let tasks = told.tasks in
    let cores = told.cores in
    let shape : body ≡ head.letter ∷ m.tasks ∷ m.cores ∷ [] =
    three body told.size ∙ ap (λ h. h.letter ∷ h.tasks ∷ h.cores ∷ []) (sym told.says) ∙ (λ i. head.letter ∷ tasks i ∷ cores i ∷ []) in
    let none = no_pairs m.tasks m.cores (λ _ _. 0) (λ _ _. 0) (λ _ _. refl) (λ _ _. refl) in
    let front : lines ++ line kind.Head body ∷ [] ≡ parts head.letter m.tasks m.cores 0 (λ _. 0) [] (λ _ _. 0) (λ _ _. 0) =
    ap (λ l. l ++ line kind.Head body ∷ []) r.1 ∙ (λ i. line kind.Head (shape i) ∷ []) ∙ ap (λ l. head_line head.letter m.tasks m.cores ++ l) (sym none) in
    let some = told.some in
    let cores-some = told.cores-some in
    let size = length_push lines (line kind.Head body) in
    let empty : length lines ≡ 0 = ap length r.1 in
    subst (λ z. Next m z lines (line kind.Head body)) (sym comes) (record {
      sofar = record {
        tasks = refl;
        cores = refl;
        some = omega arith;
        letter = told.letter;
        seen = omega arith;
        board = cleared-sound m sound;
        fits = refl;
        rows = refl;
        listed = refl;
        front = front;
      };
      left = omega arith;
      rows = refl;
      need = λ _ _. refl;
      held = λ _ _. refl;
    })

core-shape : (s : Reader) (body : List ℕ) (found : CoreLine) → AllByRecursion Byte body → CoreTold s body found → body ≡ s.core ∷ word found.capacity
core-shape s body found bytes told =
    core-body body bytes told.size ∙ ap (λ l. l.core ∷ word l.capacity) (sym told.says) ∙ ap (λ n. n ∷ word found.capacity) told.next

core-sofar : (m : Meaning) (s : Reading) (lines : List Line) (body : List ℕ) (found : CoreLine) → AllByRecursion Byte body → InCores m s lines → CoreTold s.reader body found
    → Sound (core_done s found).board → Sofar m (core_done s found) (lines ++ line kind.Core body ∷ [])
core-sofar m s lines body found bytes r told sound =
    let h = r.sofar in
    let k = s.reader.core in
    let b = s.board in
    let next : found.core ≡ k = told.next in
    let changed : ℕ → ℕ = (with_capacity b found.core found.capacity).capacity in
    let here : changed k ≡ found.capacity = grind (arith, nat_tests) in
    let count : suc k ≡ found.core + 1 = omega arith in
    let more : each (found.core + 1) (core_line changed) ≡ each k (core_line b.capacity) ++ core_line (λ _. found.capacity) k =
    ap (λ n. each n (core_line changed)) (sym count) ∙ cores-push k b.capacity changed found.capacity (λ i below. grind (arith, nat_tests)) here in
    let pairs = no_pairs m.tasks m.cores b.need b.held r.need r.held in
    let rest : each (length s.rows) (task_line s.rows) ++ (pair_lines kind.Need m.tasks m.cores b.need ++ pair_lines kind.Slots m.tasks m.cores b.held) ≡ [] =
    (λ i. each (length (r.rows i)) (task_line (r.rows i)) ++ pairs i) in
    let seen = h.seen in
    let size = length_push lines (line kind.Core body) in
    record {
      tasks = h.tasks;
      cores = h.cores;
      some = h.some;
      letter = h.letter;
      seen = omega arith;
      board = sound;
      fits = h.fits;
      rows = h.rows;
      listed = h.listed;
      front =
          (λ i. h.front i ++ line kind.Core (core-shape s.reader body found bytes told i) ∷ [])
          ∙ push-under (head_line s.reader.letter m.tasks m.cores) _ _ _ (push-here _ _ _ _ rest more);
    }

pub core-read : (m : Meaning) (s t : Reading) (lines : List Line) (body : List ℕ) → AllByRecursion Byte body → s.reader.section ≡ section.Cores → InCores m s lines → CoreTaken s t body → Next m t lines (line kind.Core body)
core-read m s t lines body bytes at r w =
    let found = w.line in
    let new : List Line = lines ++ line kind.Core body ∷ [] in
    let done : Reading = core_done s found in
    let h = core-sofar m s lines body found bytes r w.told (w.board r.sofar.board) in
    let next = w.told.next in
    let cores = r.sofar.cores in
    let left = r.left in
    let some = r.sofar.some in
    let none : length s.rows ≡ 0 = ap length r.rows in
    subst (λ z. Next m z lines (line kind.Core body)) (sym w.comes)
    (cond_both (eqb (found.core + 1) s.reader.cores) section.Tasks s.reader.section (λ z. Read m z done new)
    (λ last.
    let end = eqb-true _ _ last in
    record { sofar = h; cores = omega arith; left = omega arith; need = r.need; held = r.held })
    (λ on.
    let more = eqb-false _ _ on in
    subst (λ z. Read m z done new) (sym at) (record { sofar = h; left = omega arith; rows = r.rows; need = r.need; held = r.held })))

task-shape : (s : Reader) (body : List ℕ) (found : TaskSaid) → TaskTold s body found → body ≡ found.task ∷ found.weight ∷ found.name
task-shape s body found told =
    let size = told.size in
    task-body body (omega arith) ∙ ap (λ l. l.task ∷ l.weight ∷ l.name) (sym told.says)

task-sofar : (m : Meaning) (s : Reading) (lines : List Line) (body : List ℕ) (found : TaskSaid) → InTasks m s lines → TaskTold s.reader body found
    → Fresh s.rows found.task found.weight found.name → Sofar m (task_done s found) (lines ++ line kind.Task body ∷ [])
task-sofar m s lines body found r told new =
    let h = r.sofar in
    let k = length s.rows in
    let b = s.board in
    let added : Row = row found.weight found.name in
    let rows : List Row = s.rows ++ added ∷ [] in
    let shape : body ≡ k ∷ (get_or rows k no_row).weight ∷ (get_or rows k no_row).name =
    task-shape s.reader body found told ∙ ap (λ n. n ∷ found.weight ∷ found.name) new.next
    ∙ ap (λ r. k ∷ r.weight ∷ r.name) (sym (get_or_push s.rows added no_row k refl)) in
    let rest = no_pairs m.tasks m.cores b.need b.held r.need r.held in
    let seen = h.seen in
    let next = told.next in
    let listed = h.listed in
    let size = length_push lines (line kind.Task body) in
    let count = length_push s.rows added in
    record {
      tasks = h.tasks;
      cores = h.cores;
      some = h.some;
      letter = h.letter;
      seen = omega arith;
      board = h.board;
      fits = h.fits;
      rows = sound-push s.rows added h.rows new.weighed new.named new.alone;
      listed = omega arith;
      front =
          (λ i. h.front i ++ line kind.Task (shape i) ∷ [])
          ∙ push-under (head_line s.reader.letter m.tasks m.cores) _ _ _
          (push-under (each s.reader.core (core_line b.capacity)) _ _ _
          (push-here _ _ _ _ rest (tasks-push s.rows added)));
    }

pub task-read : (m : Meaning) (s t : Reading) (lines : List Line) (body : List ℕ) → s.reader.section ≡ section.Tasks → InTasks m s lines → TaskTaken s t body → Next m t lines (line kind.Task body)
task-read m s t lines body at r w =
    let found = w.line in
    let new : List Line = lines ++ line kind.Task body ∷ [] in
    let done : Reading = task_done s found in
    let h = task-sofar m s lines body found r w.told w.new in
    let next = w.told.next in
    let tasks = r.sofar.tasks in
    let left = r.left in
    let listed = r.sofar.listed in
    let count = length_push s.rows (row found.weight found.name) in
    subst (λ z. Next m z lines (line kind.Task body)) (sym w.comes)
    (cond_both (eqb (found.task + 1) s.reader.tasks) section.Needs s.reader.section (λ z. Read m z done new)
    (λ last.
    let end = eqb-true _ _ last in
    record { sofar = h; cores = r.cores; listed = omega arith; need = λ pair _. r.need pair.task pair.core; held = r.held })
    (λ on.
    let more = eqb-false _ _ on in
    subst (λ z. Read m z done new) (sym at) (record { sofar = h; cores = r.cores; left = omega arith; need = r.need; held = r.held })))
