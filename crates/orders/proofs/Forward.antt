-- The lines of an order that the board can hold are all taken in, and give that order.
use Rattle.std.proofs.Common.{◌≡◌, ℕ, ◌+◌, ◌≤◌, true, eqb, List, [], ◌∷◌, ◌++◌, length, Some, None, Ok, Option, sym, refl, ap, ◌∙◌, subst, subst₂, arith}
use Rattle.std.proofs.lemmas.Bool.{cond-true, eq-eqb}
use Rattle.board.specs.Meaning.{Meaning, Sound, cleared, planned}
use Rattle.tasks.specs.Rows.{Row}
use Rattle.tasks.specs.Rows as rows
use Rattle.records.specs.declared.kind.Kind.TheVariants as kind
use Rattle.records.specs.Wire.{word}
use Rattle.sections.specs.declared.state.Section.TheVariants as section
use Rattle.sections.specs.declared.state.Pair.{Pair}
use Rattle.sections.specs.Turns.{start, is_ended, unless_refused, end_fits, end_told, end_next, end_left}
use Rattle.sections.specs.Lines.{Said, saying, line_in, left_in}
use Rattle.orders.specs.Encoding.{Line, line, each, head_line, core_line, task_line, pair_lines, order_lines, with_end}
use Rattle.orders.specs.Steps.{then, Reading, reading}
use Rattle.orders.specs.Reads.{Order, before, order_of}
use Rattle.orders.specs.Laws.{Known, Valid}
use Rattle.orders.proofs.Lines.{cut_of, folded, folded-step, word_back}
use Rattle.orders.proofs.Takes.{past, folded-join, State, state, Takes, takes-join, step-done}
use Rattle.orders.proofs.CoresTaken.{reader, roomy, some-cores, head-taken, cores-taken}
use Rattle.orders.proofs.TasksTaken.{tasks-taken}
use Rattle.orders.proofs.Amounts.{up-to-none, up-to-all}
use Rattle.orders.proofs.PairsTaken.{paired, pairs-taken}
use Rattle.orders.proofs.NeedsTaken.{needing, needs, needs-fit, slots_wait, slots, slots-fit}

-- the lines of an order, the last one too
abbrev pub all_lines : Order → List Line
all_lines order = with_end (order_lines order.letter order.board.cores order.board.capacity order.rows order.board.need order.board.held)

-- taken in on a clear board from the place `at` on, they end the file and give the order
abbrev pub Folds : Meaning → Order → ℕ → Type 0
Folds clear order at = (t : Reading) × (folded (before clear []) at (all_lines order) ≡ Ok t) × (is_ended t.reader.section ≡ true) × (order_of (Ok t) ≡ Ok order)

module _ (board : Meaning) (letter : ℕ) (table : List Row) (known : Known letter) (some : 1 ≤ board.tasks) (listed : length table ≡ board.tasks) (rows_sound : rows.sound table ≡ true) (sound : Sound board) where
  abbrev tasks : ℕ
  tasks = board.tasks

  abbrev cores : ℕ
  cores = board.cores

  abbrev opening : State
  opening = state (start tasks cores) (cleared board) []

  abbrev needs_begin : State
  needs_begin = state (reader section.Needs letter tasks cores cores tasks) (roomy board board.capacity) table

  abbrev slots_begin : Option Pair → State
  slots_begin last = state (paired section.Needs letter tasks cores last) (planned board (λ _ _. 0)) table

  -- all slots are read; they began after the need `before`
  abbrev ready : Option Pair → Option Pair → State
  ready before last = state (slots_wait letter tasks cores before last) board table

  needs-taken : (last : Option Pair) × Takes needs_begin (pair_lines kind.Need tasks cores board.need) (slots_begin last)
  needs-taken =
      let plan = board.need in
      let taken = pairs-taken letter tasks cores table plan (needs board letter) (needs-fit board letter table sound) in
      let last = taken.0 in
      let wait = paired section.Needs letter tasks cores in
      (last, subst₂ (λ a b. Takes (state (wait None) (needing board a) table) (pair_lines kind.Need tasks cores plan) (state (wait last) (needing board b) table)) (up-to-none plan) (up-to-all tasks plan sound.beyond_tasks) taken.1)

  slots-taken : (before : Option Pair) → (last : Option Pair) × Takes (slots_begin before) (pair_lines kind.Slots tasks cores board.held) (ready before last)
  slots-taken before =
      let plan = board.held in
      let taken = pairs-taken letter tasks cores table plan (slots board letter before) (slots-fit board letter table sound before) in
      let last = taken.0 in
      let wait = slots_wait letter tasks cores before in (
        last,
        subst₂ (λ a b. Takes (state (wait None) (planned board a) table) (pair_lines kind.Slots tasks cores plan) (state (wait last) (planned board b) table)) (up-to-none plan)
            (up-to-all tasks plan (λ task core off. omega (arith, sound.covered task core, sound.beyond_tasks task core off))) taken.1,
      )

  abbrev lines_of : ℕ → List Line
  lines_of n = head_line letter n cores ++ (each cores (core_line board.capacity) ++ (each n (task_line table) ++ (pair_lines kind.Need n cores board.need ++ pair_lines kind.Slots n cores board.held)))

  lines-taken : (before : Option Pair) × (last : Option Pair) × Takes opening (lines_of tasks) (ready before last)
  lines-taken =
      let head = head-taken board letter known some sound in
      let core = cores-taken board letter sound (some-cores board sound some) in
      let task = tasks-taken (roomy board board.capacity) letter tasks cores table rows_sound (omega (arith, sound.few_tasks)) listed some in
      let need = needs-taken in
      let slot = slots-taken need.0 in
      let end = ready need.0 slot.0 in
      let cores-begin = state (reader section.Cores letter tasks cores 0 0) (cleared board) [] in
      let tasks-begin = state (reader section.Tasks letter tasks cores cores 0) (roomy board board.capacity) [] in
      let slot-lines = pair_lines kind.Slots tasks cores board.held in
      let need-lines = pair_lines kind.Need tasks cores board.need in
      let task-lines = each tasks (task_line table) in
      let core-lines = each cores (core_line board.capacity) in
      let pairs = takes-join needs_begin (slots_begin need.0) end need-lines slot-lines need.1 slot.1 in
      let numbered = takes-join tasks-begin needs_begin end task-lines (need-lines ++ slot-lines) task pairs in
      let body = takes-join cores-begin tasks-begin end core-lines (task-lines ++ (need-lines ++ slot-lines)) core numbered in
      (need.0, slot.0, takes-join opening cores-begin end (head_line letter tasks cores) (core-lines ++ (task-lines ++ (need-lines ++ slot-lines))) head body)

  end-told : (before last : Option Pair) (seen : ℕ) (body : List ℕ) → line_in (slots_wait letter tasks cores before last).section kind.End (slots_wait letter tasks cores before last) seen body ≡ saying (λ _. Said.end) (end_told seen body)
  end-told before None seen body = refl
  end-told before (Some pair) seen body = refl

  end-left : (before last : Option Pair) (seen : ℕ) (body : List ℕ) → left_in (slots_wait letter tasks cores before last).section kind.End (slots_wait letter tasks cores before last) seen body ≡ end_left (slots_wait letter tasks cores before last) seen body
  end-left before None seen body = refl
  end-left before (Some pair) seen body = refl

  lettered : (before last : Option Pair) → (slots_wait letter tasks cores before last).letter ≡ letter
  lettered before None = refl
  lettered before (Some pair) = refl

  -- an order's lines with the end, on the clear board
  pub folds : (at : ℕ) → Folds (cleared board) (record { letter = letter; board = board; rows = table }) at
  folds at =
      let taken = lines-taken in
      let lines = lines_of (length table) in
      let count = length lines in
      let seen = 0 + count in
      let last = taken.1 in
      let r = slots_wait letter tasks cores taken.0 last in
      let s = reading r seen board table in
      let t = reading (end_next r tt) (seen + 1) board table in
      let all : folded (opening 0) at lines ≡ Ok s = subst (λ n. Takes opening (lines_of n) (ready taken.0 last)) (sym listed) taken.2 0 at in
      let place = past at lines in
      let counted : end_told seen (word count) ≡ Ok tt = ap (λ n. end_fits seen (Some n)) (word_back count) ∙ cond-true (eqb count seen) (Ok tt) _ (eq-eqb count seen (omega arith)) in
      let ends = step-done r board table (end_next r tt) board table seen (cut_of (line kind.End (word count)) place) Said.end
      (end-told taken.0 last seen (word count) ∙ ap (saying (λ _. Said.end)) counted)
      (end-left taken.0 last seen (word count) ∙ ap (λ found. unless_refused found r (end_next r)) counted) refl refl refl in (
        t,
        folded-join (opening 0) at lines (line kind.End (word count) ∷ []) ∙ ap (λ found. then found (λ u. folded u place (line kind.End (word count) ∷ []))) all ∙ folded-step s t place (line kind.End (word count)) [] ends,
        refl,
        ap (λ l. Ok (record { letter = l; board = board; rows = table })) (lettered taken.0 last),
      )

pub order-folds : (m : Meaning) (order : Order) → Valid m order → (at : ℕ) → Folds (cleared m) order at
order-folds m order valid at =
    let same : order.board.tasks ≡ m.tasks = ap (λ b. b.tasks) valid.fits in
    subst (λ clear. Folds clear order at) valid.fits
    (folds order.board order.letter order.rows valid.letter (omega (arith, same, valid.tasks)) (valid.listed ∙ sym same) valid.rows valid.board at)
