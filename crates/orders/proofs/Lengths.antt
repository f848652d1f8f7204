-- How many bytes an order's file has at most.
use Rattle.std.proofs.Common.{◌≡◌, ℕ, zero, suc, ◌+◌, ◌*◌, ◌≤◌, Bool, true, false, cond, ltb, List, [], ◌∷◌, ◌++◌, length, ap, arith, length-append}
use Rattle.fairness.specs.Plans.{Plan}
use Rattle.board.specs.Meaning.{Meaning}
use Rattle.tasks.specs.Rows.{Row, sound}
use Rattle.tasks.specs.Table.{name_in}
use Rattle.tasks.proofs.Steps.{sound-name}
use Rattle.records.specs.declared.kind.Kind.{Kind}
use Rattle.records.specs.declared.kind.Kind.TheVariants.{Need, Slots, End}
use Rattle.records.specs.Wire.{word, longest_file}
use Rattle.orders.specs.Encoding.{Line, line, bytes_of, each, head_line, core_line, task_line, pair_line, task_pairs, pair_lines}
use Rattle.orders.specs.Reads.{Order}
use Rattle.orders.specs.Laws.{Valid, encoding}
use Rattle.orders.proofs.Lines.{bytes-join}

-- how many bytes some lines have
abbrev pub size : List Line → ℕ
size lines = length (bytes_of lines)

pub size-join : (xs ys : List Line) → size (xs ++ ys) ≡ size xs + size ys
size-join xs ys = omega (arith, ap length (bytes-join xs ys), length-append (bytes_of xs) (bytes_of ys))

each-size : (n most : ℕ) (lines : ℕ → List Line) → ((i : ℕ) → size (lines i) ≤ most) → size (each n lines) ≤ n * most
each-size zero most lines short = omega arith
each-size (suc n) most lines short = omega (arith, size-join (each n lines) (lines n), each-size n most lines short, short n)

pair_size : (kind : Kind) (task core amount : ℕ) → size (pair_line kind task core amount) ≤ 8
pair_size kind task core amount = go (ltb 0 amount)
  where
    go : (some : Bool) → size (cond some (line kind (task ∷ core ∷ word amount) ∷ []) []) ≤ 8
    go true = omega arith
    go false = omega arith

task-size : (rows : List Row) → sound rows ≡ true → (task : ℕ) → size (task_line rows task) ≤ 18
task-size rows s task = omega (arith, length-append (name_in rows task) [], (sound-name rows task s).0)

pairs-size : (kind : Kind) (tasks cores : ℕ) (amounts : Plan) → tasks ≤ 64 → cores ≤ 16 → size (pair_lines kind tasks cores amounts) ≤ 8192
pairs-size kind tasks cores amounts few few_cores =
    omega (arith, few, each-size tasks 128 (task_pairs kind cores amounts) (λ task. omega (arith, few_cores, each-size cores 8 (λ core. pair_line kind task core (amounts task core)) (λ core. pair_size kind task core (amounts task core)))))

-- no order's file is longer than the longest
pub encoding-short : (m : Meaning) (order : Order) → Valid m order → length (encoding order) ≤ longest_file
encoding-short m order valid =
    let board = order.board in
    let rows = order.rows in
    let n = length rows in
    let cores = board.cores in
    let same : board.tasks ≡ m.tasks = ap (λ b. b.tasks) valid.fits in
    let few : n ≤ 64 = omega (arith, valid.listed, same, valid.board.few_tasks) in
    let few_cores = valid.board.few_cores in
    let head = head_line order.letter n cores in
    let core = each cores (core_line board.capacity) in
    let task = each n (task_line rows) in
    let need = pair_lines Need n cores board.need in
    let slot = pair_lines Slots n cores board.held in
    let lines = head ++ (core ++ (task ++ (need ++ slot))) in
    let last = line End (word (length lines)) ∷ [] in
    let core-size = each-size cores 7 (core_line board.capacity) (λ c. omega arith) in
    let tasks-size = each-size n 18 (task_line rows) (task-size rows valid.rows) in
    omega (
      arith,
      few,
      few_cores,
      size-join lines last,
      size-join head (core ++ (task ++ (need ++ slot))),
      size-join core (task ++ (need ++ slot)),
      size-join task (need ++ slot),
      size-join need slot,
      core-size,
      tasks-size,
      pairs-size Need n cores board.need few few_cores,
      pairs-size Slots n cores board.held few few_cores,
    )
