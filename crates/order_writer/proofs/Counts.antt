-- How many lines there are at most, so that few are written after each part.
use Rattle.std.proofs.Common.{ℕ, zero, suc, ◌+◌, ◌*◌, ◌≤◌, Bool, true, false, cond, ltb, List, [], ◌∷◌, length, arith, length-append}
use Rattle.fairness.specs.Plans.{Plan}
use Rattle.records.specs.declared.kind.Kind.{Kind}
use Rattle.records.specs.Wire.{word}
use Rattle.tasks.specs.declared.table.TaskTable.{TaskTable}
use Rattle.tasks.specs.Table.{rows}
use Rattle.order_writer.specs.declared.output.Output.{Output}
use Rattle.order_writer.specs.Outputs.{Continued, Few}
use Rattle.tasks.proofs.Steps.{rows_few}
use Rattle.orders.specs.Encoding.{head_line, Line, line, each, core_line, task_line, pair_line, task_pairs, pair_lines}

pub each-few : (n most : ℕ) (lines : ℕ → List Line) → ((i : ℕ) → length (lines i) ≤ most) → length (each n lines) ≤ n * most
each-few zero most lines short = omega arith
each-few (suc n) most lines short = omega (arith, length-append (each n lines) (lines n), each-few n most lines short, short n)

pub one_at_most : (x : Line) (b : Bool) → length (cond b (x ∷ []) []) ≤ 1
one_at_most x true = omega arith
one_at_most x false = omega arith

pub pairs-few : (kind : Kind) (cores : ℕ) (amounts : Plan) (task : ℕ) → length (task_pairs kind cores amounts task) ≤ cores
pairs-few kind cores amounts task =
    omega (arith, each-few cores 1 (λ core. pair_line kind task core (amounts task core)) (λ core. one_at_most (line kind (task ∷ core ∷ word (amounts task core))) (ltb 0 (amounts task core))))

pub cores-few : (cores : ℕ) (capacity : ℕ → ℕ) → length (each cores (core_line capacity)) ≤ cores
cores-few cores capacity = omega (arith, each-few cores 1 (core_line capacity) (λ core. omega arith))

pub tasks-few : (count : ℕ) (table : TaskTable) → length (each count (task_line (rows table))) ≤ count
tasks-few count table = omega (arith, each-few count 1 (task_line (rows table)) (λ task. omega arith))

pub all-pairs-few : (kind : Kind) (tasks cores : ℕ) (amounts : Plan) → cores ≤ 16 → length (pair_lines kind tasks cores amounts) ≤ tasks * 16
all-pairs-few kind tasks cores amounts few = each-few tasks 16 (task_pairs kind cores amounts) (λ task. omega (arith, pairs-few kind cores amounts task, few))

-- few lines more are still few
pub few_on : {from to : Output} {lines : List Line} (most more all : ℕ) → Few most from → Continued from to lines → length lines ≤ more → most + more ≤ all → Few all to
few_on most more all few done short fit = record {
  bytes = omega (arith, few.bytes, done.near);
  records = omega (arith, few.records, done.counted, short, fit);
}

pub few-more : {done : Output} (most all : ℕ) → most ≤ all → Few most done → Few all done
few-more most all more few = record { bytes = few.bytes; records = omega (arith, few.records) }

pub after-head : {from to : Output} (letter tasks cores : ℕ) → Few 0 from → Continued from to (head_line letter tasks cores) → Few 1 to
after-head letter tasks cores fresh head = few_on 0 1 1 fresh head (omega arith) (omega arith)

pub after-cores : {from to : Output} (cores : ℕ) (capacity : ℕ → ℕ) → cores ≤ 16 → Few 1 from → Continued from to (each cores (core_line capacity)) → Few 17 to
after-cores cores capacity few before part = few_on 1 16 17 before part (omega (arith, cores-few cores capacity, few)) (omega arith)

pub after-tasks : {from to : Output} (table : TaskTable) → Few 17 from → Continued from to (each (length (rows table)) (task_line (rows table))) → Few 81 to
after-tasks table before part = few_on 17 64 81 before part (omega (arith, tasks-few (length (rows table)) table, rows_few table)) (omega arith)

pub after-pairs : {from to : Output} (most : ℕ) (kind : Kind) (tasks cores : ℕ) (amounts : Plan) → tasks ≤ 64 → cores ≤ 16 → Few most from → Continued from to (pair_lines kind tasks cores amounts) → Few (most + 1024) to
after-pairs most kind tasks cores amounts few_tasks few_cores before part =
    few_on most 1024 (most + 1024) before part (omega (arith, all-pairs-few kind tasks cores amounts few_cores, few_tasks)) (omega arith)
