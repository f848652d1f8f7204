-- What each call from C leaves in the memory that it was lent, and what it answers.
use Rattle.std.specs.Prelude.{◌≡◌, ℕ, cond, ◌⊎◌, List, length, Some, None, Ok, Err, Option, Result, nat_lt}
use Rattle.fairness.specs.Plans.{Plan}
use Rattle.fairness.specs.Laws.{Comparison}
use Rattle.board.specs.declared.fault.Fault.{Fault}
use Rattle.board.specs.declared.fault.Refusal.{Refusal}
use Rattle.board.specs.declared.fault.Refusal.TheVariants.{OutputTooShort}
use Rattle.board.specs.Meaning.{Meaning, planned}
use Rattle.routes.specs.declared.Step.{Step}
use Rattle.levelling.specs.Levelled.{FairestOn}
use Rattle.judge.specs.declared.Verdict.{Verdict}
use Rattle.judge.specs.declared.Verdict.TheVariants as verdict
use Rattle.judge.specs.Verdicts.{Judged}
use Rattle.tasks.specs.Rows.{Row}
use Rattle.orders.specs.Reads.{Outcome}
use Rattle.order_writer.specs.Writing.{Written, told, left}
use Rattle.letters.specs.Letters.{ByLetter}
use Rattle.reporting.specs.declared.NoPlan.{NoPlan}
use Rattle.reporting.specs.declared.NoPlan.TheVariants.{Refused}
use Rattle.reporting.specs.Reports.{ShownBy, WantOfMemory}
use Rattle.c_calls.specs.declared.answers.Answer.{Answer}
use Rattle.c_calls.specs.declared.answers.Judgement.{Judgement}
use Rattle.c_calls.specs.Answers.{done, refused_for, answer_of, shown_of}

-- the verdict by number: 0 passed, 1 a free slot with its core and task, 2 a route with its steps and its loser
abbrev pub verdict_of : Verdict → Judgement
verdict_of verdict.Passed = record { answer = done 0; verdict = 0; core = 0; task = 0; steps = 0; loser = 0 }
verdict_of (verdict.Free core task) = record { answer = done 0; verdict = 1; core = core; task = task; steps = 0; loser = 0 }
verdict_of (verdict.Route steps loser) = record { answer = done 0; verdict = 2; core = 0; task = 0; steps = steps; loser = loser }

abbrev pub judgement_of : Result Verdict Fault → Judgement
judgement_of (Ok verdict) = verdict_of verdict
judgement_of (Err fault) = record { answer = refused_for fault; verdict = 0; core = 0; task = 0; steps = 0; loser = 0 }

-- the judge's answer on a board under the rule of a letter, with the weights of the tasks
abbrev pub JudgedBy : ℕ → Meaning → List Row → List Step → List Step → Result Verdict Fault → Type 0
JudgedBy letter m rows before after r = ByLetter letter rows (λ compare. Judged compare m before after r)

-- the slots of an accepted file are judged; of any other the fault is told, and the list is as it was
abbrev pub OrderJudged : Outcome → List Step → List Step → Result Verdict Fault → Type 0
OrderJudged (Ok order) before after r = JudgedBy order.letter order.board order.rows before after r
OrderJudged (Err fault) before after r = (r ≡ Err fault) × (after ≡ before)

pub record FileJudged (outcome : Outcome) (before after : List Step) (r : Judgement) : Type 0 where
  pub verdict : Result Verdict Fault
  pub judged : OrderJudged outcome before after verdict
  pub told : r ≡ judgement_of verdict

-- the file of a board with a fairest plan on it is written, or refused as writing is
pub record PlanWritten (compare : Comparison) (letter : ℕ) (m : Meaning) (rows : List Row) (before after : List ℕ) (r : Result ℕ Fault) : Type 0 where
  pub held : Plan
  pub fairest : FairestOn compare (planned m held)
  pub written : Written letter rows (planned m held) before after r

-- the same under the rule of the letter, with the weights of the tasks
abbrev pub PlanWrittenBy : ℕ → Meaning → List Row → List ℕ → List ℕ → Result ℕ Fault → Type 0
PlanWrittenBy letter m rows before after r = ByLetter letter rows (λ compare. PlanWritten compare letter m rows before after r)

-- the plan of an accepted file is written; of any other the fault is told, and the output is as it was
abbrev pub OrderPlanned : Outcome → List ℕ → List ℕ → Result ℕ Fault → Type 0
OrderPlanned (Ok order) before after r = PlanWrittenBy order.letter order.board order.rows before after r
OrderPlanned (Err fault) before after r = (r ≡ Err fault) × (after ≡ before)

pub record FilePlanned (outcome : Outcome) (before after : List ℕ) (r : Answer) : Type 0 where
  pub wrote : Result ℕ Fault
  pub planned : OrderPlanned outcome before after wrote
  pub told : r ≡ answer_of wrote

abbrev pub too_short : ℕ → ℕ → Option Refusal
too_short room long = cond (nat_lt room long) (Some OutputTooShort) None

-- a fault in writing is a reason for no plan
abbrev pub unshown : Result ℕ Fault → Result ℕ NoPlan
unshown (Ok length) = Ok length
unshown (Err fault) = Err (Refused fault)

-- the text stands at the output's front, or the output is too short for it and as it was
pub record TextGiven (letter : ℕ) (m : Meaning) (rows : List Row) (before after : List ℕ) (r : Result ℕ NoPlan) : Type 0 where
  pub text : List ℕ
  pub shown : ShownBy letter m rows text
  pub told : r ≡ unshown (told (too_short (length before) (length text)) (length text))
  pub left : after ≡ left (too_short (length before) (length text)) text before

-- there was no memory for the text
abbrev pub NoMemory : Result ℕ NoPlan → Type 0
NoMemory (Ok length) = ⊥
NoMemory (Err why) = WantOfMemory why

-- the text of an accepted file's plan is given, or there was no memory for it; of any other the fault is told, and the output is as it was
abbrev pub OrderShown : Outcome → List ℕ → List ℕ → Result ℕ NoPlan → Type 0
OrderShown (Ok order) before after r = TextGiven order.letter order.board order.rows before after r ⊎ (NoMemory r × (after ≡ before))
OrderShown (Err fault) before after r = (r ≡ Err (Refused fault)) × (after ≡ before)

pub record FileShown (outcome : Outcome) (before after : List ℕ) (r : Answer) : Type 0 where
  pub wrote : Result ℕ NoPlan
  pub shown : OrderShown outcome before after wrote
  pub told : r ≡ shown_of wrote
