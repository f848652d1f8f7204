-- What a call from C is answered: 0 and a length, or a refusal's number, layer and place.
use Rattle.std.specs.Prelude.{ℕ, Ok, Err, Result}
use Rattle.board.specs.declared.fault.Fault.{Fault}
use Rattle.board.specs.Refusals.{number_of, layer_of}
use Rattle.orders.specs.Reads.{Outcome}
use Rattle.reporting.specs.declared.NoPlan.{NoPlan}
use Rattle.reporting.specs.declared.NoPlan.TheVariants.{Refused, OutOfMemory}
use Rattle.c_calls.specs.declared.answers.Answer.{Answer}

abbrev pub done : ℕ → Answer
done length = record { number = 0; layer = 0; place = 0; length = length }

abbrev pub refused_for : Fault → Answer
refused_for fault = record { number = number_of fault.refusal; layer = layer_of fault.refusal; place = fault.place; length = 0 }

-- what a call that writes is answered
abbrev pub answer_of : Result ℕ Fault → Answer
answer_of (Ok length) = done length
answer_of (Err fault) = refused_for fault

-- a file is accepted, or refused for its first fault
abbrev pub check_of : Outcome → Answer
check_of (Ok order) = done 0
check_of (Err fault) = refused_for fault

-- what a call that tests a file is told
abbrev pub accepted : Outcome → Result ℕ Fault
accepted (Ok order) = Ok 0
accepted (Err fault) = Err fault

-- there was not memory enough to make the text
abbrev pub no_memory : Answer
no_memory = record { number = 255; layer = 0; place = 0; length = 0 }

-- what a call that writes a plan's text is answered
abbrev pub shown_of : Result ℕ NoPlan → Answer
shown_of (Ok length) = done length
shown_of (Err (Refused fault)) = refused_for fault
shown_of (Err (OutOfMemory want)) = no_memory
