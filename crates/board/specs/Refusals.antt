-- Each refusal's number and layer.
use Rattle.std.specs.Prelude.{ℕ, List, ◌++◌, codes, decimal}
use Rattle.board.specs.declared.fault.Refusal.{Refusal}
use Rattle.board.specs.declared.fault.Refusal.TheVariants.{FileTooLong, RecordCutShort, UnknownKind, KindOutOfTurn, WrongLength, NumberOutOfTurn, ValueOutOfBounds, BadName, SizesDiffer, WrongCount, BytesAfterEnd, NoSuchTaskOrCore, AmountTooLarge, SlotsOverNeed, CoreOverCapacity, NoPairLeft, CannotBeMade, RouteListTooShort, OutputTooShort}
use Rattle.board.specs.declared.fault.Layer.{Layer}
use Rattle.board.specs.declared.fault.Layer.TheVariants.{File, Board, Judge}
use Rattle.board.specs.declared.fault.Fault.{Fault}

abbrev pub number_of : Refusal → ℕ
number_of FileTooLong = 1
number_of RecordCutShort = 2
number_of UnknownKind = 3
number_of KindOutOfTurn = 4
number_of WrongLength = 5
number_of NumberOutOfTurn = 6
number_of ValueOutOfBounds = 7
number_of BadName = 8
number_of SizesDiffer = 9
number_of WrongCount = 10
number_of BytesAfterEnd = 11
number_of NoSuchTaskOrCore = 12
number_of AmountTooLarge = 13
number_of SlotsOverNeed = 14
number_of CoreOverCapacity = 15
number_of NoPairLeft = 16
number_of CannotBeMade = 17
number_of RouteListTooShort = 18
number_of OutputTooShort = 19

-- 1 the file, 2 the board, 3 the judge
abbrev pub layer_of : Refusal → ℕ
layer_of FileTooLong = 1
layer_of RecordCutShort = 1
layer_of UnknownKind = 1
layer_of KindOutOfTurn = 1
layer_of WrongLength = 1
layer_of NumberOutOfTurn = 1
layer_of ValueOutOfBounds = 1
layer_of BadName = 1
layer_of SizesDiffer = 1
layer_of WrongCount = 1
layer_of BytesAfterEnd = 1
layer_of NoSuchTaskOrCore = 2
layer_of AmountTooLarge = 2
layer_of SlotsOverNeed = 2
layer_of CoreOverCapacity = 2
layer_of NoPairLeft = 2
layer_of CannotBeMade = 2
layer_of RouteListTooShort = 3
layer_of OutputTooShort = 1

abbrev pub layer_number : Layer → ℕ
layer_number File = 1
layer_number Board = 2
layer_number Judge = 3

abbrev pub fault_at : Refusal → ℕ → Fault
fault_at why at = record { refusal = why; place = at }

-- how a fault reads
abbrev pub fault_text : Fault → List ℕ
fault_text fault =
    codes "refused " ++ (decimal (number_of fault.refusal) ++ (codes " layer " ++ (decimal (layer_of fault.refusal) ++ (codes " place " ++ decimal fault.place))))
