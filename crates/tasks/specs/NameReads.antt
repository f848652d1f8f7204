-- What reading a name comes to.
use Rattle.std.specs.Prelude.{ℕ, cond, List, take, Ok, Err, Result}
use Rattle.board.specs.declared.fault.Refusal.{Refusal}
use Rattle.board.specs.declared.fault.Refusal.TheVariants.{BadName}
use Rattle.tasks.specs.declared.name.Name.{Name}
use Rattle.tasks.specs.Names.{good_name}

abbrev pub name_of : Name → List ℕ
name_of name = take name.used name.bytes

abbrev pub names_seen : Result Name Refusal → Result (List ℕ) Refusal
names_seen (Ok name) = Ok (name_of name)
names_seen (Err why) = Err why

-- the bytes as a name, if they are one
abbrev pub read_name : List ℕ → Result (List ℕ) Refusal
read_name bytes = cond (good_name bytes) (Ok bytes) (Err BadName)
