-- What a task's name may be.
use Rattle.std.specs.Prelude.{ℕ, Bool, ◌&&◌, List, length, nat_le}
use Rattle.std.specs.Char.{is_ascii_graphic}
use Rattle.std.specs.List.{list_all}

-- each byte is a character that shows: from ! to ~
abbrev pub printable_name : List ℕ → Bool
printable_name name = list_all is_ascii_graphic name

abbrev pub good_name : List ℕ → Bool
good_name name = nat_le 1 (length name) && (nat_le (length name) 12 && printable_name name)
