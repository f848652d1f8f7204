-- What a line of a script asks for: `need TASK CORE NEED`, `capacity CORE CAPACITY`, `release`, `reopen` or `judge`,
-- with one blank between words and none elsewhere.
use Rattle.std.specs.Prelude.{ℕ, cond, List, Some, None, codes, Option, ◌==◌}
use Rattle.std.specs.List.{before_first, after_first}
use Rattle.std.specs.Str.{bytes_eq}
use Rattle.calls.specs.declared.Call.TheVariants.{SetNeed, SetCapacity, Release, Reopen}
use Rattle.script.specs.declared.Request.{Request}
use Rattle.script.specs.declared.Request.TheVariants.{Play, Judge}
use Rattle.script.specs.Numbers.{number_of}

-- what stands before the first blank, and what stands after it
abbrev pub word_of : List ℕ → List ℕ
word_of text = before_first (λ byte. byte == 32) text

abbrev pub rest_of : List ℕ → List ℕ
rest_of text = after_first (λ byte. byte == 32) text

abbrev pub need_by : Option ℕ → Option ℕ → Option ℕ → Option Request
need_by None core need = None
need_by (Some task) None need = None
need_by (Some task) (Some core) None = None
need_by (Some task) (Some core) (Some need) = Some (Play (SetNeed task core need))

abbrev pub capacity_by : Option ℕ → Option ℕ → Option Request
capacity_by None capacity = None
capacity_by (Some core) None = None
capacity_by (Some core) (Some capacity) = Some (Play (SetCapacity core capacity))

-- the numbers behind `need` and behind `capacity`
abbrev pub need_asked : List ℕ → Option Request
need_asked text = need_by (number_of (word_of text)) (number_of (word_of (rest_of text))) (number_of (rest_of (rest_of text)))

abbrev pub capacity_asked : List ℕ → Option Request
capacity_asked text = capacity_by (number_of (word_of text)) (number_of (rest_of text))

-- nothing, where the line is not understood
abbrev pub request_of : List ℕ → Option Request
request_of line =
    cond (bytes_eq (word_of line) (codes "need")) (need_asked (rest_of line))
    (cond (bytes_eq (word_of line) (codes "capacity")) (capacity_asked (rest_of line))
    (cond (bytes_eq line (codes "release")) (Some (Play Release))
    (cond (bytes_eq line (codes "reopen")) (Some (Play Reopen))
    (cond (bytes_eq line (codes "judge")) (Some Judge) None))))
