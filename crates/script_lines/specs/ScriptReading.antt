-- How a reader goes over the lines of a script.
use Rattle.std.specs.Prelude.{ℕ, List, [], ◌∷◌, Option, Some, None, Result, Ok, Err, ◌≡◌, ◌≢◌, ◌⊎◌, OnOk, ⊤}
use Rattle.std.specs.Io.BufRead.{drop_through, take_through}
use Rattle.schema.specs.UpdateData.{UpdateData}
use Rattle.script_lines.specs.Commands.{Said, said}
use Rattle.script_lines.specs.Comments.{comment_after}
use Rattle.script_lines.specs.InputLines.{ReadsLine, next_number, without_end}
use Rattle.script_lines.specs.Taking.{begun_of, comment_of, number_of, taken}
use Rattle.script_lines.specs.declared.lines.Line.{Line}
use Rattle.script_lines.specs.declared.reader.ScriptCommand.{ScriptCommand}
use Rattle.script_lines.specs.declared.reader.ScriptReader.{ScriptReader}
use Rattle.script_words.specs.declared.stops.Stop.{Stop}
use Rattle.script_words.specs.declared.stops.Stop.TheVariants.{BadLine, Memory, ReadFault, WriteFault}

-- where a reader is: the bytes before it, the update that it has begun, the comment before the next command, as far as it goes up to
-- here, and the number of the last line
pub record Place : Type 0 where
  pub left : List ℕ
  pub begun : Option UpdateData
  pub comment : List ℕ
  pub number : ℕ

abbrev pub place : ScriptReader → List ℕ → Place
place reader bytes = record { left = bytes; begun = begun_of reader; comment = comment_of reader; number = number_of reader }

-- it reads the next line, which is in place and gives this
pub record Steps (before : Place) (line : Line) (gives : Option Said) (next : Place) : Type 0 where
  pub some : before.left ≢ []
  pub reads : ReadsLine (take_through 10 before.left) (Ok line)
  pub takes : taken before.begun line ≡ Some (record { gives = gives; begun = next.begun })
  pub left : next.left ≡ drop_through 10 before.left
  pub comment : next.comment ≡ comment_after before.begun before.comment (without_end (take_through 10 before.left))
  pub number : next.number ≡ next_number before.number

-- it reads these lines, which make no command
unfoldable pub Passes : Place → List Line → Place → Type 0
Passes before [] next = next ≡ before
Passes before (line ∷ others) next = (mid : Place) × Steps before line None mid × Passes mid others next

abbrev pub PassesLines : Place → Place → Type 0
PassesLines before next = (lines : List Line) × Passes before lines next

-- the input ends inside an update
abbrev pub EndsInside : Place → ℕ → Type 0
EndsInside at number = (at.left ≡ []) × (at.begun ≢ None) × (number ≡ at.number)

-- the next line isn't UTF-8, is none of a script, or is out of place
abbrev pub IsBadNext : Place → ℕ → Type 0
IsBadNext at number = (at.left ≢ []) × (number ≡ next_number at.number)
    × (ReadsLine (take_through 10 at.left) (Err BadLine) ⊎ ((line : Line) × ReadsLine (take_through 10 at.left) (Ok line)
    × (taken at.begun line ≡ None)))

-- it reads up to the end of the next command, to the end of the input, or to a bad line, which it has by its number;
-- a fault of the input and want of memory may stop it anywhere
abbrev pub GoesTo : Place → Result (Option ScriptCommand) Stop → Place → Type 0
GoesTo before (Ok (Some command)) next = (mid : Place) × (line : Line) × PassesLines before mid × Steps mid line (Some (said command)) next
GoesTo before (Ok None) next = PassesLines before next × (next.left ≡ []) × (next.begun ≡ None)
GoesTo before (Err BadLine) next = (mid : Place) × PassesLines before mid × (EndsInside mid next.number ⊎ IsBadNext mid next.number)
GoesTo before (Err Memory) next = ⊤
GoesTo before (Err ReadFault) next = ⊤
GoesTo before (Err WriteFault) next = ⊤

-- so from a command to the next one, whose comment is its own
abbrev pub afresh : Place → Place
afresh at = record at { comment = [] }

abbrev pub ReadsTo : Place → Result (Option ScriptCommand) Stop → Place → Type 0
ReadsTo before result next = GoesTo (afresh before) result next

-- after a reading the reader is at that place: its line's number in any case, and all else where it may go on
abbrev pub IsPlace : Place → Result (Option ScriptCommand) Stop → ScriptReader → Option (List ℕ) → Type 0
IsPlace at result reader left =
    (number_of reader ≡ at.number)
    × OnOk result ((begun_of reader ≡ at.begun) × (left ≡ Some at.left) × (comment_of reader ≡ at.comment))
