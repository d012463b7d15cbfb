-- Which commands are read from a script's input, each with the comment before it and its line.
use Rattle.std.specs.Prelude.{◌≡◌, ℕ, List, [], Option, Some, None, option_map, IfSome, Result, Ok, Err}
use Rattle.std.specs.List.{FoldsTo}
use Rattle.script_lines.specs.ScriptReading.{Place, ReadsTo}
use Rattle.script_lines.specs.declared.reader.ScriptCommand.{ScriptCommand}
use Rattle.script_words.specs.declared.stops.Stop.{Stop}

-- before the first line of an input whose bytes are known
abbrev pub start_of : Option (List ℕ) → Option Place
start_of input = option_map (λ bytes. record { left = bytes; begun = None; comment = []; number = 0 }) input

-- a command, the text of the comment lines right before it, and the number of its last line
pub record Commented : Type 0 where
  pub comment : List ℕ
  pub line : ℕ
  pub command : ScriptCommand

-- the next command is read, with its comment and its line
abbrev pub ReadsNext : Place → Commented → Place → Type 0
ReadsNext at c next = ReadsTo at (Ok (Some c.command)) next × (next.comment ≡ c.comment)
    × (next.number ≡ c.line)

-- what reading on gives where no command comes: the end of the input, or why the reading stops
abbrev pub no_command : Result Unit Stop → Result (Option ScriptCommand) Stop
no_command (Ok done) = Ok None
no_command (Err stop) = Err stop

-- where the bytes are known, these are the next commands, and the last of them ends on the line with this number
abbrev pub ReadsThese : Option Place → List Commented → ℕ → Type 0
ReadsThese start commands number = IfSome start (λ from. (at : Place) × FoldsTo ReadsNext from commands at × (number ≡ at.number))

-- where the bytes are known, these are all commands that are left, up to the end of the input or to what stops the reading
abbrev pub ReadsAll : Option Place → List Commented → Result Unit Stop → ℕ → Type 0
ReadsAll start commands ended number =
    IfSome start (λ from. (at : Place) × (next : Place) × FoldsTo ReadsNext from commands at × ReadsTo at (no_command ended) next
    × (number ≡ next.number))
