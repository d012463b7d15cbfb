-- What a line does to a reader of a script.
use Rattle.std.specs.Prelude.{ℕ, ◌-◌, ◌^◌, ◌≤◌, ◌⊎◌, List, [], ◌∷◌, ◌++◌, ◌≡◌, Option, Some, None, option_map, Result, Err}
use Rattle.schema.specs.NodeData.{NodeData}
use Rattle.schema.specs.UpdateData.{UpdateData, update_data}
use Rattle.schema.specs.declared.NodeId.{NodeId}
use Rattle.script_lines.specs.Commands.{Said, Sends, Turns, Prints, Asks, said}
use Rattle.script_lines.specs.InputLines.{HasFailed, without_end}
use Rattle.script_words.specs.Reading.{Reads}
use Rattle.script_lines.specs.declared.lines.Line.{Line}
use Rattle.script_lines.specs.declared.lines.Line.TheVariants as says
use Rattle.script_lines.specs.declared.reader.ScriptCommand.{ScriptCommand}
use Rattle.script_lines.specs.declared.reader.ScriptReader.{ScriptReader}
use Rattle.script_words.specs.declared.stops.Stop.{Stop}
use Rattle.script_words.specs.declared.stops.Stop.TheVariants.{BadLine}

-- the update that a reader has begun to read
abbrev pub begun_of : ScriptReader → Option UpdateData
begun_of reader = option_map update_data reader.begun

-- the number of the last line that it has read
abbrev pub number_of : ScriptReader → ℕ
number_of reader = reader.lines.number

-- how often its input gave an error
abbrev pub failures_of : ScriptReader → ℕ
failures_of reader = reader.lines.looks.failures

-- From the one state of a reader to the other its input has failed, or a line is the last that can be counted.
abbrev pub FaultHasCause : ScriptReader → ScriptReader → Type 0
FaultHasCause before after = HasFailed before.lines.looks after.lines.looks ⊎ (2 ^ 64 - 1 ≤ number_of after)

-- the comment before the next command, as far as it has read
abbrev pub comment_of : ScriptReader → List ℕ
comment_of reader = reader.comment.items

-- the last line that it has read, without its end
abbrev pub last_line : ScriptReader → List ℕ
last_line reader = without_end reader.lines.bytes.items

abbrev pub with_entry : UpdateData → NodeId → NodeData → UpdateData
with_entry u id n = record u { nodes = u.nodes ++ (id, n) ∷ [] }

-- the command that a line makes whole, if it does, and the update that is begun after it
pub record Taken : Type 0 where
  pub gives : Option Said
  pub begun : Option UpdateData

abbrev pub goes_on : Option UpdateData → Option Taken
goes_on begun = Some (record { gives = None; begun = begun })

abbrev pub gives : Said → Option Taken
gives command = Some (record { gives = Some command; begun = None })

-- what a line in place does; none, where it is out of place. An update has nodes and an end, and all else stands outside
-- of updates; empty lines and comments may stand anywhere
abbrev pub taken : Option UpdateData → Line → Option Taken
taken begun says.Nothing = goes_on begun
taken None (says.Update update) = goes_on (Some (update_data update))
taken None (says.Node id n) = None
taken None says.End = None
taken None (says.HostFocus is_focused) = gives (Turns is_focused)
taken None says.Print = gives Prints
taken None (says.Query q) = gives (Asks q)
taken (Some u) (says.Update update) = None
taken (Some u) (says.Node id n) = goes_on (Some (with_entry u id n))
taken (Some u) says.End = gives (Sends u)
taken (Some u) (says.HostFocus is_focused) = None
taken (Some u) says.Print = None
taken (Some u) (says.Query q) = None

-- the line of a node, for which there may be no memory
abbrev pub IsNodeLine : Line → Type 0
IsNodeLine line = (id : NodeId) × (n : NodeData) × (line ≡ says.Node id n)

-- what a reader answers to a line: a bad line where the line is out of place, and else the command that it gives, with what
-- is begun then; or there is no memory
abbrev pub TakesAs : Option Taken → Result (Option ScriptCommand) Stop → Option UpdateData → Type 0
TakesAs None result begun = result ≡ Err BadLine
TakesAs (Some t) result begun = Reads result (λ command. (option_map said command ≡ t.gives) × (begun ≡ t.begun))
