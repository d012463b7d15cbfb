-- A script reads back as its commands.
use Rattle.std.specs.Bool.{⊤}
use Rattle.std.specs.Prelude.{ℕ, List, [], ◌∷◌, All, flat_map, Option, Some, None, option_map, Result, Ok, Err, ◌≡◌, ◌≢◌}
use Rattle.schema.specs.NodeData.{NodeData}
use Rattle.schema.specs.declared.NodeId.{NodeId}
use Rattle.script_lines.specs.Commands.{Said, Sends, Turns, Prints, Asks, said}
use Rattle.script_lines.specs.LineReading.{IsHead}
use Rattle.script_lines.specs.Lines.{said_lines}
use Rattle.script_nodes.specs.NodeReading.{HasActionSets, IsNode}
use Rattle.script_lines.specs.Questions.{IsQuery}
use Rattle.script_words.specs.Reading.{IsId}
use Rattle.script_lines.specs.declared.reader.ScriptCommand.{ScriptCommand}
use Rattle.script_words.specs.declared.stops.Stop.{Stop}
use Rattle.script_words.specs.declared.stops.Stop.TheVariants.{BadLine}

-- a command whose numbers, names and texts are such as their types have them, and its sets of actions too
abbrev pub IsEntry : NodeId × NodeData → Type 0
IsEntry entry = IsId entry.0 × IsNode entry.1

abbrev pub IsSaid : Said → Type 0
IsSaid (Sends u) = IsHead u × All IsEntry u.nodes
IsSaid (Turns is_focused) = ⊤
IsSaid Prints = ⊤
IsSaid (Asks q) = IsQuery q

-- of its sets of actions this isn't said by any type
abbrev pub HasSets : NodeId × NodeData → Type 0
HasSets entry = HasActionSets entry.1

abbrev pub HaveActionSets : Said → Type 0
HaveActionSets (Sends u) = All HasSets u.nodes
HaveActionSets (Turns is_focused) = ⊤
HaveActionSets Prints = ⊤
HaveActionSets (Asks q) = ⊤

-- the script of these commands
abbrev pub script_text : List Said → List ℕ
script_text commands = flat_map said_lines commands

-- a reader of that script reads its first command, and the script of the others is left; at its end there is none. It finds
-- no bad line: only a fault of the input and want of memory stop it
abbrev pub ReadsBack : List Said → Result (Option ScriptCommand) Stop → Option (List ℕ) → Type 0
ReadsBack commands (Err stop) left = stop ≢ BadLine
ReadsBack [] (Ok read) left = (read ≡ None) × (left ≡ Some [])
ReadsBack (command ∷ others) (Ok read) left = (option_map said read ≡ Some command) × (left ≡ Some (script_text others))
