-- The written form of a command: the text of its lines.
use Rattle.std.specs.Prelude.{ℕ, List, [], ◌++◌, codes, flat_map, Bool, true, false, Option, Some, None, option_map, ◌≡◌}
use Rattle.std.specs.Fmt.{decimal}
use Rattle.std.specs.Io.KnownBytes.{Appends}
use Rattle.schema.specs.NodeData.{NodeData}
use Rattle.schema.specs.UpdateData.{UpdateData, InfoData, update_data}
use Rattle.schema.specs.declared.NodeId.{NodeId}
use Rattle.script_lines.specs.declared.reader.ScriptCommand.{ScriptCommand}
use Rattle.script_lines.specs.Commands.{Said, Sends, Turns, Prints, Asks, said}
use Rattle.script_nodes.specs.NodeText.{node_line}
use Rattle.script_words.specs.Parts.{word_field, tree_text}
use Rattle.script_words.specs.Quoted.{quoted}
use Rattle.script_lines.specs.Questions.{question_line}

-- of the tree info
abbrev pub info_text : InfoData → List ℕ
info_text info =
    codes " root=" ++ decimal info.root.0 ++ word_field (codes "toolkit") (option_map quoted info.toolkit_name)
    ++ word_field (codes "version") (option_map quoted info.toolkit_version)

abbrev pub info_or_nothing : Option InfoData → List ℕ
info_or_nothing None = []
info_or_nothing (Some info) = info_text info

-- the line that begins an update, after its first word
abbrev pub head_args : UpdateData → List ℕ
head_args u = tree_text u.name ++ codes " focus=" ++ decimal u.focus.0 ++ info_or_nothing u.info

-- the line that begins an update
abbrev pub update_head : UpdateData → List ℕ
update_head u = codes "update " ++ head_args u ++ codes "\n"

-- the line of a node of an update
abbrev pub entry_line : NodeId × NodeData → List ℕ
entry_line entry = node_line entry.0 entry.1

abbrev pub update_lines : UpdateData → List ℕ
update_lines u = update_head u ++ flat_map entry_line u.nodes ++ codes "end\n"

abbrev pub host_text : Bool → List ℕ
host_text true = codes "host on"
host_text false = codes "host off"

abbrev pub host_line : Bool → List ℕ
host_line is_focused = host_text is_focused ++ codes "\n"

abbrev pub said_lines : Said → List ℕ
said_lines (Sends u) = update_lines u
said_lines (Turns is_focused) = host_line is_focused
said_lines Prints = codes "print\n"
said_lines (Asks q) = question_line q

abbrev pub command_lines : ScriptCommand → List ℕ
command_lines command = said_lines (said command)

-- known bytes grow by a beginning of this text
abbrev pub AppendsBeginning : Option (List ℕ) → Option (List ℕ) → List ℕ → Type 0
AppendsBeginning before after text = (written : List ℕ) × (left : List ℕ) × (text ≡ written ++ left) × Appends before after written
