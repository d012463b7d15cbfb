-- What is printed of replies.
use Rattle.std.specs.Prelude.{ℕ, List, [], ◌∷◌, ◌++◌, codes, flat_map, Option, Some, None, option_map}
use Rattle.std.specs.String.{string_bytes}
use Rattle.std.specs.Fmt.{decimal}
use Rattle.model.specs.declared.FullNodeId.{FullNodeId}
use Rattle.schema.specs.declared.values.TextPosition.{TextPosition}
use Rattle.session.specs.declared.commands.Reply.{Reply}
use Rattle.session.specs.declared.commands.Reply.TheVariants.{Accepted, Refused, Ids, Text, Set, Node, Position, Indexes, NoNode, NotText}
use Rattle.script_words.specs.Quoted.{quoted_byte}
use Rattle.atree_script.specs.Printed.{id_text}
use Rattle.atree_script.specs.Refused.{refusal_line}

abbrev pub spaced_id : FullNodeId → List ℕ
spaced_id id = codes " " ++ id_text id

-- ids with one space between them
abbrev pub ids_text : List FullNodeId → List ℕ
ids_text [] = codes "-"
ids_text (id ∷ others) = id_text id ++ flat_map spaced_id others

abbrev pub ids_line : List FullNodeId → List ℕ
ids_line ids = ids_text ids ++ codes "\n"

abbrev pub found_line : Option FullNodeId → List ℕ
found_line None = codes "none\n"
found_line (Some id) = id_text id ++ codes "\n"

abbrev pub count_text : Option ℕ → List ℕ
count_text None = codes "-"
count_text (Some count) = decimal count

-- a size and a position
abbrev pub set_line : Option ℕ → Option ℕ → List ℕ
set_line size position = count_text size ++ codes " " ++ count_text position ++ codes "\n"

-- a text in quotes
abbrev pub text_line : Option (List ℕ) → List ℕ
text_line None = codes "none\n"
text_line (Some text) = codes "\"" ++ flat_map quoted_byte text ++ codes "\"\n"

-- a position: the id of its run in its tree, and the index there
abbrev pub position_line : Option TextPosition → List ℕ
position_line None = codes "none\n"
position_line (Some p) = decimal p.node.0 ++ codes " " ++ decimal p.character_index ++ codes "\n"

-- three indexes
abbrev pub indexes_line : ℕ → ℕ → ℕ → List ℕ
indexes_line usv utf16 line = decimal usv ++ codes " " ++ decimal utf16 ++ codes " " ++ decimal line ++ codes "\n"

-- what is printed of a reply
abbrev pub reply_line : Reply → List ℕ
reply_line Accepted = codes "ok\n"
reply_line (Refused error) = refusal_line error
reply_line (Ids ids) = ids_line ids.items
reply_line (Text text) = text_line (option_map string_bytes text)
reply_line (Set size position) = set_line size position
reply_line (Node node) = found_line node
reply_line (Position position) = position_line position
reply_line (Indexes usv utf16 line) = indexes_line usv utf16 line
reply_line NoNode = codes "no node\n"
reply_line NotText = codes "no text\n"
