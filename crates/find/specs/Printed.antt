-- What is printed of the nodes that are found.
use Rattle.std.specs.Prelude.{ℕ, List, [], ◌∷◌, ◌++◌, codes, flat_map, reverse, Option, Some, None, if◌then◌else◌}
use Rattle.std.specs.Option.{option_map_or}
use Rattle.schema.specs.declared.geometry.WideRect.{WideRect}
use Rattle.role_names.specs.Names.{shown_name}
use Rattle.model.specs.declared.FullNodeId.{FullNodeId}
use Rattle.model.specs.World.{World, data_of}
use Rattle.model.specs.Forest.{is_same}
use Rattle.model.specs.Geometry.{bounding_box}
use Rattle.model.specs.Upward.{upward, is_within}
use Rattle.script_words.specs.Parts.{corners_text}
use Rattle.script_words.specs.Quoted.{quoted_byte}
use Rattle.atree_script.specs.Printed.{id_text}
use Rattle.atree_script.specs.Replies.{text_line}
use Rattle.hidden_texts.specs.Hidden.{hides_value, hides_label}
use Rattle.hidden_texts.specs.Shown.{shown_value, shown_label}
use Rattle.find.specs.Middle.{node_at_middle}

-- a space and the text in quotes, if there is one
abbrev pub quoted : Option (List ℕ) → List ℕ
quoted None = []
quoted (Some text) = codes " \"" ++ flat_map quoted_byte text ++ codes "\""

-- the label, unless it is hidden
abbrev pub label_text : World → FullNodeId → List ℕ
label_text w id = if hides_label w id then codes " label hidden" else quoted (shown_label w id)

abbrev pub role_at : World → FullNodeId → List ℕ
role_at w id = option_map_or (λ d. shown_name d.role) (data_of w id) []

-- a space, the role, and the label
abbrev pub name_text : World → FullNodeId → List ℕ
name_text w id = codes " " ++ role_at w id ++ label_text w id

-- the value, unless it is hidden
abbrev pub value_line : World → FullNodeId → List ℕ
value_line w id = codes "  value " ++ (if hides_value w id then codes "hidden\n" else text_line (shown_value w id))

-- these names, with a sign between each two
abbrev pub names_text : World → List FullNodeId → List ℕ
names_text w [] = []
names_text w (first ∷ others) = name_text w first ++ flat_map (λ id. codes " >" ++ name_text w id) others

-- the names of the nodes from the root to the node
abbrev pub path_line : World → FullNodeId → List ℕ
path_line w id = codes "  path" ++ names_text w (reverse (upward w id)) ++ codes "\n"

-- the sides of the box
abbrev pub sides_line : WideRect → List ℕ
sides_line r = codes "  bounds " ++ corners_text r.x0 r.y0 r.x1 r.y1 ++ codes "\n"

abbrev pub place_text : World → FullNodeId → FullNodeId → List ℕ
place_text w id hit = if is_within w id hit then codes "within" else codes "perhaps covered by"

-- the node at the middle of another one's box: that node itself, one within it, or one that covers it
abbrev pub hit_text : World → FullNodeId → FullNodeId → List ℕ
hit_text w id hit =
    if is_same hit id then codes "itself\n" else place_text w id hit ++ codes " " ++ id_text hit ++ name_text w hit ++ codes "\n"

abbrev pub middle_line : World → FullNodeId → FullNodeId → WideRect → List ℕ
middle_line w top id r = codes "  middle " ++ option_map_or (hit_text w id) (node_at_middle w top r) (codes "none\n")

-- the box, and the node at its middle
abbrev pub box_text : World → FullNodeId → FullNodeId → Option WideRect → List ℕ
box_text w top id None = codes "  bounds none\n"
box_text w top id (Some r) = sides_line r ++ middle_line w top id r

-- a node's id, value, path and box
abbrev pub node_text : World → FullNodeId → FullNodeId → List ℕ
node_text w top id = id_text id ++ codes "\n" ++ value_line w id ++ path_line w id ++ box_text w top id (bounding_box w id)

-- each of the nodes below a top that are found, or that there is none
abbrev pub nodes_text : World → FullNodeId → List FullNodeId → List ℕ
nodes_text w top [] = codes "none\n"
nodes_text w top (id ∷ ids) = flat_map (node_text w top) (id ∷ ids)
