-- The parts of a line: fields and their values.
use Rattle.std.specs.Prelude.{ℕ, ℤ, List, [], ◌∷◌, ◌++◌, codes, Bool, Option, Some, None, if◌then◌else◌}
use Rattle.std.specs.Fmt.{decimal, signed_decimal}
use Rattle.std.specs.Str.{bytes_eq}
use Rattle.uuid.specs.Text.{hyphenated_text, lower}
use Rattle.schema.specs.TreeIds.{root_tree_id}
use Rattle.schema.specs.declared.NodeId.{NodeId}
use Rattle.schema.specs.declared.TreeId.{TreeId}
use Rattle.schema.specs.declared.actions.Action.{Action}
use Rattle.schema.specs.declared.actions.Action.TheVariants.{Click, Focus, Increment, Decrement, Other}
use Rattle.model.specs.declared.queries.At.{At}
use Rattle.schema.specs.declared.geometry.Point.{Point}
use Rattle.schema.specs.declared.geometry.Rect.{Rect}
use Rattle.schema.specs.declared.geometry.Translation.{Translation}
use Rattle.schema.specs.declared.values.Color.{Color}
use Rattle.schema.specs.declared.values.TextDecoration.{TextDecoration}
use Rattle.schema.specs.declared.values.TextPosition.{TextPosition}
use Rattle.schema.specs.declared.values.TextSelection.{TextSelection}
use Rattle.script_words.specs.Items.{list_text}
use Rattle.script_words.specs.Names.{decoration_style_name, side_name}

-- a flag, if it is set
unfoldable pub flag_text : List ℕ → Bool → List ℕ
flag_text name is_set = if is_set then codes " " ++ name else []

-- a field with its value
abbrev pub field_text : List ℕ → List ℕ → List ℕ
field_text name value = codes " " ++ name ++ codes "=" ++ value

-- a field, if there is a value
unfoldable pub word_field : List ℕ → Option (List ℕ) → List ℕ
word_field name None = []
word_field name (Some word) = field_text name word

-- ---- values

abbrev pub id_text : NodeId → List ℕ
id_text id = decimal id.0

-- a tree's name: `root`, or a UUID in lower case
abbrev pub tree_text : TreeId → List ℕ
tree_text tree = if bytes_eq tree.0 root_tree_id.0 then codes "root" else hyphenated_text lower tree.0

unfoldable pub pair_text : ℤ → ℤ → List ℕ
pair_text x y = signed_decimal x ++ codes "," ++ signed_decimal y

-- a rectangle, from one corner to the other
unfoldable pub corners_text : ℤ → ℤ → ℤ → ℤ → List ℕ
corners_text x0 y0 x1 y1 = pair_text x0 y0 ++ codes "," ++ pair_text x1 y1

abbrev pub rect_text : Rect → List ℕ
rect_text r = corners_text r.x0 r.y0 r.x1 r.y1

abbrev pub translation_text : Translation → List ℕ
translation_text t = pair_text t.x t.y

abbrev pub place_text : TextPosition → List ℕ
place_text p = decimal p.node.0 ++ codes ":" ++ decimal p.character_index

abbrev pub selection_text : TextSelection → List ℕ
selection_text s = place_text s.anchor ++ codes "," ++ place_text s.focus

abbrev pub color_text : Color → List ℕ
color_text c = decimal c.red ++ codes "," ++ decimal c.green ++ codes "," ++ decimal c.blue ++ codes "," ++ decimal c.alpha

abbrev pub decoration_text : TextDecoration → List ℕ
decoration_text d = decoration_style_name d.style ++ codes "," ++ color_text d.color

-- ---- lists with commas between their items

-- a list's text, if it has an item
abbrev pub list_value : {T : Type 0} → (T → List ℕ) → List T → Option (List ℕ)
list_value text [] = None
list_value text (item ∷ others) = Some (list_text text item others)

abbrev pub ids_text : NodeId → List NodeId → List ℕ
ids_text = list_text id_text

abbrev pub ids_value : List NodeId → Option (List ℕ)
ids_value = list_value id_text

abbrev pub numbers_text : ℕ → List ℕ → List ℕ
numbers_text = list_text decimal

abbrev pub numbers_value : List ℕ → Option (List ℕ)
numbers_value = list_value decimal

-- here `-` stands for an empty list, since the list may also be absent
abbrev pub units_text : List ℤ → List ℕ
units_text [] = codes "-"
units_text (number ∷ others) = list_text signed_decimal number others

-- ---- actions

abbrev pub action_text : Action → List ℕ
action_text Click = codes "Click"
action_text Focus = codes "Focus"
action_text Increment = codes "Increment"
action_text Decrement = codes "Decrement"
action_text (Other code) = codes "Other(" ++ decimal code ++ codes ")"

abbrev pub action_list_text : Action → List Action → List ℕ
action_list_text = list_text action_text

abbrev pub actions_value : List Action → Option (List ℕ)
actions_value = list_value action_text

-- ---- what queries name

-- a node's id and the name of its tree
abbrev pub name_text : NodeId × TreeId → List ℕ
name_text name = decimal name.0.0 ++ codes " " ++ tree_text name.1

-- a position in a text
abbrev pub at_text : At → List ℕ
at_text at = decimal at.index ++ codes " " ++ side_name at.side

-- a point in the node's coordinates
unfoldable pub point_text : Point → List ℕ
point_text point = signed_decimal point.x ++ codes " " ++ signed_decimal point.y
