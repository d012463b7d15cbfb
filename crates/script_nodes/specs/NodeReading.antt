-- The reading of a node, field by field, in any order.
use Rattle.std.specs.Bool.{⊤}
use Rattle.std.specs.Prelude.{ℕ, ◌<◌, ◌^◌, All, List, [], ◌∷◌, ◌++◌, codes, false, None, MatchOption, ◌≡◌}
use Rattle.std.specs.Fmt.{decimal}
use Rattle.std.specs.Str.{IsUtf8}
use Rattle.schema.specs.NodeData.{NodeData}
use Rattle.schema.specs.RoleNames.{role_text}
use Rattle.schema.specs.declared.NodeId.{NodeId}
use Rattle.script_nodes.specs.FieldKinds.{ids_at, with_ids, id_at, with_id, text_at, with_text, flag_at, with_flag, numbers_at, with_numbers, units_at, with_units, bool_at, with_bool, color_at, with_color, decoration_at, with_decoration, number_at, with_number, count_at, with_count, actions_at, with_actions_field}
use Rattle.script_nodes.specs.declared.field_kinds.Field.{Field}
use Rattle.script_nodes.specs.declared.field_kinds.Field.TheVariants as field
use Rattle.script_nodes.specs.NodeText.{fields_text}
use Rattle.script_words.specs.Reading.{IsTreeName, IsCount, IsNumber, IsUnits, IsShort, IsId, IsRect, IsTranslation, IsSelection, IsColor, IsDecoration, IsRole}

-- ---- a node without a field, and with another node's value of it

-- it isn't set
abbrev pub IsWithout : Field → NodeData → Type 0
IsWithout (field.Ids which) n = ids_at which n ≡ []
IsWithout (field.Id which) n = id_at which n ≡ None
IsWithout (field.Text which) n = text_at which n ≡ None
IsWithout (field.Flag which) n = flag_at which n ≡ false
IsWithout (field.Numbers which) n = numbers_at which n ≡ []
IsWithout (field.Units which) n = units_at which n ≡ None
IsWithout (field.Bool which) n = bool_at which n ≡ None
IsWithout (field.Color which) n = color_at which n ≡ None
IsWithout (field.Decoration which) n = decoration_at which n ≡ None
IsWithout (field.Number which) n = number_at which n ≡ None
IsWithout (field.Count which) n = count_at which n ≡ None
IsWithout (field.Actions which) n = actions_at which n ≡ 0
IsWithout field.Tree n = n.tree_id ≡ None
IsWithout field.Bounds n = n.bounds ≡ None
IsWithout field.Transform n = n.transform ≡ None
IsWithout field.Selection n = n.text_selection ≡ None
IsWithout field.Toggled n = n.toggled ≡ None
IsWithout field.Live n = n.live ≡ None
IsWithout field.Orientation n = n.orientation ≡ None
IsWithout field.SortDirection n = n.sort_direction ≡ None
IsWithout field.AriaCurrent n = n.aria_current ≡ None
IsWithout field.HasPopup n = n.has_popup ≡ None
IsWithout field.FontSize n = n.font_size ≡ None
IsWithout field.FontWeight n = n.font_weight ≡ None
IsWithout field.TextDirection n = n.text_direction ≡ None
IsWithout field.TextAlign n = n.text_align ≡ None
IsWithout field.VerticalOffset n = n.vertical_offset ≡ None

-- a node with another node's value of a field
unfoldable pub with_field : Field → NodeData → NodeData → NodeData
with_field (field.Ids which) other n = with_ids which (ids_at which other) n
with_field (field.Id which) other n = with_id which (id_at which other) n
with_field (field.Text which) other n = with_text which (text_at which other) n
with_field (field.Flag which) other n = with_flag which (flag_at which other) n
with_field (field.Numbers which) other n = with_numbers which (numbers_at which other) n
with_field (field.Units which) other n = with_units which (units_at which other) n
with_field (field.Bool which) other n = with_bool which (bool_at which other) n
with_field (field.Color which) other n = with_color which (color_at which other) n
with_field (field.Decoration which) other n = with_decoration which (decoration_at which other) n
with_field (field.Number which) other n = with_number which (number_at which other) n
with_field (field.Count which) other n = with_count which (count_at which other) n
with_field (field.Actions which) other n = with_actions_field which (actions_at which other) n
with_field field.Tree other n = record n { tree_id = other.tree_id }
with_field field.Bounds other n = record n { bounds = other.bounds }
with_field field.Transform other n = record n { transform = other.transform }
with_field field.Selection other n = record n { text_selection = other.text_selection }
with_field field.Toggled other n = record n { toggled = other.toggled }
with_field field.Live other n = record n { live = other.live }
with_field field.Orientation other n = record n { orientation = other.orientation }
with_field field.SortDirection other n = record n { sort_direction = other.sort_direction }
with_field field.AriaCurrent other n = record n { aria_current = other.aria_current }
with_field field.HasPopup other n = record n { has_popup = other.has_popup }
with_field field.FontSize other n = record n { font_size = other.font_size }
with_field field.FontWeight other n = record n { font_weight = other.font_weight }
with_field field.TextDirection other n = record n { text_direction = other.text_direction }
with_field field.TextAlign other n = record n { text_align = other.text_align }
with_field field.VerticalOffset other n = record n { vertical_offset = other.vertical_offset }

unfoldable pub without : Field → NodeData → NodeData
without (field.Ids which) n = with_ids which [] n
without (field.Id which) n = with_id which None n
without (field.Text which) n = with_text which None n
without (field.Flag which) n = with_flag which false n
without (field.Numbers which) n = with_numbers which [] n
without (field.Units which) n = with_units which None n
without (field.Bool which) n = with_bool which None n
without (field.Color which) n = with_color which None n
without (field.Decoration which) n = with_decoration which None n
without (field.Number which) n = with_number which None n
without (field.Count which) n = with_count which None n
without (field.Actions which) n = with_actions_field which 0 n
without field.Tree n = record n { tree_id = None }
without field.Bounds n = record n { bounds = None }
without field.Transform n = record n { transform = None }
without field.Selection n = record n { text_selection = None }
without field.Toggled n = record n { toggled = None }
without field.Live n = record n { live = None }
without field.Orientation n = record n { orientation = None }
without field.SortDirection n = record n { sort_direction = None }
without field.AriaCurrent n = record n { aria_current = None }
without field.HasPopup n = record n { has_popup = None }
without field.FontSize n = record n { font_size = None }
without field.FontWeight n = record n { font_weight = None }
without field.TextDirection n = record n { text_direction = None }
without field.TextAlign n = record n { text_align = None }
without field.VerticalOffset n = record n { vertical_offset = None }

unfoldable pub without_all : List Field → NodeData → NodeData
without_all [] n = n
without_all (which ∷ others) n = without which (without_all others n)

-- ---- nodes whose numbers and texts are within the bounds of their types

-- a set has no bit beyond those of the 260 actions
abbrev pub IsActionSet : ℕ → Type 0
IsActionSet set = set < 2 ^ 260

-- this of a node isn't said by any type
abbrev pub HasActionSets : NodeData → Type 0
HasActionSets n = IsActionSet n.actions × IsActionSet n.child_actions

abbrev pub IsValue : Field → NodeData → Type 0
IsValue (field.Ids which) n = All IsId (ids_at which n)
IsValue (field.Id which) n = MatchOption (id_at which n) ⊤ IsId
IsValue (field.Text which) n = MatchOption (text_at which n) ⊤ IsUtf8
IsValue (field.Flag which) n = ⊤
IsValue (field.Numbers which) n = All IsShort (numbers_at which n)
IsValue (field.Units which) n = MatchOption (units_at which n) ⊤ (λ units. All IsUnits units)
IsValue (field.Bool which) n = ⊤
IsValue (field.Color which) n = MatchOption (color_at which n) ⊤ IsColor
IsValue (field.Decoration which) n = MatchOption (decoration_at which n) ⊤ IsDecoration
IsValue (field.Number which) n = MatchOption (number_at which n) ⊤ IsNumber
IsValue (field.Count which) n = MatchOption (count_at which n) ⊤ IsCount
IsValue (field.Actions which) n = IsActionSet (actions_at which n)
IsValue field.Tree n = MatchOption n.tree_id ⊤ IsTreeName
IsValue field.Bounds n = MatchOption n.bounds ⊤ IsRect
IsValue field.Transform n = MatchOption n.transform ⊤ IsTranslation
IsValue field.Selection n = MatchOption n.text_selection ⊤ IsSelection
IsValue field.Toggled n = ⊤
IsValue field.Live n = ⊤
IsValue field.Orientation n = ⊤
IsValue field.SortDirection n = ⊤
IsValue field.AriaCurrent n = ⊤
IsValue field.HasPopup n = ⊤
IsValue field.FontSize n = MatchOption n.font_size ⊤ (λ size. size < 2 ^ 32)
IsValue field.FontWeight n = MatchOption n.font_weight ⊤ IsShort
IsValue field.TextDirection n = ⊤
IsValue field.TextAlign n = ⊤
IsValue field.VerticalOffset n = ⊤

abbrev pub IsNode : NodeData → Type 0
IsNode n = IsRole n.role × ((which : Field) → IsValue which n)

-- what comes after the first word of a node's line
abbrev pub node_args : NodeId → NodeData → List ℕ
node_args id n = decimal id.0 ++ codes " " ++ role_text n.role ++ fields_text n
