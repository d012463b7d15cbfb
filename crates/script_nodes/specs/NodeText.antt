-- The written form of a node: its fields in a fixed order, each if it is set.
use Rattle.std.specs.Prelude.{ℕ, ◌≡◌, ◌⊎◌, List, [], ◌++◌, codes, flat_map, Option, None, option_map}
use Rattle.std.specs.Fmt.{decimal, signed_decimal}
use Rattle.schema.specs.NodeData.{NodeData}
use Rattle.schema.specs.RoleNames.{role_text}
use Rattle.schema.specs.declared.NodeId.{NodeId}
use Rattle.schema.specs.declared.Role.{Role}
use Rattle.script_nodes.specs.ActionLists.{actions_in}
use Rattle.script_nodes.specs.FieldKinds.{all_fields, field_name, ids_at, id_at, text_at, flag_at, numbers_at, units_at, bool_at, color_at, decoration_at, number_at, count_at, actions_at}
use Rattle.script_nodes.specs.declared.field_kinds.Field.{Field}
use Rattle.script_nodes.specs.declared.field_kinds.Field.TheVariants as field
use Rattle.script_words.specs.Names.{toggled_name, truth_name, live_name, orientation_name, sort_direction_name, aria_current_name, has_popup_name, text_direction_name, text_align_name, vertical_offset_name}
use Rattle.script_words.specs.Parts.{flag_text, word_field, id_text, ids_value, numbers_value, units_text, tree_text, rect_text, translation_text, selection_text, color_text, decoration_text, actions_value}
use Rattle.script_words.specs.Quoted.{quoted}
use Rattle.script_words.specs.declared.stops.Stop.{Stop}
use Rattle.script_words.specs.declared.stops.Stop.TheVariants.{Memory, WriteFault}

-- the written value of a field, if it is set
abbrev pub value_of : NodeData → Field → Option (List ℕ)
value_of n (field.Ids which) = ids_value (ids_at which n)
value_of n (field.Id which) = option_map id_text (id_at which n)
value_of n (field.Text which) = option_map quoted (text_at which n)
value_of n (field.Flag which) = None
value_of n (field.Numbers which) = numbers_value (numbers_at which n)
value_of n (field.Units which) = option_map units_text (units_at which n)
value_of n (field.Bool which) = option_map truth_name (bool_at which n)
value_of n (field.Color which) = option_map color_text (color_at which n)
value_of n (field.Decoration which) = option_map decoration_text (decoration_at which n)
value_of n (field.Number which) = option_map signed_decimal (number_at which n)
value_of n (field.Count which) = option_map decimal (count_at which n)
value_of n (field.Actions which) = actions_value (actions_in (actions_at which n))
value_of n field.Tree = option_map tree_text n.tree_id
value_of n field.Bounds = option_map rect_text n.bounds
value_of n field.Transform = option_map translation_text n.transform
value_of n field.Selection = option_map selection_text n.text_selection
value_of n field.Toggled = option_map toggled_name n.toggled
value_of n field.Live = option_map live_name n.live
value_of n field.Orientation = option_map orientation_name n.orientation
value_of n field.SortDirection = option_map sort_direction_name n.sort_direction
value_of n field.AriaCurrent = option_map aria_current_name n.aria_current
value_of n field.HasPopup = option_map has_popup_name n.has_popup
value_of n field.FontSize = option_map decimal n.font_size
value_of n field.FontWeight = option_map decimal n.font_weight
value_of n field.TextDirection = option_map text_direction_name n.text_direction
value_of n field.TextAlign = option_map text_align_name n.text_align
value_of n field.VerticalOffset = option_map vertical_offset_name n.vertical_offset

-- the written form of a field: nothing if it isn't set
abbrev pub piece : NodeData → Field → List ℕ
piece n (field.Flag which) = flag_text (field_name (field.Flag which)) (flag_at which n)
piece n which = word_field (field_name which) (value_of n which)

-- the written form of all of a node's fields
unfoldable pub fields_text : NodeData → List ℕ
fields_text n = flat_map (piece n) all_fields

-- the beginning of a node's line
unfoldable pub node_head : NodeId → Role → List ℕ
node_head id role = codes "node " ++ decimal id.0 ++ codes " " ++ role_text role

-- a node's line, without its end
unfoldable pub node_text : NodeId → NodeData → List ℕ
node_text id n = node_head id n.role ++ fields_text n

-- a node's line
unfoldable pub node_line : NodeId → NodeData → List ℕ
node_line id n = node_text id n ++ codes "\n"

-- what stops the writing: an error of the output, or lack of memory
abbrev pub StopsWriting : Stop → Type 0
StopsWriting stop = (stop ≡ WriteFault) ⊎ (stop ≡ Memory)
