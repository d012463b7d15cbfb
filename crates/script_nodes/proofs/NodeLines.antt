-- A node's line stands on one line.
use Rattle.std.proofs.Common.{ℕ, ◌<◌, ◌^◌, List, ◌++◌, All, Bool, codes, Option, Some, None, IsUtf8, MatchOption, option_map, refl}
use Rattle.std.specs.Bool.{⊤}
use Rattle.std.specs.Fmt.{decimal, signed_decimal}
use Rattle.schema.specs.NodeData.{NodeData}
use Rattle.schema.specs.RoleNames.{role_text}
use Rattle.schema.specs.declared.NodeId.{NodeId}
use Rattle.schema.specs.declared.values.Color.{Color}
use Rattle.script_nodes.specs.declared.field_kinds.Field.{Field}
use Rattle.script_nodes.specs.declared.field_kinds.Field.TheVariants as field
use Rattle.script_nodes.specs.ActionLists.{actions_in}
use Rattle.script_nodes.specs.FieldKinds.{all_fields, field_name, flag_at, ids_at, id_at, text_at, numbers_at, units_at, bool_at, color_at, decoration_at, number_at, count_at, actions_at}
use Rattle.script_nodes.specs.NodeReading.{IsNode, IsValue}
use Rattle.script_nodes.specs.NodeText.{fields_text, node_head, node_text, piece, value_of}
use Rattle.script_words.specs.Parts.{actions_value, color_text, decoration_text, rect_text, selection_text, translation_text, tree_text, units_text}
use Rattle.script_words.specs.Quoted.{quoted}
use Rattle.script_words.specs.Reading.{IsColor, IsCount, IsDecoration, IsId, IsNumber, IsRect, IsSelection, IsShort, IsTranslation, IsUnits}
use Rattle.script_nodes.proofs.ActionSets.{all_actions}
use Rattle.script_nodes.proofs.FieldNames.{each_passes}
use Rattle.script_words.proofs.LineTexts.{IsLineText, decimal_line, line_all, line_append, line_by, line_if_there, line_joined, quoted_line, shows, signed_line}
use Rattle.script_words.proofs.NameLines.{aria_current_line, has_popup_line, live_line, orientation_line, sort_direction_line, text_align_line, text_direction_line, toggled_line, truth_line, vertical_offset_line}
use Rattle.script_words.proofs.ValueLines.{role_line, tree_line, id_line, short_line, narrow_line, rect_line, translation_line, selection_line, color_line, decoration_line, list_line, ids_line, numbers_line, actions_line, word_line, flag_line}

-- ---- names of fields

field_name_line : (which : Field) → IsLineText (field_name which)
field_name_line which = line_by (field_name which) (each_passes (λ f. shows (field_name f)) refl which)

-- ---- values

set_line : (set : ℕ) → MatchOption (actions_value (actions_in set)) ⊤ IsLineText
set_line set = actions_line (actions_in set) (all_actions set)

-- a value that is one of a few names
named_line : {T : Type 0} (name : T → List ℕ) → ((x : T) → IsLineText (name x)) → (o : Option T) → MatchOption (option_map name o) ⊤ IsLineText
named_line name line None = tt
named_line name line (Some x) = line x

value_line : (n : NodeData) (which : Field) → IsValue which n → MatchOption (value_of n which) ⊤ IsLineText
value_line n (field.Ids which) h = ids_line (ids_at which n) h
value_line n (field.Id which) h = line_if_there IsId (λ i. decimal i.0) id_line (id_at which n) h
value_line n (field.Text which) h = line_if_there IsUtf8 quoted quoted_line (text_at which n) h
value_line n (field.Flag which) h = tt
value_line n (field.Numbers which) h = numbers_line (numbers_at which n) h
value_line n (field.Units which) h = line_if_there (λ units. All IsUnits units) units_text list_line (units_at which n) h
value_line n (field.Bool which) h = named_line _ truth_line (bool_at which n)
value_line n (field.Color which) h = line_if_there IsColor color_text color_line (color_at which n) h
value_line n (field.Decoration which) h = line_if_there IsDecoration decoration_text decoration_line (decoration_at which n) h
value_line n (field.Number which) h = line_if_there IsNumber signed_decimal signed_line (number_at which n) h
value_line n (field.Count which) h = line_if_there IsCount decimal decimal_line (count_at which n) h
value_line n (field.Actions which) h = set_line (actions_at which n)
value_line n field.Tree h = named_line tree_text tree_line n.tree_id
value_line n field.Bounds h = line_if_there IsRect rect_text rect_line n.bounds h
value_line n field.Transform h = line_if_there IsTranslation translation_text translation_line n.transform h
value_line n field.Selection h = line_if_there IsSelection selection_text selection_line n.text_selection h
value_line n field.Toggled h = named_line _ toggled_line n.toggled
value_line n field.Live h = named_line _ live_line n.live
value_line n field.Orientation h = named_line _ orientation_line n.orientation
value_line n field.SortDirection h = named_line _ sort_direction_line n.sort_direction
value_line n field.AriaCurrent h = named_line _ aria_current_line n.aria_current
value_line n field.HasPopup h = named_line _ has_popup_line n.has_popup
value_line n field.FontSize h = line_if_there (λ size. size < 2 ^ 32) decimal narrow_line n.font_size h
value_line n field.FontWeight h = line_if_there IsShort decimal short_line n.font_weight h
value_line n field.TextDirection h = named_line _ text_direction_line n.text_direction
value_line n field.TextAlign h = named_line _ text_align_line n.text_align
value_line n field.VerticalOffset h = named_line _ vertical_offset_line n.vertical_offset

-- ---- fields

piece_line : (n : NodeData) (which : Field) → IsValue which n → IsLineText (piece n which)
piece_line n (field.Flag which) h = flag_line (field_name (field.Flag which)) (flag_at which n) (field_name_line (field.Flag which))
piece_line n which h = word_line (field_name which) (value_of n which) (field_name_line which) (value_line n which h)

fields_line : (n : NodeData) → IsNode n → IsLineText (fields_text n)
unfolding fields_text
fields_line n h = line_all (piece n) (λ which. piece_line n which (h.1 which)) all_fields

pub node_text_line : (id : NodeId) (n : NodeData) → IsId id → IsNode n → IsLineText (node_text id n)
unfolding node_text node_head
node_text_line id n hi h =
    line_append (codes "node " ++ decimal id.0 ++ codes " " ++ role_text n.role) (fields_text n)
    (line_joined (codes "node " ++ decimal id.0) (codes " ") (role_text n.role) (line_append (codes "node ") (decimal id.0) (line_by (codes "node ") refl) (id_line id hi)) (line_by (codes " ") refl) (role_line n.role h.0))
    (fields_line n h)
