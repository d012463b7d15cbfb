-- A field of which nothing is written isn't there.
use Rattle.std.proofs.Common.{◌≡◌, ℕ, List, [], ◌∷◌, Bool, true, false, Option, Some, None, option_map, refl}
use Rattle.schema.specs.NodeData.{NodeData}
use Rattle.schema.specs.declared.NodeId.{NodeId}
use Rattle.schema.specs.declared.actions.Action.{Action}
use Rattle.script_nodes.specs.declared.field_kinds.Field.{Field}
use Rattle.script_nodes.specs.declared.field_kinds.Field.TheVariants as field
use Rattle.script_nodes.specs.ActionLists.{actions_in}
use Rattle.script_nodes.specs.FieldKinds.{field_name, ids_at, id_at, text_at, flag_at, numbers_at, units_at, bool_at, color_at, decoration_at, number_at, count_at, actions_at}
use Rattle.script_nodes.specs.NodeReading.{IsNode, IsWithout}
use Rattle.script_nodes.specs.NodeText.{piece}
use Rattle.std.specs.Fmt.{decimal, signed_decimal}
use Rattle.script_words.specs.Names.{toggled_name, truth_name, live_name, orientation_name, sort_direction_name, aria_current_name, has_popup_name, text_direction_name, text_align_name, vertical_offset_name}
use Rattle.script_words.specs.Parts.{flag_text, word_field, tree_text, rect_text, translation_text, selection_text, color_text, decoration_text, units_text, id_text, ids_value, numbers_value, actions_value}
use Rattle.script_words.specs.Quoted.{quoted}
use Rattle.script_nodes.proofs.ActionSets.{none_there}

no_value : {T : Type 0} (text : T → List ℕ) (name : List ℕ) (value : Option T) → word_field name (option_map text value) ≡ [] → value ≡ None
unfolding word_field
no_value text name None e = refl
no_value text name (Some value) e = cc

no_ids : (name : List ℕ) (ids : List NodeId) → word_field name (ids_value ids) ≡ [] → ids ≡ []
unfolding word_field
no_ids name [] e = refl
no_ids name (id ∷ others) e = cc

no_numbers : (name : List ℕ) (numbers : List ℕ) → word_field name (numbers_value numbers) ≡ [] → numbers ≡ []
unfolding word_field
no_numbers name [] e = refl
no_numbers name (number ∷ others) e = cc

no_actions : (name : List ℕ) (actions : List Action) → word_field name (actions_value actions) ≡ [] → actions ≡ []
unfolding word_field
no_actions name [] e = refl
no_actions name (action ∷ others) e = cc

no_flag : (name : List ℕ) (is_set : Bool) → flag_text name is_set ≡ [] → is_set ≡ false
unfolding flag_text
no_flag name false e = refl
no_flag name true e = cc

pub nothing_written : (n : NodeData) (which : Field) → IsNode n → piece n which ≡ [] → IsWithout which n
nothing_written n (field.Ids which) h e = no_ids (field_name (field.Ids which)) (ids_at which n) e
nothing_written n (field.Id which) h e = no_value id_text (field_name (field.Id which)) (id_at which n) e
nothing_written n (field.Text which) h e = no_value quoted (field_name (field.Text which)) (text_at which n) e
nothing_written n (field.Flag which) h e = no_flag (field_name (field.Flag which)) (flag_at which n) e
nothing_written n (field.Numbers which) h e = no_numbers (field_name (field.Numbers which)) (numbers_at which n) e
nothing_written n (field.Units which) h e = no_value units_text (field_name (field.Units which)) (units_at which n) e
nothing_written n (field.Bool which) h e = no_value truth_name (field_name (field.Bool which)) (bool_at which n) e
nothing_written n (field.Color which) h e = no_value color_text (field_name (field.Color which)) (color_at which n) e
nothing_written n (field.Decoration which) h e = no_value decoration_text (field_name (field.Decoration which)) (decoration_at which n) e
nothing_written n (field.Number which) h e = no_value signed_decimal (field_name (field.Number which)) (number_at which n) e
nothing_written n (field.Count which) h e = no_value decimal (field_name (field.Count which)) (count_at which n) e
nothing_written n (field.Actions which) h e = none_there (actions_at which n) (h.1 (field.Actions which)) (no_actions (field_name (field.Actions which)) (actions_in (actions_at which n)) e)
nothing_written n field.Tree h e = no_value tree_text (field_name field.Tree) n.tree_id e
nothing_written n field.Bounds h e = no_value rect_text (field_name field.Bounds) n.bounds e
nothing_written n field.Transform h e = no_value translation_text (field_name field.Transform) n.transform e
nothing_written n field.Selection h e = no_value selection_text (field_name field.Selection) n.text_selection e
nothing_written n field.Toggled h e = no_value toggled_name (field_name field.Toggled) n.toggled e
nothing_written n field.Live h e = no_value live_name (field_name field.Live) n.live e
nothing_written n field.Orientation h e = no_value orientation_name (field_name field.Orientation) n.orientation e
nothing_written n field.SortDirection h e = no_value sort_direction_name (field_name field.SortDirection) n.sort_direction e
nothing_written n field.AriaCurrent h e = no_value aria_current_name (field_name field.AriaCurrent) n.aria_current e
nothing_written n field.HasPopup h e = no_value has_popup_name (field_name field.HasPopup) n.has_popup e
nothing_written n field.FontSize h e = no_value decimal (field_name field.FontSize) n.font_size e
nothing_written n field.FontWeight h e = no_value decimal (field_name field.FontWeight) n.font_weight e
nothing_written n field.TextDirection h e = no_value text_direction_name (field_name field.TextDirection) n.text_direction e
nothing_written n field.TextAlign h e = no_value text_align_name (field_name field.TextAlign) n.text_align e
nothing_written n field.VerticalOffset h e = no_value vertical_offset_name (field_name field.VerticalOffset) n.vertical_offset e
