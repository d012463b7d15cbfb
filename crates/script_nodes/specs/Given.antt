-- A value that a field is given, and the node that has it then: none where the field has no such value.
use Rattle.std.specs.Prelude.{◌≡◌, ℕ, ◌^◌, ◌==◌, nat_lt, ℤ, Bool, true, false, List, length, slice_get, Option, Some, None, option_map, Result, Ok, Err, if◌then◌else◌}
use Rattle.std.specs.Str.{is_utf8}
use Rattle.schema.specs.Actions.{with_action}
use Rattle.schema.specs.NodeData.{NodeData}
use Rattle.schema.specs.declared.NodeId.{NodeId}
use Rattle.schema.specs.declared.geometry.Rect.{Rect}
use Rattle.schema.specs.declared.geometry.Translation.{Translation}
use Rattle.schema.specs.declared.values.Color.{Color}
use Rattle.schema.specs.declared.values.TextSelection.{TextSelection}
use Rattle.script_nodes.specs.ActionLists.{action_numbered}
use Rattle.script_nodes.specs.FieldKinds.{with_ids, with_id, with_text, with_flag, with_numbers, with_units, with_bool, with_color, with_decoration, with_number, with_count, actions_at, with_actions_field}
use Rattle.script_nodes.specs.declared.field_kinds.Field.{Field}
use Rattle.script_nodes.specs.declared.field_kinds.Field.TheVariants as field
use Rattle.script_nodes.specs.declared.setting.FieldValue.{FieldValue}
use Rattle.script_nodes.specs.declared.setting.FieldValue.TheVariants as value
use Rattle.script_words.specs.NameLists.{all_toggles, all_lives, all_orientations, all_sort_directions, all_currents, all_popups, all_text_directions, all_text_aligns, all_vertical_offsets, all_decoration_styles}

-- ---- one kind of value after another

abbrev pub given_ids : List NodeId → Field → NodeData → Option NodeData
given_ids ids (field.Ids which) n = Some (with_ids which ids n)
given_ids ids which n = None

abbrev pub given_id : NodeId → Field → NodeData → Option NodeData
given_id id (field.Id which) n = Some (with_id which (Some id) n)
given_id id which n = None

-- a text is UTF-8
abbrev pub given_text : List ℕ → Field → NodeData → Option NodeData
given_text text (field.Text which) n = if is_utf8 text then Some (with_text which (Some text) n) else None
given_text text which n = None

abbrev pub given_flag : Field → NodeData → Option NodeData
given_flag (field.Flag which) n = Some (with_flag which true n)
given_flag which n = None

abbrev pub given_numbers : List ℕ → Field → NodeData → Option NodeData
given_numbers numbers (field.Numbers which) n = Some (with_numbers which numbers n)
given_numbers numbers which n = None

abbrev pub given_units : List ℤ → Field → NodeData → Option NodeData
given_units units (field.Units which) n = Some (with_units which (Some units) n)
given_units units which n = None

abbrev pub given_bool : Bool → Field → NodeData → Option NodeData
given_bool is_so (field.Bool which) n = Some (with_bool which (Some is_so) n)
given_bool is_so which n = None

abbrev pub given_color : Color → Field → NodeData → Option NodeData
given_color color (field.Color which) n = Some (with_color which (Some color) n)
given_color color which n = None

-- a line of the style with this number
abbrev pub given_decoration : ℕ → Color → Field → NodeData → Option NodeData
given_decoration number color (field.Decoration which) n =
    option_map (λ style. with_decoration which (Some (record { style = style; color = color })) n) (slice_get all_decoration_styles number)
given_decoration number color which n = None

abbrev pub given_number : ℤ → Field → NodeData → Option NodeData
given_number number (field.Number which) n = Some (with_number which (Some number) n)
given_number number which n = None

-- the size and the weight of a text have fewer bits than a count
abbrev pub given_count : ℕ → Field → NodeData → Option NodeData
given_count count (field.Count which) n = Some (with_count which (Some count) n)
given_count count field.FontSize n = if nat_lt count (2 ^ 32) then Some (record n { font_size = Some count }) else None
given_count count field.FontWeight n = if nat_lt count (2 ^ 16) then Some (record n { font_weight = Some count }) else None
given_count count which n = None

-- the action with this number is added to the set
abbrev pub given_action : ℕ → Field → NodeData → Option NodeData
given_action number (field.Actions which) n =
    if nat_lt number 260 then Some (with_actions_field which (with_action (actions_at which n) (action_numbered number)) n) else None
given_action number which n = None

-- a tree's name is sixteen bytes
abbrev pub given_tree : List ℕ → Field → NodeData → Option NodeData
given_tree bytes field.Tree n = if length bytes == 16 then Some (record n { tree_id = Some (record { 0 = bytes }) }) else None
given_tree bytes which n = None

abbrev pub given_rect : Rect → Field → NodeData → Option NodeData
given_rect rect field.Bounds n = Some (record n { bounds = Some rect })
given_rect rect which n = None

abbrev pub given_translation : Translation → Field → NodeData → Option NodeData
given_translation by field.Transform n = Some (record n { transform = Some by })
given_translation by which n = None

abbrev pub given_selection : TextSelection → Field → NodeData → Option NodeData
given_selection selection field.Selection n = Some (record n { text_selection = Some selection })
given_selection selection which n = None

-- the value of these that has this number, counted from 0
abbrev pub given_choice : ℕ → Field → NodeData → Option NodeData
given_choice number field.Toggled n = option_map (λ it. record n { toggled = Some it }) (slice_get all_toggles number)
given_choice number field.Live n = option_map (λ it. record n { live = Some it }) (slice_get all_lives number)
given_choice number field.Orientation n = option_map (λ it. record n { orientation = Some it }) (slice_get all_orientations number)
given_choice number field.SortDirection n = option_map (λ it. record n { sort_direction = Some it }) (slice_get all_sort_directions number)
given_choice number field.AriaCurrent n = option_map (λ it. record n { aria_current = Some it }) (slice_get all_currents number)
given_choice number field.HasPopup n = option_map (λ it. record n { has_popup = Some it }) (slice_get all_popups number)
given_choice number field.TextDirection n = option_map (λ it. record n { text_direction = Some it }) (slice_get all_text_directions number)
given_choice number field.TextAlign n = option_map (λ it. record n { text_align = Some it }) (slice_get all_text_aligns number)
given_choice number field.VerticalOffset n =
    option_map (λ it. record n { vertical_offset = Some it }) (slice_get all_vertical_offsets number)
given_choice number which n = None

-- ---- all of them

-- a value, as plain data
pub data Given : Type 0 where
  AsIds : (ids : List NodeId) → Given
  AsId : (id : NodeId) → Given
  AsText : (text : List ℕ) → Given
  AsFlag : Given
  AsNumbers : (numbers : List ℕ) → Given
  AsUnits : (units : List ℤ) → Given
  AsBool : (is_so : Bool) → Given
  AsColor : (color : Color) → Given
  AsDecoration : (number : ℕ) → (color : Color) → Given
  AsNumber : (number : ℤ) → Given
  AsCount : (count : ℕ) → Given
  AsAction : (number : ℕ) → Given
  AsTree : (bytes : List ℕ) → Given
  AsRect : (rect : Rect) → Given
  AsTranslation : (by : Translation) → Given
  AsSelection : (selection : TextSelection) → Given
  AsChoice : (number : ℕ) → Given

abbrev pub given : FieldValue → Given
given (value.Ids ids) = AsIds ids.now
given (value.Id id) = AsId id
given (value.Text text) = AsText text.now
given value.Flag = AsFlag
given (value.Numbers numbers) = AsNumbers numbers.now
given (value.Units units) = AsUnits units.now
given (value.Bool is_so) = AsBool is_so
given (value.Color color) = AsColor color
given (value.Decoration number color) = AsDecoration number color
given (value.Number number) = AsNumber number
given (value.Count count) = AsCount count
given (value.Action number) = AsAction number
given (value.Tree bytes) = AsTree bytes.now
given (value.Rect rect) = AsRect rect
given (value.Translation by) = AsTranslation by
given (value.Selection selection) = AsSelection selection
given (value.Choice number) = AsChoice number

-- the node with this value of a field, in place of what the field had
abbrev pub with_given : Given → Field → NodeData → Option NodeData
with_given (AsIds ids) which n = given_ids ids which n
with_given (AsId id) which n = given_id id which n
with_given (AsText text) which n = given_text text which n
with_given AsFlag which n = given_flag which n
with_given (AsNumbers numbers) which n = given_numbers numbers which n
with_given (AsUnits units) which n = given_units units which n
with_given (AsBool is_so) which n = given_bool is_so which n
with_given (AsColor color) which n = given_color color which n
with_given (AsDecoration number color) which n = given_decoration number color which n
with_given (AsNumber number) which n = given_number number which n
with_given (AsCount count) which n = given_count count which n
with_given (AsAction number) which n = given_action number which n
with_given (AsTree bytes) which n = given_tree bytes which n
with_given (AsRect rect) which n = given_rect rect which n
with_given (AsTranslation by) which n = given_translation by which n
with_given (AsSelection selection) which n = given_selection selection which n
with_given (AsChoice number) which n = given_choice number which n

-- whether the node became what it is to be; else it is as it was
abbrev pub Becomes : Option NodeData → Bool → NodeData → NodeData → Type 0
Becomes None is_set old new = (is_set ≡ false) × (new ≡ old)
Becomes (Some n) is_set old new = (is_set ≡ true) × (new ≡ n)

-- or there was no memory for it, and it is as it was
abbrev pub Sets : {E : Type 0} → Option NodeData → Result Bool E → NodeData → NodeData → Type 0
Sets wanted (Ok is_set) old new = Becomes wanted is_set old new
Sets wanted (Err wanting) old new = new ≡ old
