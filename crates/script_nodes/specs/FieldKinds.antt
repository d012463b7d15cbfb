-- The fields of a node by the kinds of their values: their names and their values.
use Rattle.std.specs.Prelude.{ℕ, ℤ, List, [], ◌∷◌, codes, Bool, Option}
use Rattle.schema.specs.NodeData.{NodeData}
use Rattle.schema.specs.declared.NodeId.{NodeId}
use Rattle.schema.specs.declared.values.Color.{Color}
use Rattle.schema.specs.declared.values.TextDecoration.{TextDecoration}
use Rattle.script_nodes.specs.declared.field_kinds.IdsField.{IdsField}
use Rattle.script_nodes.specs.declared.field_kinds.IdsField.TheVariants as ids
use Rattle.script_nodes.specs.declared.field_kinds.IdField.{IdField}
use Rattle.script_nodes.specs.declared.field_kinds.IdField.TheVariants as id
use Rattle.script_nodes.specs.declared.field_kinds.TextField.{TextField}
use Rattle.script_nodes.specs.declared.field_kinds.TextField.TheVariants as text
use Rattle.script_nodes.specs.declared.field_kinds.FlagField.{FlagField}
use Rattle.script_nodes.specs.declared.field_kinds.FlagField.TheVariants as flag
use Rattle.script_nodes.specs.declared.field_kinds.NumbersField.{NumbersField}
use Rattle.script_nodes.specs.declared.field_kinds.NumbersField.TheVariants as numbers
use Rattle.script_nodes.specs.declared.field_kinds.UnitsField.{UnitsField}
use Rattle.script_nodes.specs.declared.field_kinds.UnitsField.TheVariants as units
use Rattle.script_nodes.specs.declared.field_kinds.BoolField.{BoolField}
use Rattle.script_nodes.specs.declared.field_kinds.BoolField.TheVariants as bool
use Rattle.script_nodes.specs.declared.field_kinds.ColorField.{ColorField}
use Rattle.script_nodes.specs.declared.field_kinds.ColorField.TheVariants as color
use Rattle.script_nodes.specs.declared.field_kinds.DecorationField.{DecorationField}
use Rattle.script_nodes.specs.declared.field_kinds.DecorationField.TheVariants as decoration
use Rattle.script_nodes.specs.declared.field_kinds.NumberField.{NumberField}
use Rattle.script_nodes.specs.declared.field_kinds.NumberField.TheVariants as number
use Rattle.script_nodes.specs.declared.field_kinds.CountField.{CountField}
use Rattle.script_nodes.specs.declared.field_kinds.CountField.TheVariants as count
use Rattle.script_nodes.specs.declared.field_kinds.ActionsField.{ActionsField}
use Rattle.script_nodes.specs.declared.field_kinds.ActionsField.TheVariants as actions
use Rattle.script_nodes.specs.declared.field_kinds.Field.{Field}
use Rattle.script_nodes.specs.declared.field_kinds.Field.TheVariants as field

-- a field of a node: its name in a line, its value in a node, and the node with another value
pub record NodeField (A : Type 0) : Type 0 where
  pub name : List ℕ
  pub at : NodeData → A
  pub put : A → NodeData → NodeData

abbrev field_of : {A : Type 0} → List ℕ → (NodeData → A) → (A → NodeData → NodeData) → NodeField A
field_of name at put = record { name = name; at = at; put = put }

-- ---- lists of nodes

abbrev pub ids_field : IdsField → NodeField (List NodeId)
ids_field ids.Children = field_of (codes "children") (λ n. n.children) (λ value n. record n { children = value })
ids_field ids.LabelledBy = field_of (codes "labelled") (λ n. n.labelled_by) (λ value n. record n { labelled_by = value })
ids_field ids.Controls = field_of (codes "controls") (λ n. n.controls) (λ value n. record n { controls = value })

abbrev pub ids_at : IdsField → NodeData → List NodeId
ids_at which = (ids_field which).at

abbrev pub with_ids : IdsField → List NodeId → NodeData → NodeData
with_ids which = (ids_field which).put

-- ---- nodes

abbrev pub id_field : IdField → NodeField (Option NodeId)
id_field id.ActiveDescendant = field_of (codes "active") (λ n. n.active_descendant) (λ value n. record n { active_descendant = value })
id_field id.PreviousOnLine = field_of (codes "prev") (λ n. n.previous_on_line) (λ value n. record n { previous_on_line = value })
id_field id.NextOnLine = field_of (codes "next") (λ n. n.next_on_line) (λ value n. record n { next_on_line = value })

abbrev pub id_at : IdField → NodeData → Option NodeId
id_at which = (id_field which).at

abbrev pub with_id : IdField → Option NodeId → NodeData → NodeData
with_id which = (id_field which).put

-- ---- texts

abbrev pub text_field : TextField → NodeField (Option (List ℕ))
text_field text.Label = field_of (codes "label") (λ n. n.label) (λ value n. record n { label = value })
text_field text.Value = field_of (codes "value") (λ n. n.value) (λ value n. record n { value = value })
text_field text.Description = field_of (codes "description") (λ n. n.description) (λ value n. record n { description = value })
text_field text.Placeholder = field_of (codes "placeholder") (λ n. n.placeholder) (λ value n. record n { placeholder = value })
text_field text.RoleDescription =
    field_of (codes "role_description") (λ n. n.role_description) (λ value n. record n { role_description = value })
text_field text.Url = field_of (codes "url") (λ n. n.url) (λ value n. record n { url = value })
text_field text.AuthorId = field_of (codes "author_id") (λ n. n.author_id) (λ value n. record n { author_id = value })
text_field text.HtmlId = field_of (codes "html_id") (λ n. n.html_id) (λ value n. record n { html_id = value })
text_field text.ClassName = field_of (codes "class_name") (λ n. n.class_name) (λ value n. record n { class_name = value })
text_field text.BrailleLabel = field_of (codes "braille_label") (λ n. n.braille_label) (λ value n. record n { braille_label = value })
text_field text.BrailleRoleDescription =
    field_of (codes "braille_role_description") (λ n. n.braille_role_description) (λ value n. record n { braille_role_description = value })
text_field text.ColumnIndexText =
    field_of (codes "column_index_text") (λ n. n.column_index_text) (λ value n. record n { column_index_text = value })
text_field text.RowIndexText = field_of (codes "row_index_text") (λ n. n.row_index_text) (λ value n. record n { row_index_text = value })
text_field text.FontFamily = field_of (codes "font_family") (λ n. n.font_family) (λ value n. record n { font_family = value })
text_field text.Language = field_of (codes "language") (λ n. n.language) (λ value n. record n { language = value })

abbrev pub text_at : TextField → NodeData → Option (List ℕ)
text_at which = (text_field which).at

abbrev pub with_text : TextField → Option (List ℕ) → NodeData → NodeData
with_text which = (text_field which).put

-- ---- flags

abbrev pub flag_field : FlagField → NodeField Bool
flag_field flag.Hidden = field_of (codes "hidden") (λ n. n.hidden) (λ value n. record n { hidden = value })
flag_field flag.ClipsChildren = field_of (codes "clips") (λ n. n.clips_children) (λ value n. record n { clips_children = value })
flag_field flag.Disabled = field_of (codes "disabled") (λ n. n.disabled) (λ value n. record n { disabled = value })
flag_field flag.ReadOnly = field_of (codes "read_only") (λ n. n.read_only) (λ value n. record n { read_only = value })
flag_field flag.Required = field_of (codes "required") (λ n. n.required) (λ value n. record n { required = value })
flag_field flag.Modal = field_of (codes "modal") (λ n. n.modal) (λ value n. record n { modal = value })
flag_field flag.Busy = field_of (codes "busy") (λ n. n.busy) (λ value n. record n { busy = value })
flag_field flag.Multiselectable =
    field_of (codes "multiselectable") (λ n. n.multiselectable) (λ value n. record n { multiselectable = value })
flag_field flag.Italic = field_of (codes "italic") (λ n. n.italic) (λ value n. record n { italic = value })
flag_field flag.LiveAtomic = field_of (codes "live_atomic") (λ n. n.live_atomic) (λ value n. record n { live_atomic = value })
flag_field flag.TouchTransparent =
    field_of (codes "touch_transparent") (λ n. n.touch_transparent) (λ value n. record n { touch_transparent = value })

abbrev pub flag_at : FlagField → NodeData → Bool
flag_at which = (flag_field which).at

abbrev pub with_flag : FlagField → Bool → NodeData → NodeData
with_flag which = (flag_field which).put

-- ---- lists of numbers

abbrev pub numbers_field : NumbersField → NodeField (List ℕ)
numbers_field numbers.CharacterLengths =
    field_of (codes "chars") (λ n. n.character_lengths) (λ value n. record n { character_lengths = value })
numbers_field numbers.WordStarts = field_of (codes "words") (λ n. n.word_starts) (λ value n. record n { word_starts = value })

abbrev pub numbers_at : NumbersField → NodeData → List ℕ
numbers_at which = (numbers_field which).at

abbrev pub with_numbers : NumbersField → List ℕ → NodeData → NodeData
with_numbers which = (numbers_field which).put

-- ---- lists of numbers in units of 1/64 pixel

abbrev pub units_field : UnitsField → NodeField (Option (List ℤ))
units_field units.CharacterPositions =
    field_of (codes "character_positions") (λ n. n.character_positions) (λ value n. record n { character_positions = value })
units_field units.CharacterWidths =
    field_of (codes "character_widths") (λ n. n.character_widths) (λ value n. record n { character_widths = value })

abbrev pub units_at : UnitsField → NodeData → Option (List ℤ)
units_at which = (units_field which).at

abbrev pub with_units : UnitsField → Option (List ℤ) → NodeData → NodeData
with_units which = (units_field which).put

-- ---- flags that may be unset

abbrev pub bool_field : BoolField → NodeField (Option Bool)
bool_field bool.Expanded = field_of (codes "expanded") (λ n. n.expanded) (λ value n. record n { expanded = value })
bool_field bool.Selected = field_of (codes "selected") (λ n. n.selected) (λ value n. record n { selected = value })

abbrev pub bool_at : BoolField → NodeData → Option Bool
bool_at which = (bool_field which).at

abbrev pub with_bool : BoolField → Option Bool → NodeData → NodeData
with_bool which = (bool_field which).put

-- ---- colours

abbrev pub color_field : ColorField → NodeField (Option Color)
color_field color.Background =
    field_of (codes "background_color") (λ n. n.background_color) (λ value n. record n { background_color = value })
color_field color.Foreground =
    field_of (codes "foreground_color") (λ n. n.foreground_color) (λ value n. record n { foreground_color = value })

abbrev pub color_at : ColorField → NodeData → Option Color
color_at which = (color_field which).at

abbrev pub with_color : ColorField → Option Color → NodeData → NodeData
with_color which = (color_field which).put

-- ---- lines above, through or below text

abbrev pub decoration_field : DecorationField → NodeField (Option TextDecoration)
decoration_field decoration.Overline = field_of (codes "overline") (λ n. n.overline) (λ value n. record n { overline = value })
decoration_field decoration.Strikethrough =
    field_of (codes "strikethrough") (λ n. n.strikethrough) (λ value n. record n { strikethrough = value })
decoration_field decoration.Underline = field_of (codes "underline") (λ n. n.underline) (λ value n. record n { underline = value })

abbrev pub decoration_at : DecorationField → NodeData → Option TextDecoration
decoration_at which = (decoration_field which).at

abbrev pub with_decoration : DecorationField → Option TextDecoration → NodeData → NodeData
with_decoration which = (decoration_field which).put

-- ---- numbers

abbrev pub number_field : NumberField → NodeField (Option ℤ)
number_field number.NumericValue = field_of (codes "number") (λ n. n.numeric_value) (λ value n. record n { numeric_value = value })
number_field number.MinNumericValue = field_of (codes "min") (λ n. n.min_numeric_value) (λ value n. record n { min_numeric_value = value })
number_field number.MaxNumericValue = field_of (codes "max") (λ n. n.max_numeric_value) (λ value n. record n { max_numeric_value = value })
number_field number.NumericValueStep =
    field_of (codes "step") (λ n. n.numeric_value_step) (λ value n. record n { numeric_value_step = value })
number_field number.NumericValueJump =
    field_of (codes "jump") (λ n. n.numeric_value_jump) (λ value n. record n { numeric_value_jump = value })
number_field number.ScrollX = field_of (codes "scroll_x") (λ n. n.scroll_x) (λ value n. record n { scroll_x = value })
number_field number.ScrollXMin = field_of (codes "scroll_x_min") (λ n. n.scroll_x_min) (λ value n. record n { scroll_x_min = value })
number_field number.ScrollXMax = field_of (codes "scroll_x_max") (λ n. n.scroll_x_max) (λ value n. record n { scroll_x_max = value })
number_field number.ScrollY = field_of (codes "scroll_y") (λ n. n.scroll_y) (λ value n. record n { scroll_y = value })
number_field number.ScrollYMin = field_of (codes "scroll_y_min") (λ n. n.scroll_y_min) (λ value n. record n { scroll_y_min = value })
number_field number.ScrollYMax = field_of (codes "scroll_y_max") (λ n. n.scroll_y_max) (λ value n. record n { scroll_y_max = value })

abbrev pub number_at : NumberField → NodeData → Option ℤ
number_at which = (number_field which).at

abbrev pub with_number : NumberField → Option ℤ → NodeData → NodeData
with_number which = (number_field which).put

-- ---- counts

abbrev pub count_field : CountField → NodeField (Option ℕ)
count_field count.Level = field_of (codes "level") (λ n. n.level) (λ value n. record n { level = value })
count_field count.SizeOfSet = field_of (codes "set_size") (λ n. n.size_of_set) (λ value n. record n { size_of_set = value })
count_field count.PositionInSet = field_of (codes "position") (λ n. n.position_in_set) (λ value n. record n { position_in_set = value })

abbrev pub count_at : CountField → NodeData → Option ℕ
count_at which = (count_field which).at

abbrev pub with_count : CountField → Option ℕ → NodeData → NodeData
with_count which = (count_field which).put

-- ---- sets of actions

abbrev pub actions_field : ActionsField → NodeField ℕ
actions_field actions.Own = field_of (codes "actions") (λ n. n.actions) (λ value n. record n { actions = value })
actions_field actions.Children = field_of (codes "child_actions") (λ n. n.child_actions) (λ value n. record n { child_actions = value })

abbrev pub actions_at : ActionsField → NodeData → ℕ
actions_at which = (actions_field which).at

abbrev pub with_actions_field : ActionsField → ℕ → NodeData → NodeData
with_actions_field which = (actions_field which).put

-- ---- all of them

abbrev pub field_name : Field → List ℕ
field_name (field.Ids which) = (ids_field which).name
field_name (field.Id which) = (id_field which).name
field_name (field.Text which) = (text_field which).name
field_name (field.Flag which) = (flag_field which).name
field_name (field.Numbers which) = (numbers_field which).name
field_name (field.Units which) = (units_field which).name
field_name (field.Bool which) = (bool_field which).name
field_name (field.Color which) = (color_field which).name
field_name (field.Decoration which) = (decoration_field which).name
field_name (field.Number which) = (number_field which).name
field_name (field.Count which) = (count_field which).name
field_name (field.Actions which) = (actions_field which).name
field_name field.Tree = codes "tree"
field_name field.Bounds = codes "bounds"
field_name field.Transform = codes "move"
field_name field.Selection = codes "selection"
field_name field.Toggled = codes "toggled"
field_name field.Live = codes "live"
field_name field.Orientation = codes "orientation"
field_name field.SortDirection = codes "sort_direction"
field_name field.AriaCurrent = codes "aria_current"
field_name field.HasPopup = codes "has_popup"
field_name field.FontSize = codes "font_size"
field_name field.FontWeight = codes "font_weight"
field_name field.TextDirection = codes "text_direction"
field_name field.TextAlign = codes "text_align"
field_name field.VerticalOffset = codes "vertical_offset"

-- all fields, in the order in which they are written
abbrev pub all_fields : List Field
all_fields =
    field.Ids ids.Children ∷ field.Ids ids.LabelledBy ∷ field.Ids ids.Controls ∷ field.Tree ∷
    field.Id id.ActiveDescendant ∷ field.Text text.Label ∷ field.Text text.Value ∷ field.Text text.Description ∷
    field.Text text.Placeholder ∷ field.Text text.RoleDescription ∷ field.Text text.Url ∷ field.Text text.AuthorId ∷
    field.Text text.HtmlId ∷ field.Text text.ClassName ∷ field.Text text.BrailleLabel ∷
    field.Text text.BrailleRoleDescription ∷ field.Text text.ColumnIndexText ∷ field.Text text.RowIndexText ∷
    field.Text text.FontFamily ∷ field.Text text.Language ∷ field.Flag flag.Hidden ∷ field.Flag flag.ClipsChildren ∷
    field.Flag flag.Disabled ∷ field.Flag flag.ReadOnly ∷ field.Flag flag.Required ∷ field.Flag flag.Modal ∷
    field.Flag flag.Busy ∷ field.Flag flag.Multiselectable ∷ field.Flag flag.Italic ∷ field.Flag flag.LiveAtomic ∷
    field.Flag flag.TouchTransparent ∷ field.Bounds ∷ field.Transform ∷ field.Selection ∷
    field.Numbers numbers.CharacterLengths ∷ field.Numbers numbers.WordStarts ∷ field.Units units.CharacterPositions ∷
    field.Units units.CharacterWidths ∷ field.Id id.PreviousOnLine ∷ field.Id id.NextOnLine ∷ field.Toggled ∷
    field.Bool bool.Expanded ∷ field.Bool bool.Selected ∷ field.Live ∷ field.Orientation ∷ field.SortDirection ∷
    field.AriaCurrent ∷ field.HasPopup ∷ field.FontSize ∷ field.FontWeight ∷ field.Color color.Background ∷
    field.Color color.Foreground ∷ field.Decoration decoration.Overline ∷ field.Decoration decoration.Strikethrough ∷
    field.Decoration decoration.Underline ∷ field.TextDirection ∷ field.TextAlign ∷ field.VerticalOffset ∷
    field.Number number.NumericValue ∷ field.Number number.MinNumericValue ∷ field.Number number.MaxNumericValue ∷
    field.Number number.NumericValueStep ∷ field.Number number.NumericValueJump ∷ field.Count count.Level ∷
    field.Count count.SizeOfSet ∷ field.Count count.PositionInSet ∷ field.Number number.ScrollX ∷
    field.Number number.ScrollXMin ∷ field.Number number.ScrollXMax ∷ field.Number number.ScrollY ∷
    field.Number number.ScrollYMin ∷ field.Number number.ScrollYMax ∷ field.Actions actions.Own ∷
    field.Actions actions.Children ∷ []
