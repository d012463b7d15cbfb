-- What a node has in its fields, by the kinds of their values.
use Rattle.std.specs.Prelude.{◌≡◌, ◌+◌, ℕ, ℤ, Bool, List, map, slice_get, Option, Some, None, option_map, option_and_then, is_some}
use Rattle.schema.specs.NodeData.{NodeData}
use Rattle.schema.specs.declared.actions.Action.{Action}
use Rattle.schema.specs.declared.actions.Action.TheVariants.{Click, Focus, Increment, Decrement, Other}
use Rattle.schema.specs.declared.geometry.Rect.{Rect}
use Rattle.schema.specs.declared.geometry.Translation.{Translation}
use Rattle.schema.specs.declared.values.Color.{Color}
use Rattle.schema.specs.declared.values.TextDecoration.{TextDecoration}
use Rattle.schema.specs.declared.values.TextSelection.{TextSelection}
use Rattle.model.specs.declared.FullNodeId.{FullNodeId}
use Rattle.script_nodes.specs.ActionLists.{actions_in}
use Rattle.script_nodes.specs.FieldKinds.{ids_at, id_at, text_at, flag_at, numbers_at, units_at, bool_at, color_at, decoration_at, number_at, count_at, actions_at}
use Rattle.script_nodes.specs.FieldNumbers.{numbered_fields}
use Rattle.script_nodes.specs.declared.field_kinds.Field.{Field}
use Rattle.script_nodes.specs.declared.field_kinds.Field.TheVariants as field
use Rattle.fed_tree.specs.Fed.{Fed}
use Rattle.fed_tree.specs.Reads.{data_in}
use Rattle.fed_tree_c.specs.Answers.{Answers, AnswersList, GivesList, CLOSED, lack_where}
use Rattle.fed_tree_c.specs.ChoiceNumbers.{toggled_number, live_number, orientation_number, sort_direction_number, aria_current_number, has_popup_number, text_direction_number, text_align_number, vertical_offset_number, decoration_style_number}
use Rattle.fed_tree_c.specs.declared.field_records.AkColor.{AkColor}
use Rattle.fed_tree_c.specs.declared.field_records.AkDecoration.{AkDecoration}
use Rattle.fed_tree_c.specs.declared.field_records.AkRect.{AkRect}
use Rattle.fed_tree_c.specs.declared.field_records.AkSelection.{AkSelection}
use Rattle.fed_tree_c.specs.declared.field_records.AkTranslation.{AkTranslation}

-- What is read of a field: what a node has in it, or nothing of a field whose values are of another kind.
abbrev pub Reads : Type 0 → Type 0
Reads A = Field → Option (NodeData → Option A)

-- ---- one kind of value after another

-- the ids of nodes in the node's tree
abbrev pub ids_of : Reads (List ℕ)
ids_of (field.Ids which) = Some (λ n. Some (map (λ id. id.0) (ids_at which n)))
ids_of which = None

abbrev pub id_of_field : Reads ℕ
id_of_field (field.Id which) = Some (λ n. option_map (λ id. id.0) (id_at which n))
id_of_field which = None

abbrev pub text_of : Reads (List ℕ)
text_of (field.Text which) = Some (text_at which)
text_of which = None

-- a flag is set or not; one that may be unset has no value then
abbrev pub flag_of : Reads Bool
flag_of (field.Flag which) = Some (λ n. Some (flag_at which n))
flag_of (field.Bool which) = Some (bool_at which)
flag_of which = None

abbrev pub choice_of : Reads ℕ
choice_of field.Toggled = Some (λ n. option_map toggled_number n.toggled)
choice_of field.Live = Some (λ n. option_map live_number n.live)
choice_of field.Orientation = Some (λ n. option_map orientation_number n.orientation)
choice_of field.SortDirection = Some (λ n. option_map sort_direction_number n.sort_direction)
choice_of field.AriaCurrent = Some (λ n. option_map aria_current_number n.aria_current)
choice_of field.HasPopup = Some (λ n. option_map has_popup_number n.has_popup)
choice_of field.TextDirection = Some (λ n. option_map text_direction_number n.text_direction)
choice_of field.TextAlign = Some (λ n. option_map text_align_number n.text_align)
choice_of field.VerticalOffset = Some (λ n. option_map vertical_offset_number n.vertical_offset)
choice_of which = None

abbrev pub number_of : Reads ℤ
number_of (field.Number which) = Some (number_at which)
number_of which = None

-- a count, or the size or the weight of a text
abbrev pub count_of : Reads ℕ
count_of (field.Count which) = Some (count_at which)
count_of field.FontSize = Some (λ n. n.font_size)
count_of field.FontWeight = Some (λ n. n.font_weight)
count_of which = None

abbrev pub numbers_of : Reads (List ℕ)
numbers_of (field.Numbers which) = Some (λ n. Some (numbers_at which n))
numbers_of which = None

abbrev pub units_of : Reads (List ℤ)
units_of (field.Units which) = Some (units_at which)
units_of which = None

-- an action's number: those with names have their places, and those without begin at 256
abbrev pub action_number : Action → ℕ
action_number Click = 0
action_number Focus = 1
action_number Increment = 2
action_number Decrement = 3
action_number (Other number) = 256 + number

abbrev pub actions_of : Reads (List ℕ)
actions_of (field.Actions which) = Some (λ n. Some (map action_number (actions_in (actions_at which n))))
actions_of which = None

-- the sixteen bytes of a tree's id
abbrev pub tree_of : Reads (List ℕ)
tree_of field.Tree = Some (λ n. option_map (λ name. name.0) n.tree_id)
tree_of which = None

abbrev pub rect_seen : Rect → AkRect
rect_seen r = record { x0 = r.x0; y0 = r.y0; x1 = r.x1; y1 = r.y1 }

abbrev pub rect_of : Reads AkRect
rect_of field.Bounds = Some (λ n. option_map rect_seen n.bounds)
rect_of which = None

abbrev pub translation_seen : Translation → AkTranslation
translation_seen by = record { x = by.x; y = by.y }

abbrev pub translation_of : Reads AkTranslation
translation_of field.Transform = Some (λ n. option_map translation_seen n.transform)
translation_of which = None

abbrev pub selection_seen : TextSelection → AkSelection
selection_seen s = record {
  anchor = s.anchor.node.0;
  anchor_character = s.anchor.character_index;
  focus = s.focus.node.0;
  focus_character = s.focus.character_index;
}

abbrev pub selection_of : Reads AkSelection
selection_of field.Selection = Some (λ n. option_map selection_seen n.text_selection)
selection_of which = None

abbrev pub color_seen : Color → AkColor
color_seen c = record { red = c.red; green = c.green; blue = c.blue; alpha = c.alpha }

abbrev pub color_of : Reads AkColor
color_of (field.Color which) = Some (λ n. option_map color_seen (color_at which n))
color_of which = None

abbrev pub decoration_seen : TextDecoration → AkDecoration
decoration_seen d = record { style = decoration_style_number d.style; color = color_seen d.color }

abbrev pub decoration_of : Reads AkDecoration
decoration_of (field.Decoration which) = Some (λ n. option_map decoration_seen (decoration_at which n))
decoration_of which = None

-- ---- by the number of the field

-- what is read of the field with this number, if its values are of that kind
abbrev pub reads_by : {A : Type 0} → Reads A → ℕ → Option (NodeData → Option A)
reads_by reads number = option_and_then reads (slice_get numbered_fields number)

-- what the node has in it
abbrev pub field_in : {A : Type 0} → Reads A → ℕ → FullNodeId → Fed → Option A
field_in reads number id fed = option_and_then (λ read. option_and_then read (data_in fed.world id)) (reads_by reads number)

-- what is answered where it has nothing: also that there is no such field
abbrev pub lack_of_field : {A : Type 0} → Reads A → ℕ → FullNodeId → Fed → ℕ
lack_of_field reads number = lack_where (is_some (reads_by reads number))

abbrev pub AnswersField : {A : Type 0} → Reads A → ℕ → FullNodeId → Option Fed → ℕ → A → A → Type 0
AnswersField reads number id handle = Answers handle (lack_of_field reads number id) (field_in reads number id)

-- a list that takes no memory
abbrev pub AnswersItems : {A : Type 0} → Reads (List A) → ℕ → FullNodeId → Option Fed → ℕ → List A → List A → ℕ → ℕ → Type 0
AnswersItems reads number id None status old new old_length new_length = (status ≡ CLOSED) × (new ≡ old) × (new_length ≡ old_length)
AnswersItems reads number id (Some fed) status old new old_length new_length =
    GivesList (lack_of_field reads number id fed) (field_in reads number id fed) status old new old_length new_length

-- and one that takes some
abbrev pub AnswersFieldList : {A : Type 0} → Reads (List A) → ℕ → FullNodeId → Option Fed → ℕ → List A → List A → ℕ → ℕ → Type 0
AnswersFieldList reads number id handle = AnswersList handle (lack_of_field reads number id) (field_in reads number id)
