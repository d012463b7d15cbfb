-- What the line of a node means: an id, a role, and fields in any order, none twice.
use Rattle.std.specs.Prelude.{ℕ, ℤ, Bool, true, false, List, [], ◌∷◌, Option, Some, None, Result, option_map}
use Rattle.schema.specs.NodeData.{NodeData, empty_node}
use Rattle.schema.specs.declared.NodeId.{NodeId}
use Rattle.schema.specs.declared.Role.{Role}
use Rattle.schema.specs.declared.TreeId.{TreeId}
use Rattle.schema.specs.declared.actions.Action.{Action}
use Rattle.schema.specs.declared.geometry.Rect.{Rect}
use Rattle.schema.specs.declared.geometry.Translation.{Translation}
use Rattle.schema.specs.declared.values.AriaCurrent.{AriaCurrent}
use Rattle.schema.specs.declared.values.Color.{Color}
use Rattle.schema.specs.declared.values.HasPopup.{HasPopup}
use Rattle.schema.specs.declared.values.Live.{Live}
use Rattle.schema.specs.declared.values.Orientation.{Orientation}
use Rattle.schema.specs.declared.values.SortDirection.{SortDirection}
use Rattle.schema.specs.declared.values.TextAlign.{TextAlign}
use Rattle.schema.specs.declared.values.TextDecoration.{TextDecoration}
use Rattle.schema.specs.declared.values.TextDirection.{TextDirection}
use Rattle.schema.specs.declared.values.TextSelection.{TextSelection}
use Rattle.schema.specs.declared.values.Toggled.{Toggled}
use Rattle.schema.specs.declared.values.VerticalOffset.{VerticalOffset}
use Rattle.script_nodes.specs.ActionLists.{actions_in, with_actions}
use Rattle.script_nodes.specs.FieldKinds.{actions_at, all_fields, bool_at, color_at, count_at, decoration_at, field_name, flag_at, id_at, ids_at, number_at, numbers_at, text_at, units_at, with_actions_field, with_bool, with_color, with_count, with_decoration, with_flag, with_id, with_ids, with_number, with_numbers, with_text, with_units}
use Rattle.script_nodes.specs.declared.field_kinds.ActionsField.{ActionsField}
use Rattle.script_nodes.specs.declared.field_kinds.Field.{Field}
use Rattle.script_nodes.specs.declared.field_kinds.Field.TheVariants as field
use Rattle.script_words.specs.Fields.{each_word, fields_of, name_of, value_of}
use Rattle.script_words.specs.Answering.{AnswersAs, put_next}
use Rattle.script_words.specs.Meaning.{next_as, onward}
use Rattle.script_words.specs.NamedIn.{first_named}
use Rattle.script_words.specs.PartValues.{action_of, color_of, decoration_of, list_of, rect_of, role_of, selection_of, translation_of, unit_list_of}
use Rattle.script_words.specs.Reading.{unread}
use Rattle.script_words.specs.Texts.{next_text, text_of}
use Rattle.script_words.specs.WordValues.{aria_current_of, has_popup_of, id_of, live_of, narrow_of, number_of, orientation_of, short_of, signed_of, sort_direction_of, text_align_of, text_direction_of, toggled_of, tree_of, truth_of, vertical_offset_of}
use Rattle.script_words.specs.declared.stops.Stop.{Stop}
use Rattle.script_words.specs.declared.words.Words.{Words}

-- the field with this name
unfoldable pub field_called : List ℕ → Option Field
field_called name = first_named field_name name all_fields

-- the fields whose values are texts
abbrev pub is_text : Option Field → Bool
is_text (Some (field.Text which)) = true
is_text which = false

abbrev pub takes_text : List ℕ → Bool
takes_text name = is_text (field_called name)

-- ---- none twice

-- this is meant of what isn't given yet; of what is, nothing
abbrev pub once : {T M : Type 0} → Option T → Option M → Option M
once None meant = meant
once (Some old) meant = None

-- the same of a list, which is never empty where it is given
unfoldable pub once_listed : {T M : Type 0} → List T → Option M → Option M
once_listed [] meant = meant
once_listed (item ∷ others) meant = None

abbrev pub once_set : {M : Type 0} → Bool → Option M → Option M
once_set false meant = meant
once_set true meant = None

-- ---- the values of fields

-- a node with more actions
abbrev pub adding : ActionsField → NodeData → List Action → NodeData
adding which n actions = with_actions_field which (with_actions (actions_at which n) actions) n

-- What is meant by a field that has a value: the reading of a word as a value of its kind, and the node that has it; or the same of a text
-- in quotes. A flag has no value.
unfoldable pub by_kind : {M : Type 0} → ((T : Type 0) → (List ℕ → Option T) → (T → NodeData) → Option M) → ((List ℕ → NodeData) → Option M)
    → Field → NodeData → Option M
by_kind word text (field.Ids which) n = once_listed (ids_at which n) (word (List NodeId) (list_of id_of) (λ ids. with_ids which ids n))
by_kind word text (field.Id which) n = once (id_at which n) (word NodeId id_of (λ id. with_id which (Some id) n))
by_kind word text (field.Text which) n = once (text_at which n) (text (λ value. with_text which (Some value) n))
by_kind word text (field.Flag which) n = None
by_kind word text (field.Numbers which) n =
    once_listed (numbers_at which n) (word (List ℕ) (list_of short_of) (λ numbers. with_numbers which numbers n))
by_kind word text (field.Units which) n = once (units_at which n) (word (List ℤ) unit_list_of (λ units. with_units which (Some units) n))
by_kind word text (field.Bool which) n = once (bool_at which n) (word Bool truth_of (λ is_so. with_bool which (Some is_so) n))
by_kind word text (field.Color which) n = once (color_at which n) (word Color color_of (λ color. with_color which (Some color) n))
by_kind word text (field.Decoration which) n =
    once (decoration_at which n) (word TextDecoration decoration_of (λ decoration. with_decoration which (Some decoration) n))
by_kind word text (field.Number which) n = once (number_at which n) (word ℤ signed_of (λ number. with_number which (Some number) n))
by_kind word text (field.Count which) n = once (count_at which n) (word ℕ number_of (λ count. with_count which (Some count) n))
by_kind word text (field.Actions which) n =
    once_listed (actions_in (actions_at which n)) (word (List Action) (list_of action_of) (adding which n))
by_kind word text field.Tree n = once n.tree_id (word TreeId tree_of (λ tree. record n { tree_id = Some tree }))
by_kind word text field.Bounds n = once n.bounds (word Rect rect_of (λ rect. record n { bounds = Some rect }))
by_kind word text field.Transform n = once n.transform (word Translation translation_of (λ by. record n { transform = Some by }))
by_kind word text field.Selection n =
    once n.text_selection (word TextSelection selection_of (λ selection. record n { text_selection = Some selection }))
by_kind word text field.Toggled n = once n.toggled (word Toggled toggled_of (λ value. record n { toggled = Some value }))
by_kind word text field.Live n = once n.live (word Live live_of (λ value. record n { live = Some value }))
by_kind word text field.Orientation n =
    once n.orientation (word Orientation orientation_of (λ value. record n { orientation = Some value }))
by_kind word text field.SortDirection n =
    once n.sort_direction (word SortDirection sort_direction_of (λ value. record n { sort_direction = Some value }))
by_kind word text field.AriaCurrent n =
    once n.aria_current (word AriaCurrent aria_current_of (λ value. record n { aria_current = Some value }))
by_kind word text field.HasPopup n = once n.has_popup (word HasPopup has_popup_of (λ value. record n { has_popup = Some value }))
by_kind word text field.FontSize n = once n.font_size (word ℕ narrow_of (λ size. record n { font_size = Some size }))
by_kind word text field.FontWeight n = once n.font_weight (word ℕ short_of (λ weight. record n { font_weight = Some weight }))
by_kind word text field.TextDirection n =
    once n.text_direction (word TextDirection text_direction_of (λ value. record n { text_direction = Some value }))
by_kind word text field.TextAlign n = once n.text_align (word TextAlign text_align_of (λ value. record n { text_align = Some value }))
by_kind word text field.VerticalOffset n =
    once n.vertical_offset (word VerticalOffset vertical_offset_of (λ value. record n { vertical_offset = Some value }))

-- ---- a field, and all of them

-- the node with the value that this word is
abbrev pub value_means : Field → List ℕ → NodeData → Option NodeData
value_means which word n = by_kind (λ T meaning put. option_map put (meaning word)) (λ put. option_map put (text_of word)) which n

-- a flag is its name alone
abbrev pub flag_means : Field → NodeData → Option NodeData
flag_means (field.Flag which) n = once_set (flag_at which n) (Some (with_flag which true n))
flag_means which n = None

abbrev pub by_value : Field → Option (List ℕ) → NodeData → Option NodeData
by_value which None n = flag_means which n
by_value which (Some value) n = value_means which value n

abbrev pub field_means : List ℕ → NodeData → Option NodeData
field_means word n = onward (field_called (name_of word)) (λ which. by_value which (value_of word) n)

-- a node of this role with the fields of a line
abbrev pub fields_mean : Role → Option (List ℕ) → Option NodeData
fields_mean role line = each_word field_means (fields_of takes_text line) (empty_node role)

-- THE MEANING OF THE LINE, from the id on
abbrev pub node_means : Option (List ℕ) → Option (NodeId × NodeData)
node_means line =
    onward (next_as id_of line) (λ id. onward (next_as role_of id.1) (λ role. option_map (λ n. (id.0, n)) (fields_mean role.0 role.1)))

-- ---- how a reader goes over it

-- the node with the value that comes next
abbrev pub value_at : Field → Option (List ℕ) → NodeData → Option (NodeData × Option (List ℕ))
value_at which line n =
    by_kind (λ T meaning put. option_map (put_next put) (next_as meaning line)) (λ put. option_map (put_next put) (next_text line)) which n

-- The node gets the value that comes next, and what is behind it is left; or nothing is meant, and the line is bad; or there is no memory.
abbrev pub ReadsValue : {R : Type 0} → Field → Words → NodeData → Result R Stop → NodeData → Words → Type 0
ReadsValue which before n result new left = AnswersAs (value_at which (unread before) n) result (λ read. (new, unread left))
