-- What is shown of a tree: a line for each node that the common filter shows.
use Rattle.std.specs.Prelude.{ℕ, List, [], ◌∷◌, ◌++◌, Bool, true, false, not, codes, flat_map, map, Option, Some, None, if◌then◌else◌}
use Rattle.std.specs.Option.{option_map_or}
use Rattle.schema.specs.NodeData.{NodeData}
use Rattle.role_names.specs.Names.{shown_name}
use Rattle.model.specs.declared.FullNodeId.{FullNodeId}
use Rattle.model.specs.World.{World, data_of, root_of}
use Rattle.model.specs.Covers.{is_included}
use Rattle.model.specs.Filters.{common_filter}
use Rattle.model.specs.Lists.{ancestors}
use Rattle.script_nodes.specs.FieldKinds.{all_fields}
use Rattle.script_nodes.specs.NodeText.{piece}
use Rattle.script_nodes.specs.declared.field_kinds.Field.{Field}
use Rattle.script_nodes.specs.declared.field_kinds.Field.TheVariants as field
use Rattle.script_nodes.specs.declared.field_kinds.TextField.TheVariants as text
use Rattle.script_words.specs.Quoted.{quoted_byte}
use Rattle.views.specs.Descendants.{filtered_descendants}
use Rattle.views.specs.declared.node.node_ref.NodeRef.{NodeRef}
use Rattle.views.specs.Nodes.{world_at, id_at, data_at}
use Rattle.hidden_texts.specs.Hidden.{hides_value, hides_label, is_in_password}
use Rattle.hidden_texts.specs.Shown.{shown_value, shown_label}

-- two spaces for a node that is shown
abbrev pub indent : World → FullNodeId → List ℕ
indent w id = if is_included (common_filter w id) then codes "  " else []

-- a word and the text in quotes, if there is one
abbrev pub quoted_after : List ℕ → Option (List ℕ) → List ℕ
quoted_after word None = []
quoted_after word (Some text) = word ++ codes "\"" ++ flat_map quoted_byte text ++ codes "\""

-- the label and the value, or that they are hidden
abbrev pub label_text : World → FullNodeId → List ℕ
label_text w id = if hides_label w id then codes " label hidden" else quoted_after (codes " ") (shown_label w id)

abbrev pub value_text : World → FullNodeId → List ℕ
value_text w id = if hides_value w id then codes " value hidden" else quoted_after (codes " value=") (shown_value w id)

-- whether a field is compared: no id, box or measure is; the label and the value are those that are shown; and of a node in a password
-- no text is
abbrev pub is_told : Bool → Field → Bool
is_told is_within (field.Ids which) = false
is_told is_within (field.Id which) = false
is_told is_within (field.Numbers which) = false
is_told is_within (field.Units which) = false
is_told is_within (field.Text text.Label) = false
is_told is_within (field.Text text.Value) = false
is_told is_within (field.Text which) = not is_within
is_told is_within field.Tree = false
is_told is_within field.Bounds = false
is_told is_within field.Transform = false
is_told is_within field.Selection = false
is_told is_within _ = true

abbrev pub told_piece : Bool → NodeData → Field → List ℕ
told_piece is_within d which = if is_told is_within which then piece d which else []

-- the other fields, each as in a script
abbrev pub fields_text : Bool → NodeData → List ℕ
fields_text is_within d = flat_map (told_piece is_within d) all_fields

-- the role and the fields of a node
abbrev pub role_at : World → FullNodeId → List ℕ
role_at w id = option_map_or (λ d. shown_name d.role) (data_of w id) []

abbrev pub fields_at : World → FullNodeId → List ℕ
fields_at w id = option_map_or (fields_text (is_in_password w id)) (data_of w id) []

-- two spaces for each node above that is shown, the role, the label, the value and the other fields
abbrev pub row_text : World → FullNodeId → List ℕ
row_text w id = flat_map (indent w) (ancestors w id) ++ role_at w id ++ label_text w id ++ value_text w id ++ fields_at w id

-- the same of a node that is viewed, by its data
abbrev pub row_seen : NodeRef → List ℕ
row_seen n =
    flat_map (indent (world_at n)) (ancestors (world_at n) (id_at n)) ++ shown_name (data_at n).role ++ label_text (world_at n) (id_at n)
    ++ value_text (world_at n) (id_at n) ++ fields_text (is_in_password (world_at n) (id_at n)) (data_at n)

-- of a node that is viewed
abbrev pub row_at : NodeRef → List ℕ
row_at n = row_text (world_at n) (id_at n)

-- the nodes that the common filter shows, from a node on
abbrev pub shown_from : World → FullNodeId → List FullNodeId
shown_from w top = (if is_included (common_filter w top) then top ∷ [] else []) ++ filtered_descendants (common_filter w) w top

-- what is shown of a tree, from its root on; nothing if there is no tree
abbrev pub rows_from : World → FullNodeId → List (List ℕ)
rows_from w top = map (row_text w) (shown_from w top)

abbrev pub rows_in : World → List (List ℕ)
rows_in w = option_map_or (rows_from w) (root_of w 0) []

abbrev pub rows_of : Option World → List (List ℕ)
rows_of w = option_map_or rows_in w []

-- all that is shown: each row with its end
abbrev pub with_end : List ℕ → List ℕ
with_end row = row ++ codes "\n"

abbrev pub whole : List (List ℕ) → List ℕ
whole rows = flat_map with_end rows

abbrev pub shown_of : Option World → List ℕ
shown_of w = whole (rows_of w)
