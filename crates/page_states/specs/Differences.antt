-- How a page tells of two states of a node.
use Rattle.std.specs.Prelude.{ℕ, ◌+◌, List, [], ◌∷◌, ◌++◌, length, drop, codes, Bool, true, false, ◌&&◌, ◌||◌, nat_lt, Option, Some, None, if◌then◌else◌}
use Rattle.std.specs.Fmt.{decimal}
use Rattle.std.specs.List.{FoldsTo}
use Rattle.html.specs.Escaped.{escaped}
use Rattle.script_nodes.specs.FieldKinds.{all_fields, field_name, flag_at}
use Rattle.script_nodes.specs.NodeText.{value_of}
use Rattle.script_nodes.specs.declared.field_kinds.Field.{Field}
use Rattle.script_nodes.specs.declared.field_kinds.Field.TheVariants as field
use Rattle.script_nodes.specs.declared.field_kinds.TextField.TheVariants as text
use Rattle.script_words.specs.Parts.{corners_text}
use Rattle.schema.specs.NodeData.{NodeData}
use Rattle.schema.specs.declared.Role.{Role}
use Rattle.schema.specs.declared.geometry.WideRect.{WideRect}
use Rattle.model.specs.declared.FullNodeId.{FullNodeId}
use Rattle.model.specs.Forest.{place_of}
use Rattle.model.specs.RoleClasses.{is_password_input}
use Rattle.views.specs.declared.node.node_ref.NodeRef.{NodeRef}
use Rattle.views.specs.Nodes.{world_at, id_at, data_at}
use Rattle.page_states.specs.declared.found.View.{View}
use Rattle.page_states.specs.Named.{role_bold}
use Rattle.page_states.specs.Said.{arrow, label_shown, value_shown, TellsIfOther}

abbrev Bytes : Type 0
Bytes = Option (List ℕ)

-- ---- what is shown of a field

-- the label and the value that a page shows of a node
abbrev pub label_of_state : View → Option (List ℕ)
label_of_state v = label_shown v.facts.hidden.label (world_at v.node) (id_at v.node)

abbrev pub value_of_state : View → Option (List ℕ)
value_of_state v = value_shown v.facts.hidden.value (world_at v.node) (id_at v.node)

abbrev pub is_label : Field → Bool
is_label (field.Text text.Label) = true
is_label _ = false

abbrev pub is_value : Field → Bool
is_value (field.Text text.Value) = true
is_value _ = false

abbrev pub is_text : Field → Bool
is_text (field.Text which) = true
is_text _ = false

-- the lengths, words, positions and widths of a text's characters
abbrev pub is_measured : Field → Bool
is_measured (field.Numbers which) = true
is_measured (field.Units which) = true
is_measured _ = false

abbrev pub is_flag : Field → Bool
is_flag (field.Flag which) = true
is_flag _ = false

-- what is written after a name of so many bytes, the space before it and the sign after it, if there is so much
abbrev pub value_after : ℕ → List ℕ → Option (List ℕ)
value_after name written = if nat_lt (length written) (name + 2) then None else Some (drop (name + 2) written)

abbrev pub yes_or_no : Bool → List ℕ
yes_or_no is_set = if is_set then codes "yes" else codes "no"

-- so by what is written of a flag, which is nothing where it isn't set
abbrev pub flag_word : List ℕ → List ℕ
flag_word [] = codes "no"
flag_word (byte ∷ bytes) = codes "yes"

-- a field as a script has it: its value, if it is set, or of a flag whether it is set
abbrev pub sent_value : NodeData → Field → Option (List ℕ)
sent_value d (field.Flag which) = Some (yes_or_no (flag_at which d))
sent_value d f = value_of d f

-- whether a field of a node that is in a password or isn't may show what is typed into one: a text within it, or what is measured of
-- characters, also of the password itself
abbrev pub hides_field : Bool → NodeData → Field → Bool
hides_field is_within d f = if is_within then is_text f || is_measured f else is_password_input d.role && is_measured f

-- any field but the label and the value
abbrev pub other_field : Bool → NodeData → Field → Option (List ℕ)
other_field is_within d f = if hides_field is_within d f then None else sent_value d f

-- the label and the value as a page shows them, and any other field as a script has it, unless it is hidden
abbrev pub field_shown : View → Field → Option (List ℕ)
field_shown v f =
    if is_label f then label_of_state v else if is_value f then value_of_state v else other_field v.facts.is_in_password (data_at v.node) f

-- ---- what is told of a field

abbrev pub text_in : List ℕ → List ℕ → List ℕ
text_in element text = codes "<" ++ element ++ codes ">" ++ escaped text ++ codes "</" ++ element ++ codes ">"

-- a text in such an element, or that there is none
abbrev pub text_or_none : List ℕ → Option (List ℕ) → List ℕ
text_or_none element None = codes "<i>none</i>"
text_or_none element (Some text) = text_in element text

-- that a text was the one and is the other
abbrev pub change_text : List ℕ → List ℕ → Option (List ℕ) → Option (List ℕ) → List ℕ
change_text what element old new = codes "; " ++ what ++ codes " " ++ text_or_none element old ++ arrow ++ text_or_none element new

-- where the texts differ, both
abbrev pub TellsText : List ℕ → List ℕ → Option (List ℕ) → Option (List ℕ) → Bytes → Bytes → Type 0
TellsText what element old new before after = TellsIfOther old new (change_text what element old new) before after

abbrev pub element_of : Field → List ℕ
element_of f = if is_label f || is_value f then codes "q" else codes "code"

-- the name of a field, what was shown of it, and what is, where that differs
abbrev pub TellsField : View → View → Bytes → Field → Bytes → Type 0
TellsField old new before f after = TellsText (field_name f) (element_of f) (field_shown old f) (field_shown new f) before after

-- so of each field, in the order of a script's line
abbrev pub TellsFields : View → View → Bytes → Bytes → Type 0
TellsFields old new before after = FoldsTo (TellsField old new) before all_fields after

-- ---- the role, the place and the box

abbrev pub role_change : Role → Role → List ℕ
role_change old new = codes "; role " ++ role_bold old ++ arrow ++ role_bold new

abbrev pub TellsRole : NodeRef → NodeRef → Bytes → Bytes → Type 0
TellsRole old new before after =
    TellsIfOther (data_at old).role (data_at new).role (role_change (data_at old).role (data_at new).role) before after

-- a parent and an index among its children, from 0, or that there is none
abbrev pub place_or_none : Option (FullNodeId × ℕ) → List ℕ
place_or_none None = codes "<i>none</i>"
place_or_none (Some place) =
    codes "<code>" ++ decimal place.0.tree ++ codes ":" ++ decimal place.0.node.0 ++ codes "/" ++ decimal place.1 ++ codes "</code>"

abbrev pub place_change : Option (FullNodeId × ℕ) → Option (FullNodeId × ℕ) → List ℕ
place_change old new = codes "; place " ++ place_or_none old ++ arrow ++ place_or_none new

abbrev pub place_at : NodeRef → Option (FullNodeId × ℕ)
place_at n = place_of (world_at n) (id_at n)

abbrev pub TellsPlace : NodeRef → NodeRef → Bytes → Bytes → Type 0
TellsPlace old new before after = TellsIfOther (place_at old) (place_at new) (place_change (place_at old) (place_at new)) before after

-- a box by its left, top, right and bottom, or that there is none
abbrev pub box_or_none : Option WideRect → List ℕ
box_or_none None = codes "<i>none</i>"
box_or_none (Some rect) = corners_text rect.x0 rect.y0 rect.x1 rect.y1

-- that a box was the one and is the other
abbrev pub box_change : Option WideRect → Option WideRect → List ℕ
box_change old new = codes "; box " ++ box_or_none old ++ arrow ++ box_or_none new

-- where the boxes differ, both
abbrev pub TellsBox : Option WideRect → Option WideRect → Bytes → Bytes → Type 0
TellsBox was is before after = TellsIfOther was is (box_change was is) before after

-- each where it differs: the role, the place, the fields, and the box
pub record TellsDifferences (old new : View) (before after : Bytes) : Type 0 where
  pub of_role : Bytes
  pub role : TellsRole old.node new.node before of_role
  pub of_place : Bytes
  pub place : TellsPlace old.node new.node of_role of_place
  pub of_fields : Bytes
  pub fields : TellsFields old new of_place of_fields
  pub box : TellsBox old.facts.rect new.facts.rect of_fields after
