-- Nodes without fields, one field after another.
use Rattle.std.proofs.Common.{◌≡◌, Some, refl, ap, sym, ◌∙◌}
use Rattle.schema.specs.NodeData.{NodeData, empty_node}
use Rattle.script_nodes.specs.declared.field_kinds.IdsField.TheVariants as ids
use Rattle.script_nodes.specs.declared.field_kinds.IdField.TheVariants as id
use Rattle.script_nodes.specs.declared.field_kinds.TextField.TheVariants as text
use Rattle.script_nodes.specs.declared.field_kinds.FlagField.TheVariants as flag
use Rattle.script_nodes.specs.declared.field_kinds.NumbersField.TheVariants as numbers
use Rattle.script_nodes.specs.declared.field_kinds.UnitsField.TheVariants as units
use Rattle.script_nodes.specs.declared.field_kinds.BoolField.TheVariants as bool
use Rattle.script_nodes.specs.declared.field_kinds.ColorField.TheVariants as color
use Rattle.script_nodes.specs.declared.field_kinds.DecorationField.TheVariants as decoration
use Rattle.script_nodes.specs.declared.field_kinds.NumberField.TheVariants as number
use Rattle.script_nodes.specs.declared.field_kinds.CountField.TheVariants as count
use Rattle.script_nodes.specs.declared.field_kinds.ActionsField.TheVariants as actions
use Rattle.script_nodes.specs.declared.field_kinds.Field.{Field}
use Rattle.script_nodes.specs.declared.field_kinds.Field.TheVariants as field
use Rattle.script_nodes.specs.FieldKinds.{all_fields, field_name, with_ids, with_id, with_text, with_flag, with_numbers, with_units, with_bool, with_color, with_decoration, with_number, with_count, with_actions_field}
use Rattle.script_nodes.specs.NodeReading.{with_field, without, without_all, IsWithout}
use Rattle.script_nodes.proofs.FieldTails.{after_name, following}
use Rattle.script_words.specs.NamedIn.{first_named}

-- a node without all fields has nothing but its role
pub nothing_left : (n : NodeData) → without_all all_fields n ≡ empty_node n.role
unfolding without_all without
nothing_left n = refl

-- Of each field: it isn't there once it is taken away; given again, it makes the node that it was taken from, and changes nothing where it
-- is; and what is taken of the fields after it leaves it as it is, also where it isn't there.
abbrev StandsAlone : Field → NodeData → NodeData → Type 0
StandsAlone which n m =
    IsWithout which (without which n)
    × (with_field which n (without which n) ≡ n)
    × (with_field which n n ≡ n)
    × (with_field which (without_all (following which) n) m ≡ with_field which n m)
    × (IsWithout which n → IsWithout which (without_all (following which) n))

-- it is the first one of its name
abbrev pub IsFound : Field → Type 0
IsFound which = first_named field_name (field_name which) all_fields ≡ Some which

-- all that holds of each field by computation
of_each : (which : Field) → IsFound which × ((n m : NodeData) → StandsAlone which n m)
unfolding with_field without_all without following after_name first_named
of_each (field.Ids ids.Children) = (refl, λ n m. (refl, refl, refl, refl, λ e. e))
of_each (field.Id id.ActiveDescendant) = (refl, λ n m. (refl, refl, refl, refl, λ e. e))
of_each (field.Text text.Label) = (refl, λ n m. (refl, refl, refl, refl, λ e. e))
of_each (field.Flag flag.Hidden) = (refl, λ n m. (refl, refl, refl, refl, λ e. e))
of_each (field.Numbers numbers.CharacterLengths) = (refl, λ n m. (refl, refl, refl, refl, λ e. e))
of_each (field.Units units.CharacterPositions) = (refl, λ n m. (refl, refl, refl, refl, λ e. e))
of_each (field.Bool bool.Expanded) = (refl, λ n m. (refl, refl, refl, refl, λ e. e))
of_each (field.Color color.Background) = (refl, λ n m. (refl, refl, refl, refl, λ e. e))
of_each (field.Decoration decoration.Overline) = (refl, λ n m. (refl, refl, refl, refl, λ e. e))
of_each (field.Number number.NumericValue) = (refl, λ n m. (refl, refl, refl, refl, λ e. e))
of_each (field.Count count.Level) = (refl, λ n m. (refl, refl, refl, refl, λ e. e))
of_each (field.Actions actions.Own) = (refl, λ n m. (refl, refl, refl, refl, λ e. e))
of_each _ = (refl, λ n m. (refl, refl, refl, refl, λ e. e))

pub named_back : (which : Field) → IsFound which
named_back which = (of_each which).0

stands_alone : (which : Field) (n m : NodeData) → StandsAlone which n m
stands_alone which = (of_each which).1

-- what was taken away isn't there
pub taken : (which : Field) (n : NodeData) → IsWithout which (without which n)
taken which n = (stands_alone which n n).0

-- a field that is given again what it had
pub given_back : (which : Field) (n : NodeData) → with_field which n (without which n) ≡ n
given_back which n = (stands_alone which n n).1

-- what is taken of the fields that come after one leaves that one
pub kept : (which : Field) (n m : NodeData) → with_field which (without_all (following which) n) m ≡ with_field which n m
kept which n m = (stands_alone which n m).3

pub kept_away : (which : Field) (n : NodeData) → IsWithout which n → IsWithout which (without_all (following which) n)
kept_away which n = (stands_alone which n n).4

-- the value of a field that isn't set
taken_as_given : (which : Field) (n m : NodeData) → IsWithout which n → with_field which n m ≡ without which m
unfolding with_field without
taken_as_given (field.Ids which) n m e = ap (λ x. with_ids which x m) e
taken_as_given (field.Id which) n m e = ap (λ x. with_id which x m) e
taken_as_given (field.Text which) n m e = ap (λ x. with_text which x m) e
taken_as_given (field.Flag which) n m e = ap (λ x. with_flag which x m) e
taken_as_given (field.Numbers which) n m e = ap (λ x. with_numbers which x m) e
taken_as_given (field.Units which) n m e = ap (λ x. with_units which x m) e
taken_as_given (field.Bool which) n m e = ap (λ x. with_bool which x m) e
taken_as_given (field.Color which) n m e = ap (λ x. with_color which x m) e
taken_as_given (field.Decoration which) n m e = ap (λ x. with_decoration which x m) e
taken_as_given (field.Number which) n m e = ap (λ x. with_number which x m) e
taken_as_given (field.Count which) n m e = ap (λ x. with_count which x m) e
taken_as_given (field.Actions which) n m e = ap (λ x. with_actions_field which x m) e
taken_as_given field.Tree n m e = ap (λ x. record m { tree_id = x }) e
taken_as_given field.Bounds n m e = ap (λ x. record m { bounds = x }) e
taken_as_given field.Transform n m e = ap (λ x. record m { transform = x }) e
taken_as_given field.Selection n m e = ap (λ x. record m { text_selection = x }) e
taken_as_given field.Toggled n m e = ap (λ x. record m { toggled = x }) e
taken_as_given field.Live n m e = ap (λ x. record m { live = x }) e
taken_as_given field.Orientation n m e = ap (λ x. record m { orientation = x }) e
taken_as_given field.SortDirection n m e = ap (λ x. record m { sort_direction = x }) e
taken_as_given field.AriaCurrent n m e = ap (λ x. record m { aria_current = x }) e
taken_as_given field.HasPopup n m e = ap (λ x. record m { has_popup = x }) e
taken_as_given field.FontSize n m e = ap (λ x. record m { font_size = x }) e
taken_as_given field.FontWeight n m e = ap (λ x. record m { font_weight = x }) e
taken_as_given field.TextDirection n m e = ap (λ x. record m { text_direction = x }) e
taken_as_given field.TextAlign n m e = ap (λ x. record m { text_align = x }) e
taken_as_given field.VerticalOffset n m e = ap (λ x. record m { vertical_offset = x }) e

-- a node without a field loses nothing by it
pub nothing_to_take : (which : Field) (n : NodeData) → IsWithout which n → without which n ≡ n
nothing_to_take which n e = sym (taken_as_given which n n e) ∙ (stands_alone which n n).2
