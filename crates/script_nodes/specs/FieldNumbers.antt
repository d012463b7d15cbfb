-- The numbers by which programs in other languages name fields.
use Rattle.std.specs.Prelude.{List, [], ◌∷◌}
use Rattle.script_nodes.specs.declared.field_kinds.ActionsField.TheVariants as actions
use Rattle.script_nodes.specs.declared.field_kinds.BoolField.TheVariants as bool
use Rattle.script_nodes.specs.declared.field_kinds.ColorField.TheVariants as color
use Rattle.script_nodes.specs.declared.field_kinds.CountField.TheVariants as count
use Rattle.script_nodes.specs.declared.field_kinds.DecorationField.TheVariants as decoration
use Rattle.script_nodes.specs.declared.field_kinds.Field.TheVariants as field
use Rattle.script_nodes.specs.declared.field_kinds.Field.{Field}
use Rattle.script_nodes.specs.declared.field_kinds.FlagField.TheVariants as flag
use Rattle.script_nodes.specs.declared.field_kinds.IdField.TheVariants as id
use Rattle.script_nodes.specs.declared.field_kinds.IdsField.TheVariants as ids
use Rattle.script_nodes.specs.declared.field_kinds.NumberField.TheVariants as number
use Rattle.script_nodes.specs.declared.field_kinds.NumbersField.TheVariants as numbers
use Rattle.script_nodes.specs.declared.field_kinds.TextField.TheVariants as text
use Rattle.script_nodes.specs.declared.field_kinds.UnitsField.TheVariants as units

-- Each field has its place in this list as its number, counted from 0. A new field comes last, wherever scripts have it, and none is moved
-- or taken away: programs are built with these numbers.
abbrev pub numbered_fields : List Field
numbered_fields =
    field.Ids ids.Children ∷ field.Ids ids.LabelledBy ∷ field.Ids ids.Controls ∷ field.Tree ∷
    field.Id id.ActiveDescendant ∷ field.Text text.Label ∷ field.Text text.Value ∷ field.Text text.Description ∷
    field.Text text.Placeholder ∷ field.Text text.RoleDescription ∷ field.Text text.Url ∷ field.Text text.AuthorId ∷
    field.Text text.HtmlId ∷ field.Text text.ClassName ∷ field.Text text.BrailleLabel ∷
    field.Text text.BrailleRoleDescription ∷ field.Text text.ColumnIndexText ∷ field.Text text.RowIndexText ∷
    field.Text text.FontFamily ∷ field.Text text.Language ∷ field.Flag flag.Hidden ∷ field.Flag flag.ClipsChildren ∷
    field.Flag flag.Disabled ∷ field.Flag flag.ReadOnly ∷ field.Flag flag.Required ∷ field.Flag flag.Modal ∷
    field.Flag flag.Busy ∷ field.Flag flag.Multiselectable ∷ field.Flag flag.Italic ∷ field.Flag flag.LiveAtomic ∷
    field.Flag flag.TouchTransparent ∷ field.Bounds ∷ field.Transform ∷ field.Selection ∷
    field.Numbers numbers.CharacterLengths ∷ field.Numbers numbers.WordStarts ∷ field.Units units.CharacterPositions ∷
    field.Units units.CharacterWidths ∷ field.Id id.PreviousOnLine ∷ field.Id id.NextOnLine ∷ field.Toggled ∷
    field.Bool bool.Expanded ∷ field.Bool bool.Selected ∷ field.Live ∷ field.Orientation ∷ field.SortDirection ∷
    field.AriaCurrent ∷ field.HasPopup ∷ field.FontSize ∷ field.FontWeight ∷ field.Color color.Background ∷
    field.Color color.Foreground ∷ field.Decoration decoration.Overline ∷ field.Decoration decoration.Strikethrough ∷
    field.Decoration decoration.Underline ∷ field.TextDirection ∷ field.TextAlign ∷ field.VerticalOffset ∷
    field.Number number.NumericValue ∷ field.Number number.MinNumericValue ∷ field.Number number.MaxNumericValue ∷
    field.Number number.NumericValueStep ∷ field.Number number.NumericValueJump ∷ field.Count count.Level ∷
    field.Count count.SizeOfSet ∷ field.Count count.PositionInSet ∷ field.Number number.ScrollX ∷
    field.Number number.ScrollXMin ∷ field.Number number.ScrollXMax ∷ field.Number number.ScrollY ∷
    field.Number number.ScrollYMin ∷ field.Number number.ScrollYMax ∷ field.Actions actions.Own ∷
    field.Actions actions.Children ∷ []
