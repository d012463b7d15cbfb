-- The names of values stand on one line.
use Rattle.std.proofs.Common.{codes, refl, Bool, true, false}
use Rattle.schema.specs.declared.values.Toggled.{Toggled}
use Rattle.schema.specs.declared.values.Toggled.TheVariants as toggled
use Rattle.schema.specs.declared.values.Live.{Live}
use Rattle.schema.specs.declared.values.Live.TheVariants as live
use Rattle.schema.specs.declared.values.Orientation.{Orientation}
use Rattle.schema.specs.declared.values.Orientation.TheVariants as orientation
use Rattle.schema.specs.declared.values.SortDirection.{SortDirection}
use Rattle.schema.specs.declared.values.SortDirection.TheVariants as sort_direction
use Rattle.schema.specs.declared.values.AriaCurrent.{AriaCurrent}
use Rattle.schema.specs.declared.values.AriaCurrent.TheVariants as aria_current
use Rattle.schema.specs.declared.values.HasPopup.{HasPopup}
use Rattle.schema.specs.declared.values.HasPopup.TheVariants as has_popup
use Rattle.schema.specs.declared.values.TextDirection.{TextDirection}
use Rattle.schema.specs.declared.values.TextDirection.TheVariants as text_direction
use Rattle.schema.specs.declared.values.TextAlign.{TextAlign}
use Rattle.schema.specs.declared.values.TextAlign.TheVariants as text_align
use Rattle.schema.specs.declared.values.VerticalOffset.{VerticalOffset}
use Rattle.schema.specs.declared.values.VerticalOffset.TheVariants as vertical_offset
use Rattle.schema.specs.declared.values.TextDecorationStyle.{TextDecorationStyle}
use Rattle.schema.specs.declared.values.TextDecorationStyle.TheVariants as decoration_style
use Rattle.model.specs.declared.queries.NamedFilter.{NamedFilter}
use Rattle.model.specs.declared.queries.NamedFilter.TheVariants as filter
use Rattle.model.specs.declared.queries.Side.{Side}
use Rattle.model.specs.declared.queries.Side.TheVariants as side
use Rattle.model.specs.declared.queries.Move.{Move}
use Rattle.model.specs.declared.queries.Move.TheVariants as move
use Rattle.script_words.specs.Names.{toggled_name, live_name, orientation_name, sort_direction_name, aria_current_name, has_popup_name, text_direction_name, text_align_name, vertical_offset_name, decoration_style_name, truth_name, filter_name, side_name, move_name}
use Rattle.script_words.proofs.LineTexts.{IsLineText, line_by}

pub toggled_line : (value : Toggled) → IsLineText (toggled_name value)
toggled_line toggled.True = line_by (toggled_name toggled.True) refl
toggled_line value = line_by (toggled_name value) refl

pub live_line : (value : Live) → IsLineText (live_name value)
live_line live.Off = line_by (live_name live.Off) refl
live_line value = line_by (live_name value) refl

pub orientation_line : (value : Orientation) → IsLineText (orientation_name value)
orientation_line orientation.Horizontal = line_by (orientation_name orientation.Horizontal) refl
orientation_line value = line_by (orientation_name value) refl

pub sort_direction_line : (value : SortDirection) → IsLineText (sort_direction_name value)
sort_direction_line sort_direction.Ascending = line_by (sort_direction_name sort_direction.Ascending) refl
sort_direction_line value = line_by (sort_direction_name value) refl

pub aria_current_line : (value : AriaCurrent) → IsLineText (aria_current_name value)
aria_current_line aria_current.False = line_by (aria_current_name aria_current.False) refl
aria_current_line value = line_by (aria_current_name value) refl

pub has_popup_line : (value : HasPopup) → IsLineText (has_popup_name value)
has_popup_line has_popup.Menu = line_by (has_popup_name has_popup.Menu) refl
has_popup_line value = line_by (has_popup_name value) refl

pub text_direction_line : (value : TextDirection) → IsLineText (text_direction_name value)
text_direction_line text_direction.LeftToRight = line_by (text_direction_name text_direction.LeftToRight) refl
text_direction_line value = line_by (text_direction_name value) refl

pub text_align_line : (value : TextAlign) → IsLineText (text_align_name value)
text_align_line text_align.Left = line_by (text_align_name text_align.Left) refl
text_align_line value = line_by (text_align_name value) refl

pub vertical_offset_line : (value : VerticalOffset) → IsLineText (vertical_offset_name value)
vertical_offset_line vertical_offset.Subscript = line_by (vertical_offset_name vertical_offset.Subscript) refl
vertical_offset_line value = line_by (vertical_offset_name value) refl

pub decoration_style_line : (value : TextDecorationStyle) → IsLineText (decoration_style_name value)
decoration_style_line decoration_style.Solid = line_by (decoration_style_name decoration_style.Solid) refl
decoration_style_line value = line_by (decoration_style_name value) refl

pub filter_line : (value : NamedFilter) → IsLineText (filter_name value)
filter_line filter.All = line_by (filter_name filter.All) refl
filter_line value = line_by (filter_name value) refl

pub side_line : (value : Side) → IsLineText (side_name value)
side_line side.Start = line_by (side_name side.Start) refl
side_line value = line_by (side_name value) refl

pub move_line : (value : Move) → IsLineText (move_name value)
move_line move.ForwardToCharacterStart = line_by (move_name move.ForwardToCharacterStart) refl
move_line value = line_by (move_name value) refl

pub truth_line : (value : Bool) → IsLineText (truth_name value)
truth_line true = line_by (codes "true") refl
truth_line false = line_by (codes "false") refl
