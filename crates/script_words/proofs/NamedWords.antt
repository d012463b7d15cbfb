-- The names of values are words.
use Rattle.std.proofs.Common.{arith, refl, codes, Bool, true, false}
use Rattle.schema.specs.declared.values.Toggled.{Toggled}
use Rattle.schema.specs.declared.values.Toggled.TheVariants as toggled
use Rattle.schema.specs.declared.values.Live.{Live}
use Rattle.schema.specs.declared.values.Live.TheVariants as live
use Rattle.schema.specs.declared.values.Orientation.{Orientation}
use Rattle.schema.specs.declared.values.Orientation.TheVariants as orientation
use Rattle.schema.specs.declared.values.SortDirection.{SortDirection}
use Rattle.schema.specs.declared.values.SortDirection.TheVariants as sort_direction
use Rattle.schema.specs.declared.values.AriaCurrent.{AriaCurrent}
use Rattle.schema.specs.declared.values.AriaCurrent.TheVariants as aria_current
use Rattle.schema.specs.declared.values.HasPopup.{HasPopup}
use Rattle.schema.specs.declared.values.HasPopup.TheVariants as has_popup
use Rattle.schema.specs.declared.values.TextDirection.{TextDirection}
use Rattle.schema.specs.declared.values.TextDirection.TheVariants as text_direction
use Rattle.schema.specs.declared.values.TextAlign.{TextAlign}
use Rattle.schema.specs.declared.values.TextAlign.TheVariants as text_align
use Rattle.schema.specs.declared.values.VerticalOffset.{VerticalOffset}
use Rattle.schema.specs.declared.values.VerticalOffset.TheVariants as vertical_offset
use Rattle.schema.specs.declared.values.TextDecorationStyle.{TextDecorationStyle}
use Rattle.schema.specs.declared.values.TextDecorationStyle.TheVariants as decoration_style
use Rattle.model.specs.declared.queries.NamedFilter.{NamedFilter}
use Rattle.model.specs.declared.queries.NamedFilter.TheVariants as filter
use Rattle.model.specs.declared.queries.Side.{Side}
use Rattle.model.specs.declared.queries.Side.TheVariants as side
use Rattle.model.specs.declared.queries.Move.{Move}
use Rattle.model.specs.declared.queries.Move.TheVariants as move
use Rattle.script_words.specs.Names.{toggled_name, truth_name, live_name, orientation_name, sort_direction_name, aria_current_name, has_popup_name, text_direction_name, text_align_name, vertical_offset_name, decoration_style_name, filter_name, side_name, move_name}
use Rattle.script_words.specs.Reading.{IsWord}
use Rattle.script_words.proofs.Lacking.{lacks_by}

pub toggled_is_word : (value : Toggled) → IsWord (toggled_name value)
toggled_is_word toggled.True = (lacks_by 32 (toggled_name toggled.True) refl, omega arith)
toggled_is_word value = (lacks_by 32 (toggled_name value) refl, omega arith)

pub truth_is_word : (value : Bool) → IsWord (truth_name value)
truth_is_word true = (lacks_by 32 (codes "true") refl, omega arith)
truth_is_word false = (lacks_by 32 (codes "false") refl, omega arith)

pub live_is_word : (value : Live) → IsWord (live_name value)
live_is_word live.Off = (lacks_by 32 (live_name live.Off) refl, omega arith)
live_is_word value = (lacks_by 32 (live_name value) refl, omega arith)

pub orientation_is_word : (value : Orientation) → IsWord (orientation_name value)
orientation_is_word orientation.Horizontal = (lacks_by 32 (orientation_name orientation.Horizontal) refl, omega arith)
orientation_is_word value = (lacks_by 32 (orientation_name value) refl, omega arith)

pub sort_direction_is_word : (value : SortDirection) → IsWord (sort_direction_name value)
sort_direction_is_word sort_direction.Ascending = (lacks_by 32 (sort_direction_name sort_direction.Ascending) refl, omega arith)
sort_direction_is_word value = (lacks_by 32 (sort_direction_name value) refl, omega arith)

pub aria_current_is_word : (value : AriaCurrent) → IsWord (aria_current_name value)
aria_current_is_word aria_current.False = (lacks_by 32 (aria_current_name aria_current.False) refl, omega arith)
aria_current_is_word value = (lacks_by 32 (aria_current_name value) refl, omega arith)

pub has_popup_is_word : (value : HasPopup) → IsWord (has_popup_name value)
has_popup_is_word has_popup.Menu = (lacks_by 32 (has_popup_name has_popup.Menu) refl, omega arith)
has_popup_is_word value = (lacks_by 32 (has_popup_name value) refl, omega arith)

pub text_direction_is_word : (value : TextDirection) → IsWord (text_direction_name value)
text_direction_is_word text_direction.LeftToRight = (lacks_by 32 (text_direction_name text_direction.LeftToRight) refl, omega arith)
text_direction_is_word value = (lacks_by 32 (text_direction_name value) refl, omega arith)

pub text_align_is_word : (value : TextAlign) → IsWord (text_align_name value)
text_align_is_word text_align.Left = (lacks_by 32 (text_align_name text_align.Left) refl, omega arith)
text_align_is_word value = (lacks_by 32 (text_align_name value) refl, omega arith)

pub vertical_offset_is_word : (value : VerticalOffset) → IsWord (vertical_offset_name value)
vertical_offset_is_word vertical_offset.Subscript = (lacks_by 32 (vertical_offset_name vertical_offset.Subscript) refl, omega arith)
vertical_offset_is_word value = (lacks_by 32 (vertical_offset_name value) refl, omega arith)

pub decoration_style_is_word : (value : TextDecorationStyle) → IsWord (decoration_style_name value)
decoration_style_is_word decoration_style.Solid = (lacks_by 32 (decoration_style_name decoration_style.Solid) refl, omega arith)
decoration_style_is_word value = (lacks_by 32 (decoration_style_name value) refl, omega arith)

pub filter_is_word : (value : NamedFilter) → IsWord (filter_name value)
filter_is_word filter.All = (lacks_by 32 (filter_name filter.All) refl, omega arith)
filter_is_word value = (lacks_by 32 (filter_name value) refl, omega arith)

pub side_is_word : (value : Side) → IsWord (side_name value)
side_is_word side.Start = (lacks_by 32 (side_name side.Start) refl, omega arith)
side_is_word value = (lacks_by 32 (side_name value) refl, omega arith)

pub move_is_word : (value : Move) → IsWord (move_name value)
move_is_word move.ForwardToCharacterStart = (lacks_by 32 (move_name move.ForwardToCharacterStart) refl, omega arith)
move_is_word value = (lacks_by 32 (move_name value) refl, omega arith)
