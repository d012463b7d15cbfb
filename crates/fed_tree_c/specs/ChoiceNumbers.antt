-- The numbers of the values of fields that have few: their places in the lists of script_words, by which updates set them.
use Rattle.std.specs.Prelude.{ℕ}
use Rattle.schema.specs.declared.values.Toggled.{Toggled}
use Rattle.schema.specs.declared.values.Toggled.TheVariants as toggled
use Rattle.schema.specs.declared.values.Live.{Live}
use Rattle.schema.specs.declared.values.Live.TheVariants as live
use Rattle.schema.specs.declared.values.Orientation.{Orientation}
use Rattle.schema.specs.declared.values.Orientation.TheVariants as orientation
use Rattle.schema.specs.declared.values.SortDirection.{SortDirection}
use Rattle.schema.specs.declared.values.SortDirection.TheVariants as sort_direction
use Rattle.schema.specs.declared.values.AriaCurrent.{AriaCurrent}
use Rattle.schema.specs.declared.values.AriaCurrent.TheVariants as aria_current
use Rattle.schema.specs.declared.values.HasPopup.{HasPopup}
use Rattle.schema.specs.declared.values.HasPopup.TheVariants as has_popup
use Rattle.schema.specs.declared.values.TextDirection.{TextDirection}
use Rattle.schema.specs.declared.values.TextDirection.TheVariants as text_direction
use Rattle.schema.specs.declared.values.TextAlign.{TextAlign}
use Rattle.schema.specs.declared.values.TextAlign.TheVariants as text_align
use Rattle.schema.specs.declared.values.VerticalOffset.{VerticalOffset}
use Rattle.schema.specs.declared.values.VerticalOffset.TheVariants as vertical_offset
use Rattle.schema.specs.declared.values.TextDecorationStyle.{TextDecorationStyle}
use Rattle.schema.specs.declared.values.TextDecorationStyle.TheVariants as decoration_style

abbrev pub toggled_number : Toggled → ℕ
toggled_number toggled.True = 0
toggled_number toggled.False = 1
toggled_number toggled.Mixed = 2

abbrev pub live_number : Live → ℕ
live_number live.Off = 0
live_number live.Polite = 1
live_number live.Assertive = 2

abbrev pub orientation_number : Orientation → ℕ
orientation_number orientation.Horizontal = 0
orientation_number orientation.Vertical = 1

abbrev pub sort_direction_number : SortDirection → ℕ
sort_direction_number sort_direction.Ascending = 0
sort_direction_number sort_direction.Descending = 1
sort_direction_number sort_direction.Other = 2

abbrev pub aria_current_number : AriaCurrent → ℕ
aria_current_number aria_current.False = 0
aria_current_number aria_current.True = 1
aria_current_number aria_current.Page = 2
aria_current_number aria_current.Step = 3
aria_current_number aria_current.Location = 4
aria_current_number aria_current.Date = 5
aria_current_number aria_current.Time = 6

abbrev pub has_popup_number : HasPopup → ℕ
has_popup_number has_popup.Menu = 0
has_popup_number has_popup.Listbox = 1
has_popup_number has_popup.Tree = 2
has_popup_number has_popup.Grid = 3
has_popup_number has_popup.Dialog = 4

abbrev pub text_direction_number : TextDirection → ℕ
text_direction_number text_direction.LeftToRight = 0
text_direction_number text_direction.RightToLeft = 1
text_direction_number text_direction.TopToBottom = 2
text_direction_number text_direction.BottomToTop = 3

abbrev pub text_align_number : TextAlign → ℕ
text_align_number text_align.Left = 0
text_align_number text_align.Right = 1
text_align_number text_align.Center = 2
text_align_number text_align.Justify = 3

abbrev pub vertical_offset_number : VerticalOffset → ℕ
vertical_offset_number vertical_offset.Subscript = 0
vertical_offset_number vertical_offset.Superscript = 1

abbrev pub decoration_style_number : TextDecorationStyle → ℕ
decoration_style_number decoration_style.Solid = 0
decoration_style_number decoration_style.Dotted = 1
decoration_style_number decoration_style.Dashed = 2
decoration_style_number decoration_style.Double = 3
decoration_style_number decoration_style.Wavy = 4
