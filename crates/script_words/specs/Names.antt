-- The names of the values of fields.
use Rattle.std.specs.Prelude.{ℕ, List, codes, Bool, true, false}
use Rattle.schema.specs.declared.values.Toggled.{Toggled}
use Rattle.schema.specs.declared.values.Toggled.TheVariants as toggled
use Rattle.schema.specs.declared.values.Orientation.{Orientation}
use Rattle.schema.specs.declared.values.Orientation.TheVariants as orientation
use Rattle.schema.specs.declared.values.SortDirection.{SortDirection}
use Rattle.schema.specs.declared.values.SortDirection.TheVariants as sort_direction
use Rattle.schema.specs.declared.values.AriaCurrent.{AriaCurrent}
use Rattle.schema.specs.declared.values.AriaCurrent.TheVariants as aria_current
use Rattle.schema.specs.declared.values.HasPopup.{HasPopup}
use Rattle.schema.specs.declared.values.HasPopup.TheVariants as has_popup
use Rattle.schema.specs.declared.values.Live.{Live}
use Rattle.schema.specs.declared.values.Live.TheVariants as live
use Rattle.schema.specs.declared.values.TextDirection.{TextDirection}
use Rattle.schema.specs.declared.values.TextDirection.TheVariants as text_direction
use Rattle.schema.specs.declared.values.TextAlign.{TextAlign}
use Rattle.schema.specs.declared.values.TextAlign.TheVariants as text_align
use Rattle.schema.specs.declared.values.VerticalOffset.{VerticalOffset}
use Rattle.schema.specs.declared.values.VerticalOffset.TheVariants as vertical_offset
use Rattle.schema.specs.declared.values.TextDecorationStyle.{TextDecorationStyle}
use Rattle.schema.specs.declared.values.TextDecorationStyle.TheVariants as decoration_style
use Rattle.model.specs.declared.queries.NamedFilter.{NamedFilter}
use Rattle.model.specs.declared.queries.NamedFilter.TheVariants as filter
use Rattle.model.specs.declared.queries.Side.{Side}
use Rattle.model.specs.declared.queries.Side.TheVariants as side
use Rattle.model.specs.declared.queries.Move.{Move}
use Rattle.model.specs.declared.queries.Move.TheVariants as move

abbrev pub toggled_name : Toggled → List ℕ
toggled_name toggled.True = codes "true"
toggled_name toggled.False = codes "false"
toggled_name toggled.Mixed = codes "mixed"

abbrev pub orientation_name : Orientation → List ℕ
orientation_name orientation.Horizontal = codes "horizontal"
orientation_name orientation.Vertical = codes "vertical"

abbrev pub sort_direction_name : SortDirection → List ℕ
sort_direction_name sort_direction.Ascending = codes "ascending"
sort_direction_name sort_direction.Descending = codes "descending"
sort_direction_name sort_direction.Other = codes "other"

abbrev pub aria_current_name : AriaCurrent → List ℕ
aria_current_name aria_current.False = codes "false"
aria_current_name aria_current.True = codes "true"
aria_current_name aria_current.Page = codes "page"
aria_current_name aria_current.Step = codes "step"
aria_current_name aria_current.Location = codes "location"
aria_current_name aria_current.Date = codes "date"
aria_current_name aria_current.Time = codes "time"

abbrev pub has_popup_name : HasPopup → List ℕ
has_popup_name has_popup.Menu = codes "menu"
has_popup_name has_popup.Listbox = codes "listbox"
has_popup_name has_popup.Tree = codes "tree"
has_popup_name has_popup.Grid = codes "grid"
has_popup_name has_popup.Dialog = codes "dialog"

abbrev pub live_name : Live → List ℕ
live_name live.Off = codes "off"
live_name live.Polite = codes "polite"
live_name live.Assertive = codes "assertive"

abbrev pub text_direction_name : TextDirection → List ℕ
text_direction_name text_direction.LeftToRight = codes "left_to_right"
text_direction_name text_direction.RightToLeft = codes "right_to_left"
text_direction_name text_direction.TopToBottom = codes "top_to_bottom"
text_direction_name text_direction.BottomToTop = codes "bottom_to_top"

abbrev pub text_align_name : TextAlign → List ℕ
text_align_name text_align.Left = codes "left"
text_align_name text_align.Right = codes "right"
text_align_name text_align.Center = codes "center"
text_align_name text_align.Justify = codes "justify"

abbrev pub vertical_offset_name : VerticalOffset → List ℕ
vertical_offset_name vertical_offset.Subscript = codes "subscript"
vertical_offset_name vertical_offset.Superscript = codes "superscript"

abbrev pub decoration_style_name : TextDecorationStyle → List ℕ
decoration_style_name decoration_style.Solid = codes "solid"
decoration_style_name decoration_style.Dotted = codes "dotted"
decoration_style_name decoration_style.Dashed = codes "dashed"
decoration_style_name decoration_style.Double = codes "double"
decoration_style_name decoration_style.Wavy = codes "wavy"

abbrev pub truth_name : Bool → List ℕ
truth_name true = codes "true"
truth_name false = codes "false"

abbrev pub filter_name : NamedFilter → List ℕ
filter_name filter.All = codes "all"
filter_name filter.Common = codes "common"
filter_name filter.CommonWithRoot = codes "common_with_root"

abbrev pub side_name : Side → List ℕ
side_name side.Start = codes "start"
side_name side.End = codes "end"

abbrev pub move_name : Move → List ℕ
move_name move.ForwardToCharacterStart = codes "forward_to_character_start"
move_name move.ForwardToCharacterEnd = codes "forward_to_character_end"
move_name move.BackwardToCharacterStart = codes "backward_to_character_start"
move_name move.ForwardToFormatStart = codes "forward_to_format_start"
move_name move.ForwardToFormatEnd = codes "forward_to_format_end"
move_name move.BackwardToFormatStart = codes "backward_to_format_start"
move_name move.ForwardToWordStart = codes "forward_to_word_start"
move_name move.ForwardToWordEnd = codes "forward_to_word_end"
move_name move.BackwardToWordStart = codes "backward_to_word_start"
move_name move.ForwardToLineStart = codes "forward_to_line_start"
move_name move.ForwardToLineEnd = codes "forward_to_line_end"
move_name move.BackwardToLineStart = codes "backward_to_line_start"
move_name move.ForwardToParagraphStart = codes "forward_to_paragraph_start"
move_name move.ForwardToParagraphEnd = codes "forward_to_paragraph_end"
move_name move.BackwardToParagraphStart = codes "backward_to_paragraph_start"
move_name move.ForwardToPageStart = codes "forward_to_page_start"
move_name move.ForwardToPageEnd = codes "forward_to_page_end"
move_name move.DocumentEnd = codes "document_end"
move_name move.BackwardToPageStart = codes "backward_to_page_start"
move_name move.DocumentStart = codes "document_start"
