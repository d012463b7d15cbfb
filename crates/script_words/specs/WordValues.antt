-- The value of a word: a number, a tree's id or a value with a name.
use Rattle.std.specs.Prelude.{ℕ, ℤ, pos, negsuc, neg_ℤ, ◌^◌, ◌==◌, ◌&&◌, nat_lt, Bool, true, false, List, [], ◌∷◌, codes, Option, Some, None, option_map, if◌then◌else◌}
use Rattle.std.specs.Char.{digit_value}
use Rattle.std.specs.Str.{bytes_eq}
use Rattle.std.specs.Str.Parse.{digits_value}
use Rattle.uuid.specs.Text.{parsed}
use Rattle.model.specs.declared.queries.Move.{Move}
use Rattle.model.specs.declared.queries.NamedFilter.{NamedFilter}
use Rattle.model.specs.declared.queries.Side.{Side}
use Rattle.schema.specs.TreeIds.{root_tree_id}
use Rattle.schema.specs.declared.NodeId.{NodeId}
use Rattle.schema.specs.declared.TreeId.{TreeId}
use Rattle.schema.specs.declared.values.AriaCurrent.{AriaCurrent}
use Rattle.schema.specs.declared.values.HasPopup.{HasPopup}
use Rattle.schema.specs.declared.values.Live.{Live}
use Rattle.schema.specs.declared.values.Orientation.{Orientation}
use Rattle.schema.specs.declared.values.SortDirection.{SortDirection}
use Rattle.schema.specs.declared.values.TextAlign.{TextAlign}
use Rattle.schema.specs.declared.values.TextDecorationStyle.{TextDecorationStyle}
use Rattle.schema.specs.declared.values.TextDirection.{TextDirection}
use Rattle.schema.specs.declared.values.Toggled.{Toggled}
use Rattle.schema.specs.declared.values.VerticalOffset.{VerticalOffset}
use Rattle.script_words.specs.Meaning.{onward}
use Rattle.script_words.specs.NamedIn.{first_named}
use Rattle.script_words.specs.NameLists.{all_currents, all_decoration_styles, all_filters, all_lives, all_moves, all_orientations, all_popups, all_sides, all_sort_directions, all_text_aligns, all_text_directions, all_toggles, all_truths, all_vertical_offsets}
use Rattle.script_words.specs.Names.{aria_current_name, decoration_style_name, filter_name, has_popup_name, live_name, move_name, orientation_name, side_name, sort_direction_name, text_align_name, text_direction_name, toggled_name, truth_name, vertical_offset_name}

-- ---- numbers

abbrev pub are_digits : List ℕ → Bool
are_digits [] = true
are_digits (byte ∷ others) = nat_lt (digit_value byte) 10 && are_digits others

-- one digit or more
abbrev pub is_numeral : List ℕ → Bool
is_numeral [] = false
is_numeral (byte ∷ others) = are_digits (byte ∷ others)

-- a number of 64 bits: decimal digits, with any zeros before them
unfoldable pub number_of : List ℕ → Option ℕ
number_of word = if is_numeral word && nat_lt (digits_value 10 word) (2 ^ 64) then Some (digits_value 10 word) else None

-- an integer: decimal digits, or a minus sign and those of the number without its sign
abbrev pub unsigned_value : List ℕ → Option ℤ
unsigned_value word = if is_numeral word then Some (pos (digits_value 10 word)) else None

abbrev pub negative_value : List ℕ → Option ℤ
negative_value digits = if is_numeral digits then Some (neg_ℤ (pos (digits_value 10 digits))) else None

abbrev pub integer_value : List ℕ → Option ℤ
integer_value [] = None
integer_value (byte ∷ digits) = if byte == 45 then negative_value digits else unsigned_value (byte ∷ digits)

-- within 64 bits
abbrev pub fits_64 : ℤ → Bool
fits_64 (pos n) = nat_lt n (2 ^ 63)
fits_64 (negsuc n) = nat_lt n (2 ^ 63)

abbrev pub signed_kept : ℤ → Option ℤ
signed_kept z = if fits_64 z then Some z else None

unfoldable pub signed_of : List ℕ → Option ℤ
signed_of word = onward (integer_value word) signed_kept

-- ---- fewer bits

-- a number below this bound
abbrev pub kept_below : ℕ → ℕ → Option ℕ
kept_below bound n = if nat_lt n bound then Some n else None

unfoldable pub narrow_of : List ℕ → Option ℕ
narrow_of word = onward (number_of word) (kept_below (2 ^ 32))

unfoldable pub short_of : List ℕ → Option ℕ
short_of word = onward (number_of word) (kept_below (2 ^ 16))

unfoldable pub byte_of : List ℕ → Option ℕ
byte_of word = onward (number_of word) (kept_below (2 ^ 8))

-- an integer within 32 bits
abbrev pub fits_32 : ℤ → Bool
fits_32 (pos n) = nat_lt n (2 ^ 31)
fits_32 (negsuc n) = nat_lt n (2 ^ 31)

abbrev pub units_kept : ℤ → Option ℤ
units_kept z = if fits_32 z then Some z else None

unfoldable pub units_of : List ℕ → Option ℤ
units_of word = onward (signed_of word) units_kept

-- ---- ids

abbrev pub node_id : ℕ → NodeId
node_id n = record { 0 = n }

abbrev pub tree_id : List ℕ → TreeId
tree_id bytes = record { 0 = bytes }

abbrev pub id_of : List ℕ → Option NodeId
id_of word = option_map node_id (number_of word)

-- `root`, or a UUID in one of its four forms
unfoldable pub tree_of : List ℕ → Option TreeId
tree_of word = if bytes_eq word (codes "root") then Some root_tree_id else option_map tree_id (parsed word)

-- ---- names

abbrev pub filter_of : List ℕ → Option NamedFilter
filter_of word = first_named filter_name word all_filters

abbrev pub side_of : List ℕ → Option Side
side_of word = first_named side_name word all_sides

abbrev pub move_of : List ℕ → Option Move
move_of word = first_named move_name word all_moves

abbrev pub toggled_of : List ℕ → Option Toggled
toggled_of word = first_named toggled_name word all_toggles

abbrev pub truth_of : List ℕ → Option Bool
truth_of word = first_named truth_name word all_truths

abbrev pub live_of : List ℕ → Option Live
live_of word = first_named live_name word all_lives

abbrev pub orientation_of : List ℕ → Option Orientation
orientation_of word = first_named orientation_name word all_orientations

abbrev pub sort_direction_of : List ℕ → Option SortDirection
sort_direction_of word = first_named sort_direction_name word all_sort_directions

abbrev pub aria_current_of : List ℕ → Option AriaCurrent
aria_current_of word = first_named aria_current_name word all_currents

abbrev pub has_popup_of : List ℕ → Option HasPopup
has_popup_of word = first_named has_popup_name word all_popups

abbrev pub text_direction_of : List ℕ → Option TextDirection
text_direction_of word = first_named text_direction_name word all_text_directions

abbrev pub text_align_of : List ℕ → Option TextAlign
text_align_of word = first_named text_align_name word all_text_aligns

abbrev pub vertical_offset_of : List ℕ → Option VerticalOffset
vertical_offset_of word = first_named vertical_offset_name word all_vertical_offsets

abbrev pub decoration_style_of : List ℕ → Option TextDecorationStyle
decoration_style_of word = first_named decoration_style_name word all_decoration_styles
