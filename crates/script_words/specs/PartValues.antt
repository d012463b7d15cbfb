-- The value of a word that has parts: commas or a colon between them, or a number in brackets.
use Rattle.std.specs.Prelude.{ℕ, ℤ, ◌==◌, List, [], ◌∷◌, codes, Option, Some, None, option_map, if◌then◌else◌}
use Rattle.std.specs.Str.{bytes_eq}
use Rattle.schema.specs.RoleNames.{role_name}
use Rattle.schema.specs.declared.NodeId.{NodeId}
use Rattle.schema.specs.declared.Role.{Role}
use Rattle.schema.specs.declared.Role.TheVariants as role
use Rattle.schema.specs.declared.actions.Action.{Action}
use Rattle.schema.specs.declared.actions.Action.TheVariants.{Click, Focus, Increment, Decrement, Other}
use Rattle.schema.specs.declared.geometry.Rect.{Rect}
use Rattle.schema.specs.declared.geometry.Translation.{Translation}
use Rattle.schema.specs.declared.values.Color.{Color}
use Rattle.schema.specs.declared.values.TextDecoration.{TextDecoration}
use Rattle.schema.specs.declared.values.TextDecorationStyle.{TextDecorationStyle}
use Rattle.schema.specs.declared.values.TextPosition.{TextPosition}
use Rattle.schema.specs.declared.values.TextSelection.{TextSelection}
use Rattle.script_words.specs.Cuts.{halves}
use Rattle.script_words.specs.Fields.{begun_by}
use Rattle.script_words.specs.Meaning.{onward}
use Rattle.script_words.specs.NamedIn.{first_named}
use Rattle.script_words.specs.NameLists.{all_roles}
use Rattle.script_words.specs.WordValues.{byte_of, decoration_style_of, id_of, number_of, short_of, units_of}

-- ---- two parts, or more

-- a first part and a second one, with such a byte between them
abbrev pub both_of : {T U : Type 0} → ℕ → (List ℕ → Option T) → (List ℕ → Option U) → List ℕ → Option (T × U)
both_of mark first second word =
    onward (halves mark word) (λ parts. onward (first parts.0) (λ x. onward (second parts.1) (λ y. Some (x, y))))

-- X,Y
unfoldable pub pair_of : List ℕ → Option (ℤ × ℤ)
pair_of word = both_of 44 units_of units_of word

abbrev pub from_corners : ℤ × (ℤ × (ℤ × ℤ)) → Rect
from_corners sides = record { x0 = sides.0; y0 = sides.1.0; x1 = sides.1.1.0; y1 = sides.1.1.1 }

-- LEFT,TOP,RIGHT,BOTTOM
unfoldable pub rect_of : List ℕ → Option Rect
rect_of word = option_map from_corners (both_of 44 units_of (both_of 44 units_of pair_of) word)

abbrev pub shifted_by : ℤ × ℤ → Translation
shifted_by by = record { x = by.0; y = by.1 }

unfoldable pub translation_of : List ℕ → Option Translation
translation_of word = option_map shifted_by (pair_of word)

-- RUN:CHARACTER
abbrev pub place_at : NodeId × ℕ → TextPosition
place_at at = record { node = at.0; character_index = at.1 }

unfoldable pub place_of : List ℕ → Option TextPosition
place_of word = option_map place_at (both_of 58 id_of number_of word)

-- from one to the other
abbrev pub from_anchor : TextPosition × TextPosition → TextSelection
from_anchor ends = record { anchor = ends.0; focus = ends.1 }

unfoldable pub selection_of : List ℕ → Option TextSelection
selection_of word = option_map from_anchor (both_of 44 place_of place_of word)

unfoldable pub two_bytes_of : List ℕ → Option (ℕ × ℕ)
two_bytes_of word = both_of 44 byte_of byte_of word

abbrev pub color_by : ℕ × (ℕ × (ℕ × ℕ)) → Color
color_by parts = record { red = parts.0; green = parts.1.0; blue = parts.1.1.0; alpha = parts.1.1.1 }

-- RED,GREEN,BLUE,OPACITY
unfoldable pub color_of : List ℕ → Option Color
color_of word = option_map color_by (both_of 44 byte_of (both_of 44 byte_of two_bytes_of) word)

abbrev pub decoration_by : TextDecorationStyle × Color → TextDecoration
decoration_by parts = record { style = parts.0; color = parts.1 }

-- STYLE,RED,GREEN,BLUE,OPACITY
unfoldable pub decoration_of : List ℕ → Option TextDecoration
decoration_of word = option_map decoration_by (both_of 44 decoration_style_of color_of word)

-- ---- lists

-- the parts of a text between such bytes
unfoldable pub parts_of : ℕ → List ℕ → List (List ℕ)
parts_of mark [] = [] ∷ []
parts_of mark (byte ∷ text) = if byte == mark then [] ∷ parts_of mark text else begun_by byte (parts_of mark text)

abbrev pub begun_with_value : {T : Type 0} → T → List T → List T
begun_with_value value others = value ∷ others

-- each part as the value that it stands for
unfoldable pub each_of : {T : Type 0} → (List ℕ → Option T) → List (List ℕ) → Option (List T)
each_of meaning [] = Some []
each_of meaning (part ∷ others) = onward (meaning part) (λ value. option_map (begun_with_value value) (each_of meaning others))

-- items with commas between them
unfoldable pub list_of : {T : Type 0} → (List ℕ → Option T) → List ℕ → Option (List T)
list_of meaning word = each_of meaning (parts_of 44 word)

-- `-` for an empty list
unfoldable pub unit_list_of : List ℕ → Option (List ℤ)
unit_list_of word = if bytes_eq word (codes "-") then Some [] else list_of units_of word

-- ---- numbers in place of a name

-- what comes behind these bytes at the front
abbrev pub behind_front : List ℕ → List ℕ → Option (List ℕ)
behind_front [] text = Some text
behind_front (mark ∷ marks) [] = None
behind_front (mark ∷ marks) (byte ∷ text) = if byte == mark then behind_front marks text else None

-- what comes before this byte at the end
abbrev pub before_last : ℕ → List ℕ → Option (List ℕ)
before_last mark [] = None
before_last mark (byte ∷ []) = if byte == mark then Some [] else None
before_last mark (byte ∷ next ∷ text) = option_map (begun_with_value byte) (before_last mark (next ∷ text))

-- `Other()` with this in its brackets
unfoldable pub in_brackets_of : List ℕ → Option (List ℕ)
in_brackets_of word = onward (behind_front (codes "Other(") word) (before_last 41)

abbrev pub other_of : (List ℕ → Option ℕ) → List ℕ → Option ℕ
other_of meaning word = onward (in_brackets_of word) meaning

-- an action: one of the four with a name, or `Other` with a number of one byte
unfoldable pub action_of : List ℕ → Option Action
action_of word =
    if bytes_eq word (codes "Click") then Some Click
    else if bytes_eq word (codes "Focus") then Some Focus
    else if bytes_eq word (codes "Increment") then Some Increment
    else if bytes_eq word (codes "Decrement") then Some Decrement
    else option_map Other (other_of byte_of word)

abbrev pub or_else : {T : Type 0} → Option T → Option T → Option T
or_else None other = other
or_else (Some value) other = Some value

-- a role: one of those with a name, or `Other` with a number of two bytes
unfoldable pub role_of : List ℕ → Option Role
role_of word = or_else (first_named role_name word all_roles) (option_map role.Other (other_of short_of word))
