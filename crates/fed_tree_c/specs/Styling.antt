-- What is asked of how the texts of nodes look. The numbers are those that updates have.
use Rattle.std.specs.Prelude.{◌≡◌, ◌&&◌, ℕ, Bool, List, slice_get, is_some, Option, Some, None, MatchOption, option_and_then, option_map}
use Rattle.schema.specs.declared.values.Color.{Color}
use Rattle.model.specs.declared.FullNodeId.{FullNodeId}
use Rattle.fed_tree.specs.Fed.{Fed}
use Rattle.fed_tree.specs.Looks.{DiffersBetween, style_in_text, style_text_in_text}
use Rattle.fed_tree.specs.Reads.{read_of}
use Rattle.fed_tree.specs.Styles.{style_at, style_text_at}
use Rattle.fed_tree.specs.declared.styles.StyleValue.{StyleValue}
use Rattle.fed_tree.specs.declared.styles.StyleValue.TheVariants as value
use Rattle.fed_tree_c.specs.Answers.{CLOSED, Gives, lack_where}
use Rattle.fed_tree_c.specs.ChoiceNumbers.{decoration_style_number, text_align_number, text_direction_number, vertical_offset_number}
use Rattle.fed_tree_c.specs.Computing.{yes_number}
use Rattle.fed_tree_c.specs.Kinds.{all_styles}
use Rattle.fed_tree_c.specs.Spotting.{spot_said}
use Rattle.fed_tree_c.specs.declared.spots.AkSpot.{AkSpot}
use Rattle.fed_tree_c.specs.declared.styles.AkStyleValue.{AkStyleValue}

-- a number without a colour, and with one
abbrev pub numbered_style : ℕ → AkStyleValue
numbered_style number = record { number = number; red = 0; green = 0; blue = 0; alpha = 0 }

abbrev pub colored : ℕ → Color → AkStyleValue
colored number color = record { number = number; red = color.red; green = color.green; blue = color.blue; alpha = color.alpha }

abbrev pub style_of : StyleValue → AkStyleValue
style_of (value.Direction d) = numbered_style (text_direction_number d)
style_of (value.Size size) = numbered_style size
style_of (value.Weight weight) = numbered_style weight
style_of (value.Color color) = colored 0 color
style_of (value.Line l) = colored (decoration_style_number l.style) l.color
style_of (value.Align a) = numbered_style (text_align_number a)
style_of (value.Offset o) = numbered_style (vertical_offset_number o)
style_of (value.Italic b) = numbered_style (yes_number b)

-- the node's value of the property with this number
abbrev pub style_in : ℕ → FullNodeId → Fed → Option AkStyleValue
style_in number id fed = option_map style_of
    (option_and_then (λ style. read_of fed.world id (λ w node. style_at style w id)) (slice_get all_styles number))

abbrev pub style_text_in : ℕ → FullNodeId → Fed → Option (List ℕ)
style_text_in number id fed = option_and_then (λ style. read_of fed.world id (λ w node. style_text_at style w id))
    (slice_get all_styles number)

-- ---- in the texts of nodes

abbrev pub text_style_in : AkSpot → ℕ → FullNodeId → Fed → Option AkStyleValue
text_style_in s number id fed =
    option_map style_of
    (option_and_then (λ at. option_and_then (λ style. read_of fed.world id (λ w node. style_in_text at style w id))
    (slice_get all_styles number))
    (spot_said s))

abbrev pub text_style_text_in : AkSpot → ℕ → FullNodeId → Fed → Option (List ℕ)
text_style_text_in s number id fed =
    option_and_then (λ at. option_and_then (λ style. read_of fed.world id (λ w node. style_text_in_text at style w id))
    (slice_get all_styles number))
    (spot_said s)

-- whether the text differs between two positions; none where one of these or the property isn't there
abbrev pub DiffersSaid : AkSpot → AkSpot → ℕ → FullNodeId → Fed → Option Bool → Type 0
DiffersSaid from to number id fed found =
    MatchOption (spot_said from) (found ≡ None)
    (λ p. MatchOption (spot_said to) (found ≡ None)
    (λ q. MatchOption (slice_get all_styles number) (found ≡ None) (λ style. DiffersBetween fed.world id p q style found)))

-- what is answered where nothing is found
abbrev pub lack_between : AkSpot → AkSpot → ℕ → FullNodeId → Fed → ℕ
lack_between from to number = lack_where (is_some (spot_said from) && (is_some (spot_said to) && is_some (slice_get all_styles number)))

abbrev pub AnswersDiffers : Option Fed → AkSpot → AkSpot → ℕ → FullNodeId → ℕ → Bool → Bool → Type 0
AnswersDiffers None from to number id status old new = (status ≡ CLOSED) × (new ≡ old)
AnswersDiffers (Some fed) from to number id status old new =
    (found : Option Bool) × DiffersSaid from to number id fed found × Gives (lack_between from to number id fed) found status old new
