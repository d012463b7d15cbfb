-- Parts of the texts of nodes.
use Rattle.std.specs.Prelude.{ℕ, nat_lt, Bool, true, List, Option, Some, option_map, option_and_then, if◌then◌else◌}
use Rattle.schema.specs.declared.geometry.WideRect.{WideRect}
use Rattle.model.specs.declared.FullNodeId.{FullNodeId}
use Rattle.model.specs.World.{World}
use Rattle.model.specs.FlatText.{FlatText, Position, flat_text, offset, total, is_format_start, is_line_start, is_page_start, is_paragraph_start, is_word_start}
use Rattle.model.specs.Moves.{backward_to_format_start, backward_to_line_start, backward_to_page_start, backward_to_paragraph_start, backward_to_word_start, forward_to_character_end, forward_to_format_end, forward_to_line_end, forward_to_page_end, forward_to_paragraph_end, forward_to_word_end}
use Rattle.model.specs.Ranges.{Range, bounding_boxes, with_end}
use Rattle.session.specs.Texts.{in_text}
use Rattle.texts.specs.FoundRanges.{range_of_line}
use Rattle.fed_tree.specs.Spots.{found_at, place_of}
use Rattle.fed_tree.specs.declared.spans.TextSpan.{TextSpan}
use Rattle.fed_tree.specs.declared.spans.TextUnit.{TextUnit}
use Rattle.fed_tree.specs.declared.spans.TextUnit.TheVariants as unit
use Rattle.fed_tree.specs.declared.spots.Spot.{Spot}
use Rattle.fed_tree.specs.declared.spots.Wanted.{Wanted}
use Rattle.fed_tree.specs.declared.text_places.TextPlace.{TextPlace}

-- whether a unit starts at the position
abbrev pub starts_unit : TextUnit → FlatText → Position → Bool
starts_unit unit.Character t p = true
starts_unit unit.Format t p = is_format_start t p
starts_unit unit.Word t p = is_word_start t p
starts_unit unit.Line t p = is_line_start t p
starts_unit unit.Paragraph t p = is_paragraph_start t p
starts_unit unit.Page t p = is_page_start t p

-- the nearest start of a unit before the position
abbrev pub back_to_start : TextUnit → FlatText → Position → Position
back_to_start unit.Character t p = p
back_to_start unit.Format t p = backward_to_format_start t p
back_to_start unit.Word t p = backward_to_word_start t p
back_to_start unit.Line t p = backward_to_line_start t p
back_to_start unit.Paragraph t p = backward_to_paragraph_start t p
back_to_start unit.Page t p = backward_to_page_start t p

-- the end of the next character, if there is one
abbrev pub past_character : FlatText → Position → Position
past_character t p = if nat_lt (offset t p) (total t) then forward_to_character_end t p else p

-- the end of the unit that starts at the position
abbrev pub on_to_end : TextUnit → FlatText → Position → Position
on_to_end unit.Character t p = past_character t p
on_to_end unit.Format t p = forward_to_format_end t p
on_to_end unit.Word t p = forward_to_word_end t p
on_to_end unit.Line t p = forward_to_line_end t p
on_to_end unit.Paragraph t p = forward_to_paragraph_end t p
on_to_end unit.Page t p = forward_to_page_end t p

-- where the unit that the position is in starts: there, or else at the nearest start before it
abbrev pub unit_start : TextUnit → FlatText → Position → Position
unit_start unit t p = if starts_unit unit t p then p else back_to_start unit t p

-- and where it ends
abbrev pub unit_end : TextUnit → FlatText → Position → Position
unit_end unit t p = on_to_end unit t (unit_start unit t p)

-- two positions by their runs and the numbers that are wanted
abbrev pub ends_of : Wanted → FlatText → Position → Position → Option TextSpan
ends_of wanted t p q = option_and_then (λ start. option_map (λ end. record { start = start; end = end }) (place_of wanted t q)) (place_of wanted t p)

abbrev pub span_of : TextUnit → Wanted → FlatText → Position → Option TextSpan
span_of unit wanted t p = ends_of wanted t (unit_start unit t p) (unit_end unit t p)

abbrev pub span_at : Spot → TextUnit → Wanted → World → FullNodeId → Option TextSpan
span_at at unit wanted w id = option_and_then (span_of unit wanted (flat_text w id)) (found_at at w id)

abbrev pub range_span : Wanted → FlatText → Range → Option TextSpan
range_span wanted t r = ends_of wanted t r.start r.end

-- the line with this number
abbrev pub line_in : ℕ → Wanted → FlatText → Option TextSpan
line_in number wanted t = option_and_then (range_span wanted t) (range_of_line t number)

abbrev pub line_span : ℕ → Wanted → World → FullNodeId → Option TextSpan
line_span number wanted w id = in_text (line_in number wanted) w id

-- from one position up to the other; at the second alone, if the first isn't before it
abbrev pub part_between : Spot → Spot → World → FullNodeId → Option Range
part_between from to w id =
    option_and_then (λ p. option_map (with_end (flat_text w id) (record { start = p; end = p })) (found_at to w id)) (found_at from w id)

abbrev pub boxes_between : Spot → Spot → World → FullNodeId → Option (List WideRect)
boxes_between from to w id = option_map (bounding_boxes (flat_text w id)) (part_between from to w id)
