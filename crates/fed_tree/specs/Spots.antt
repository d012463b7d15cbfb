-- Positions in the texts of nodes, however they are named.
use Rattle.std.specs.Prelude.{ℕ, nat_lt, Bool, Option, Some, None, option_map, option_and_then, if◌then◌else◌}
use Rattle.model.specs.declared.FullNodeId.{FullNodeId}
use Rattle.model.specs.declared.queries.Move.{Move}
use Rattle.model.specs.World.{World}
use Rattle.model.specs.FlatText.{FlatText, Position, flat_text, offset, total, document_end, is_document_end, is_document_start, is_format_start, is_line_end, is_line_start, is_paragraph_end, is_paragraph_separator, is_paragraph_start, is_word_start}
use Rattle.model.specs.Moves.{position_from_utf16, to_global_usv_index, to_global_utf16_index, to_line_index}
use Rattle.model.specs.Points.{position_at_point}
use Rattle.model.specs.Queries.{moved, position_at, raw_of}
use Rattle.model.specs.Ranges.{position_named, selection_anchor, selection_focus}
use Rattle.session.specs.Texts.{in_text}
use Rattle.fed_tree.specs.Texts.{side_of}
use Rattle.fed_tree.specs.declared.spots.Spot.{Spot}
use Rattle.fed_tree.specs.declared.spots.Spot.TheVariants as spot
use Rattle.fed_tree.specs.declared.spots.SpotTest.{SpotTest}
use Rattle.fed_tree.specs.declared.spots.SpotTest.TheVariants as test
use Rattle.fed_tree.specs.declared.spots.Wanted.{Wanted}
use Rattle.fed_tree.specs.declared.text_places.TextPlace.{TextPlace}

-- the position in the text of a node, if it is there
abbrev pub position_in : Spot → World → FullNodeId → FlatText → Option Position
position_in (spot.Index at) w id t = position_at t at
position_in (spot.Utf16Index index) w id t = position_from_utf16 t index
position_in (spot.Name name) w id t = position_named t name
position_in (spot.Point point) w id t = Some (position_at_point t point)
position_in spot.End w id t = Some (document_end t)
position_in spot.SelectionAnchor w id t = selection_anchor w id
position_in spot.SelectionFocus w id t = selection_focus w id

-- the same, if the node has a text
abbrev pub found_at : Spot → World → FullNodeId → Option Position
found_at at w id = in_text (position_in at w id) w id

-- the number, if it is wanted
abbrev pub if_wanted : Bool → ℕ → ℕ
if_wanted wanted number = if wanted then number else 0

-- a position by its run and the numbers that are wanted
abbrev pub place_of : Wanted → FlatText → Position → Option TextPlace
place_of wanted t p =
    option_map
    (λ name. record {
      name = name;
      index = if_wanted wanted.index (to_global_usv_index t p);
      utf16_index = if_wanted wanted.utf16_index (to_global_utf16_index t p);
      line = if_wanted wanted.line (to_line_index t p);
      side = side_of t p;
    })
    (raw_of t p)

abbrev pub spot_place : Spot → Wanted → World → FullNodeId → Option TextPlace
spot_place at wanted w id = option_and_then (place_of wanted (flat_text w id)) (found_at at w id)

-- where a movement from there ends; a movement by a character needs one
abbrev pub moved_place : Spot → Move → Wanted → World → FullNodeId → Option TextPlace
moved_place at move wanted w id =
    let t = flat_text w id in option_and_then (place_of wanted t) (option_and_then (λ p. moved t p move) (found_at at w id))

abbrev pub tests : SpotTest → FlatText → Position → Bool
tests test.CharacterAfter t p = nat_lt (offset t p) (total t)
tests test.CharacterBefore t p = nat_lt 0 (offset t p)
tests test.FormatStart t p = is_format_start t p
tests test.WordStart t p = is_word_start t p
tests test.LineStart t p = is_line_start t p
tests test.LineEnd t p = is_line_end t p
tests test.ParagraphStart t p = is_paragraph_start t p
tests test.ParagraphEnd t p = is_paragraph_end t p
tests test.ParagraphSeparator t p = is_paragraph_separator t p
tests test.DocumentStart t p = is_document_start t p
tests test.DocumentEnd t p = is_document_end t p

abbrev pub test_at : Spot → SpotTest → World → FullNodeId → Option Bool
test_at at test w id = option_map (tests test (flat_text w id)) (found_at at w id)

-- how many scalars the text has
abbrev pub text_length : FlatText → Option ℕ
text_length t = Some (to_global_usv_index t (document_end t))
