-- What is asked of the texts of nodes, by positions however they are named.
use Rattle.std.specs.Prelude.{ℕ, ◌/◌, ◌%◌, ◌==◌, ◌&&◌, Bool, List, map, slice_get, is_some, Option, Some, None, option_and_then, option_map, if◌then◌else◌}
use Rattle.schema.specs.declared.NodeId.{NodeId}
use Rattle.schema.specs.declared.geometry.WideRect.{WideRect}
use Rattle.model.specs.declared.FullNodeId.{FullNodeId}
use Rattle.session.specs.Texts.{in_text}
use Rattle.views.specs.TextDefects.{text_defect}
use Rattle.views.specs.declared.runs.defects.RunDefect.{RunDefect}
use Rattle.views.specs.declared.runs.defects.RunDefect.TheVariants as rule
use Rattle.views.specs.declared.runs.defects.TextDefect.{TextDefect}
use Rattle.views.specs.declared.runs.defects.TextDefect.TheVariants as defect
use Rattle.fed_tree.specs.Fed.{Fed}
use Rattle.fed_tree.specs.Reads.{read_of}
use Rattle.fed_tree.specs.Spans.{boxes_between, line_span, span_at}
use Rattle.fed_tree.specs.Spots.{moved_place, spot_place, test_at, text_length}
use Rattle.fed_tree.specs.declared.spans.TextSpan.{TextSpan}
use Rattle.fed_tree.specs.declared.spots.Spot.{Spot}
use Rattle.fed_tree.specs.declared.spots.Spot.TheVariants as spot
use Rattle.fed_tree.specs.declared.spots.Wanted.{Wanted}
use Rattle.fed_tree_c.specs.Answers.{lack_where}
use Rattle.fed_tree_c.specs.Kinds.{all_tests, all_units}
use Rattle.fed_tree_c.specs.Numbers.{all_moves, at_index}
use Rattle.fed_tree_c.specs.Records.{bounds_of, position_of}
use Rattle.fed_tree_c.specs.declared.records.AkBounds.{AkBounds}
use Rattle.fed_tree_c.specs.declared.records.AkPosition.{AkPosition}
use Rattle.fed_tree_c.specs.declared.spans.AkSpan.{AkSpan}
use Rattle.fed_tree_c.specs.declared.spots.AkDefect.{AkDefect}
use Rattle.fed_tree_c.specs.declared.spots.AkSpot.{AkSpot}

-- the position of this kind
unfoldable pub spot_by : ℕ → AkSpot → Option Spot
spot_by kind s =
    if kind == 0 then Some (spot.Index (at_index s.index s.is_end))
    else if kind == 1 then Some (spot.Utf16Index s.index)
    else if kind == 2 then Some (spot.Name (record { node = record { 0 = s.run }; character_index = s.index }))
    else if kind == 3 then Some (spot.Point (record { x = s.x; y = s.y }))
    else if kind == 4 then Some spot.End
    else if kind == 5 then Some spot.SelectionAnchor
    else if kind == 6 then Some spot.SelectionFocus
    else None

abbrev pub spot_said : AkSpot → Option Spot
spot_said s = spot_by s.kind s

-- what is answered where nothing is found of a node that is asked about by a position and a number
abbrev pub lack_said : {A : Type 0} → AkSpot → List A → ℕ → FullNodeId → Fed → ℕ
lack_said s table number = lack_where (is_some (spot_said s) && is_some (slice_get table number))

-- bit by bit the index, the UTF-16 index and the line
abbrev pub wanted_said : ℕ → Wanted
wanted_said bits = record { index = bits % 2 == 1; utf16_index = bits / 2 % 2 == 1; line = bits / 4 % 2 == 1 }

abbrev pub place_in : AkSpot → ℕ → FullNodeId → Fed → Option AkPosition
place_in s wanted id fed =
    option_map position_of (option_and_then (λ at. read_of fed.world id (λ w node. spot_place at (wanted_said wanted) w id)) (spot_said s))

abbrev pub moved_in : AkSpot → ℕ → ℕ → FullNodeId → Fed → Option AkPosition
moved_in s number wanted id fed =
    option_map position_of
    (option_and_then (λ at. option_and_then (λ move. read_of fed.world id
    (λ w node. moved_place at move (wanted_said wanted) w id)) (slice_get all_moves number))
    (spot_said s))

abbrev pub test_in : AkSpot → ℕ → FullNodeId → Fed → Option Bool
test_in s number id fed =
    option_and_then (λ at. option_and_then (λ test. read_of fed.world id (λ w node. test_at at test w id))
    (slice_get all_tests number)) (spot_said s)

abbrev pub length_in : FullNodeId → Fed → Option ℕ
length_in id fed = read_of fed.world id (λ w node. in_text text_length w id)

-- ---- parts of a text

abbrev pub span_of : TextSpan → AkSpan
span_of span = record { start = position_of span.start; end = position_of span.end }

abbrev pub unit_in : AkSpot → ℕ → ℕ → FullNodeId → Fed → Option AkSpan
unit_in s number wanted id fed =
    option_map span_of
    (option_and_then (λ at. option_and_then (λ unit. read_of fed.world id
    (λ w node. span_at at unit (wanted_said wanted) w id)) (slice_get all_units number))
    (spot_said s))

abbrev pub line_in : ℕ → ℕ → FullNodeId → Fed → Option AkSpan
line_in number wanted id fed = option_map span_of (read_of fed.world id (λ w node. line_span number (wanted_said wanted) w id))

abbrev pub boxes_asked : AkSpot → AkSpot → FullNodeId → Fed → Option (List WideRect)
boxes_asked from to id fed =
    option_and_then (λ p. option_and_then (λ q. read_of fed.world id (λ w node. boxes_between p q w id)) (spot_said to)) (spot_said from)

abbrev pub boxes_in : AkSpot → AkSpot → FullNodeId → Fed → Option (List AkBounds)
boxes_in from to id fed = option_map (map bounds_of) (boxes_asked from to id fed)

-- ---- why runs make no text

-- the number of a rule that a run breaks, and the node that a link leads to
abbrev pub rule_of : RunDefect → ℕ × ℕ
rule_of (rule.PreviousLink node) = (1, node.0)
rule_of rule.PreviousUnanswered = (2, 0)
rule_of rule.Tree = (3, 0)
rule_of rule.CharacterLengths = (4, 0)
rule_of rule.WordStarts = (5, 0)
rule_of rule.CharacterPositions = (6, 0)
rule_of rule.CharacterWidths = (7, 0)
rule_of rule.TooLong = (8, 0)
rule_of rule.Empty = (9, 0)
rule_of (rule.NextLink node) = (10, node.0)
rule_of rule.NextUnanswered = (11, 0)

abbrev pub defect_of : TextDefect → AkDefect
defect_of defect.Role = record { run = 0; link = 0; run_tree = 0; rule = 0 }
defect_of (defect.Run id broken) = record { run = id.node.0; link = (rule_of broken).1; run_tree = id.tree; rule = (rule_of broken).0 }

abbrev pub defect_in : FullNodeId → Fed → Option AkDefect
defect_in id fed = option_map defect_of (read_of fed.world id (λ w node. text_defect w id))
