-- What is read of the texts of nodes.
use Rattle.std.specs.Prelude.{◌==◌, Option, option_map, option_and_then, if◌then◌else◌}
use Rattle.model.specs.declared.FullNodeId.{FullNodeId}
use Rattle.model.specs.declared.queries.At.{At}
use Rattle.model.specs.declared.queries.Move.{Move}
use Rattle.model.specs.declared.queries.Side.{Side}
use Rattle.model.specs.declared.queries.Side.TheVariants.{Start, End}
use Rattle.model.specs.World.{World}
use Rattle.model.specs.FlatText.{FlatText, Position, flat_text, biased_to_start}
use Rattle.model.specs.Moves.{to_global_usv_index, to_global_utf16_index, to_line_index}
use Rattle.model.specs.Queries.{position_at, moved, raw_of}
use Rattle.fed_tree.specs.declared.text_places.TextPlace.{TextPlace}

-- At the end of a run that another follows it is the end of the first of these: its start side is the start of the other, which has
-- another index, since no run but the last is empty.
abbrev pub side_of : FlatText → Position → Side
side_of t p = if (biased_to_start t p).index == p.index then Start else End

-- a position by all its names
abbrev pub place_of : FlatText → Position → Option TextPlace
place_of t p =
    option_map
    (λ name. record {
      name = name;
      index = to_global_usv_index t p;
      utf16_index = to_global_utf16_index t p;
      line = to_line_index t p;
      side = side_of t p;
    })
    (raw_of t p)

-- the position with this index, on this side
abbrev pub place_at : At → FlatText → Option TextPlace
place_at at t = option_and_then (place_of t) (position_at t at)

-- where a movement from it ends; a movement by a character needs one
abbrev pub place_after : At → Move → FlatText → Option TextPlace
place_after at move t = option_and_then (place_of t) (option_and_then (λ p. moved t p move) (position_at t at))

-- a position in the text of the node, if one was found
abbrev pub place_found : World → FullNodeId → Option Position → Option TextPlace
place_found w id found = option_and_then (place_of (flat_text w id)) found
