-- Ranges of the text of a root.
use Rattle.std.specs.Prelude.{◌≡◌}
use Rattle.model.specs.declared.FullNodeId.{FullNodeId}
use Rattle.model.specs.World.{World}
use Rattle.model.specs.FlatText.{FlatText}
use Rattle.model.specs.Ranges.{Range}
use Rattle.texts.specs.declared.range.TextRange.{TextRange}
use Rattle.views.specs.Nodes.{world_at, id_at}
use Rattle.texts.specs.Positions.{node_text}
use Rattle.texts.specs.Edges.{edge_position}

-- the world and the root that it is in, and the text
abbrev pub world_in : TextRange → World
world_in r = world_at r.root

abbrev pub root_in : TextRange → FullNodeId
root_in r = id_at r.root

abbrev pub text_in : TextRange → FlatText
text_in r = node_text r.root

-- its two positions
abbrev pub range_at : TextRange → Range
range_at r = record { start = edge_position (world_in r) (root_in r) r.first; end = edge_position (world_in r) (root_in r) r.last }

-- it is this range of the text of a root
pub record IsRangeOf (w : World) (id : FullNodeId) (q : Range) (r : TextRange) : Type 0 where
  pub world : world_in r ≡ w
  pub root : root_in r ≡ id
  pub at : range_at r ≡ q
