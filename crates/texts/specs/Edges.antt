-- The ends of ranges: runs at their places, each with an index in it.
use Rattle.std.specs.Prelude.{ℕ, length}
use Rattle.model.specs.declared.FullNodeId.{FullNodeId}
use Rattle.model.specs.World.{World}
use Rattle.model.specs.TextRuns.{SentRun}
use Rattle.model.specs.FlatText.{flat_text, Position, offset}
use Rattle.texts.specs.declared.edges.Edge.{Edge}
use Rattle.views.specs.RunPlaces.{runs_before}

-- its run
abbrev pub edge_run : Edge → SentRun
edge_run e = record { id = e.spot.member.id; node = e.spot.member.node.now }

-- the position that it is: the number of its run, and the index
abbrev pub edge_position : World → FullNodeId → Edge → Position
edge_position w root e = record { run = length (runs_before w root e.spot.member.id); index = e.index }

-- how much of the root's text is before it
abbrev pub edge_offset : World → FullNodeId → Edge → ℕ
edge_offset w root e = offset (flat_text w root) (edge_position w root e)
