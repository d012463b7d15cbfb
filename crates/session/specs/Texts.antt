-- Positions in the text of a node.
use Rattle.std.specs.Prelude.{ℕ, List, Option, None, option_and_then, option_map, if◌then◌else◌}
use Rattle.model.specs.declared.FullNodeId.{FullNodeId}
use Rattle.model.specs.declared.queries.At.{At}
use Rattle.model.specs.World.{World}
use Rattle.model.specs.TextRuns.{supports_text_ranges}
use Rattle.model.specs.FlatText.{FlatText, Position, flat_text, offset}
use Rattle.model.specs.Queries.{position_at, text_between}
use Rattle.texts.specs.declared.position.TextPosition.{TextPosition}
use Rattle.texts.specs.Positions.{position_text, flat_position}

-- the number of characters before a position
abbrev pub offset_at : TextPosition → ℕ
offset_at p = offset (position_text p) (flat_position p)

-- what the text of the node says, if it has one
abbrev pub in_text : {A : Type 0} → (FlatText → Option A) → World → FullNodeId → Option A
in_text says w id = if supports_text_ranges w id then says (flat_text w id) else None

-- the position in the node's text, if the node has a text and the position exists
abbrev pub position_in : World → FullNodeId → At → Option Position
position_in w id at = in_text (λ t. position_at t at) w id

-- the text from one position up to another
abbrev pub text_from : At → At → FlatText → Option (List ℕ)
text_from from to t = option_and_then (λ p. option_map (text_between t p) (position_at t to)) (position_at t from)
