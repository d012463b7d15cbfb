-- Ranges and positions that may not exist.
use Rattle.std.specs.Prelude.{◌≡◌, ℕ, Option, IfSome, option_map}
use Rattle.model.specs.declared.FullNodeId.{FullNodeId}
use Rattle.model.specs.World.{World}
use Rattle.model.specs.FlatText.{FlatText, Position}
use Rattle.model.specs.Moves.{line_range}
use Rattle.model.specs.Ranges.{Range}
use Rattle.views.specs.declared.node.node_ref.NodeRef.{NodeRef}
use Rattle.texts.specs.declared.position.TextPosition.{TextPosition}
use Rattle.texts.specs.declared.range.TextRange.{TextRange}
use Rattle.texts.specs.Positions.{root_at, flat_position}
use Rattle.texts.specs.TextRanges.{world_in, root_in, range_at}

-- the range of a line, by its number: past the last one a caret, if there can be one
abbrev pub range_of_line : FlatText → ℕ → Option Range
range_of_line t k = option_map (λ l. record { start = l.0; end = l.1 }) (line_range t k)

-- the position of the root's text, if there is one
pub record IsAtFound (root : NodeRef) (q : Option Position) (found : Option TextPosition) : Type 0 where
  pub same : IfSome found (λ p. root_at p ≡ root)
  pub at : option_map flat_position found ≡ q

-- the range of the text of a root, if there is one
pub record IsRangeFound (w : World) (id : FullNodeId) (q : Option Range) (found : Option TextRange) : Type 0 where
  pub world : IfSome found (λ r. world_in r ≡ w)
  pub root : IfSome found (λ r. root_in r ≡ id)
  pub at : option_map range_at found ≡ q
