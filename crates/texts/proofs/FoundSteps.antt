-- Ranges and positions that are there, or not.
use Rattle.std.proofs.Common.{◌≡◌, Some, ap, ◌∙◌}
use Rattle.std.specs.Prelude.{None, Option}
use Rattle.model.specs.declared.FullNodeId.{FullNodeId}
use Rattle.model.specs.World.{World}
use Rattle.model.specs.FlatText.{Position}
use Rattle.model.specs.Ranges.{Range}
use Rattle.views.specs.declared.node.node_ref.NodeRef.{NodeRef}
use Rattle.texts.specs.declared.position.TextPosition.{TextPosition}
use Rattle.texts.specs.declared.range.TextRange.{TextRange}
use Rattle.texts.specs.Positions.{root_at, flat_position}
use Rattle.texts.specs.TextRanges.{IsRangeOf}
use Rattle.texts.specs.FoundRanges.{IsAtFound, IsRangeFound}

pub range_absent : (w : World) (id : FullNodeId) (q : Option Range) → None ≡ q → IsRangeFound w id q None
range_absent w id q e = record { world = tt; root = tt; at = e }

pub range_there : (w : World) (id : FullNodeId) (q : Range) (o : Option Range) (r : TextRange) → IsRangeOf w id q r → Some q ≡ o → IsRangeFound w id o (Some r)
range_there w id q o r is e = record { world = is.world; root = is.root; at = ap Some is.at ∙ e }

pub position_absent : (n : NodeRef) (q : Option Position) → None ≡ q → IsAtFound n q None
position_absent n q e = record { same = tt; at = e }

pub position_there : (n : NodeRef) (o : Option Position) (p : TextPosition) → root_at p ≡ n → Some (flat_position p) ≡ o → IsAtFound n o (Some p)
position_there n o p same e = record { same = same; at = e }
