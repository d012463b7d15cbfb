-- The sum of the translations above a node, up to one of its ancestors, and the bounds of such sums.
use Rattle.std.specs.Prelude.{ℕ, ◌^◌, ℤ, pos, neg_ℤ, ◌≤ℤ◌, Bool, false, not, List, take_while, Option}
use Rattle.std.specs.Option.{option_map_or}
use Rattle.schema.specs.declared.geometry.WideTranslation.{WideTranslation}
use Rattle.model.specs.declared.FullNodeId.{FullNodeId}
use Rattle.model.specs.World.{World}
use Rattle.model.specs.Forest.{is_same}
use Rattle.model.specs.Upward.{upward}
use Rattle.model.specs.Geometry.{sum_of_moves}

-- the node is the top, if there is one
abbrev pub is_top : Option FullNodeId → FullNodeId → Bool
is_top top id = option_map_or (λ t. is_same t id) top false

-- the node and those above it, up to the one below the top
abbrev pub up_to_top : World → Option FullNodeId → FullNodeId → List FullNodeId
up_to_top w top id = take_while (λ a. not (is_top top a)) (upward w id)

-- the sum of their translations
abbrev pub transform_to_top : World → Option FullNodeId → FullNodeId → WideTranslation
transform_to_top w top id = sum_of_moves w (up_to_top w top id)

-- at most 2 ^ 64 nodes are above one another, since there are no more, and each translates by at most 2 ^ 31
abbrev pub FARTHEST : ℕ
FARTHEST = 2 ^ 95

-- bounded, so that a rectangle can be added
abbrev pub IsInReach : ℤ → Type 0
IsInReach z = (neg_ℤ (pos FARTHEST) ≤ℤ z) × (z ≤ℤ pos FARTHEST)
