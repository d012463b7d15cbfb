-- The node at the middle of a box.
use Rattle.std.specs.Prelude.{ℤ, pos, negsuc, ◌-ℤ◌, ◌^◌, nat_lt, Bool, ◌&&◌, Option, Some, None, option_and_then, if◌then◌else◌}
use Rattle.schema.specs.Boxes.{middle}
use Rattle.schema.specs.declared.geometry.Point.{Point}
use Rattle.schema.specs.declared.geometry.Translation.{Translation}
use Rattle.schema.specs.declared.geometry.WideRect.{WideRect}
use Rattle.model.specs.declared.FullNodeId.{FullNodeId}
use Rattle.model.specs.World.{World}
use Rattle.model.specs.Filters.{common_filter}
use Rattle.model.specs.Geometry.{direct_transform, hit}

-- from minus 2 to the 63rd to below 2 to the 63rd
abbrev pub is_coordinate : ℤ → Bool
is_coordinate (pos n) = nat_lt n (2 ^ 63)
is_coordinate (negsuc n) = nat_lt n (2 ^ 63)

-- the point, if both numbers are coordinates
abbrev pub point_at : ℤ → ℤ → Option Point
point_at x y = if is_coordinate x && is_coordinate y then Some (record { x = x; y = y }) else None

abbrev pub middle_of : WideRect → Option Point
middle_of r = point_at (middle r.x0 r.x1) (middle r.y0 r.y1)

-- a point without a node's own translation, as the node sees it
abbrev pub seen_from : Translation → Point → Option Point
seen_from own p = point_at (p.x -ℤ own.x) (p.y -ℤ own.y)

-- the middle of a box as the top sees it
abbrev pub middle_seen : Translation → WideRect → Option Point
middle_seen own r = option_and_then (seen_from own) (middle_of r)

-- the node below the top that is hit there
abbrev pub node_at_middle : World → FullNodeId → WideRect → Option FullNodeId
node_at_middle w top r = option_and_then (hit (common_filter w) w top) (middle_seen (direct_transform w top) r)
