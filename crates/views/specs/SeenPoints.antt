-- A point in nodes' coordinates.
use Rattle.std.specs.Prelude.{ℕ, ◌+◌, ◌*◌, ◌^◌, ℤ, pos, neg_ℤ, ◌≤ℤ◌, Bool, false, not, ◌&&◌, ◌==◌}
use Rattle.std.specs.Option.{option_map_or}
use Rattle.model.specs.declared.FullNodeId.{FullNodeId}
use Rattle.model.specs.World.{World}
use Rattle.model.specs.Upward.{field_at}
use Rattle.model.specs.Geometry.{WidePoint, contains_point}
use Rattle.views.specs.declared.walks.hits.SeenPoint.{SeenPoint}

abbrev pub wide_of : SeenPoint → WidePoint
wide_of s = record { x = s.x; y = s.y }

-- no farther than a coordinate and this many translations
abbrev pub IsNear : ℕ → ℤ → Type 0
IsNear n z = (neg_ℤ (pos (2 ^ 63 + 2 ^ 31 * n)) ≤ℤ z) × (z ≤ℤ pos (2 ^ 63 + 2 ^ 31 * n))

-- both of its coordinates are
abbrev pub AreNear : ℕ → SeenPoint → Type 0
AreNear n s = IsNear n s.x × IsNear n s.y

-- the node has no children and doesn't contain the point itself
abbrev pub is_bare_miss : World → FullNodeId → ℕ → WidePoint → Bool
is_bare_miss w id count q = (count == 0) && not (option_map_or (λ r. contains_point r q) (field_at (λ d. d.bounds) w id) false)
