-- Geometry: sums of translations, boxes, and hits at a point.
use Rattle.std.specs.Prelude.{ℤ, pos, ◌+ℤ◌, ◌-ℤ◌, int_lt, int_le, List, [], ◌∷◌, ◌++◌, take_while, filter, Bool, false, not, cond, ◌&&◌, Option, None, unwrap_or}
use Rattle.std.specs.Option.{option_map, option_map_or}
use Rattle.std.specs.Int.{int_min, int_max}
use Rattle.std.specs.List.{last_or}
use Rattle.schema.specs.declared.geometry.Point.{Point}
use Rattle.schema.specs.declared.geometry.Rect.{Rect}
use Rattle.schema.specs.declared.geometry.Translation.{Translation}
use Rattle.schema.specs.declared.geometry.WideRect.{WideRect}
use Rattle.schema.specs.declared.geometry.WideTranslation.{WideTranslation}
use Rattle.model.specs.declared.FullNodeId.{FullNodeId}
use Rattle.model.specs.declared.filters.FilterResult.{FilterResult}
use Rattle.model.specs.World.{World}
use Rattle.model.specs.Forest.{Forest, empty, tree, below, is_same}
use Rattle.model.specs.Upward.{field_at, upward}
use Rattle.model.specs.Covers.{is_included, is_cut_off}

-- by how much a node shifts itself and its subtree
abbrev pub direct_transform : World → FullNodeId → Translation
direct_transform w id = unwrap_or (field_at (λ d. d.transform) w id) (record { x = pos 0; y = pos 0 })

abbrev pub no_move : WideTranslation
no_move = record { x = pos 0; y = pos 0 }

-- the sum of these nodes' translations
abbrev pub sum_of_moves : World → List FullNodeId → WideTranslation
sum_of_moves w [] = no_move
sum_of_moves w (id ∷ ids) =
    record { x = (direct_transform w id).x +ℤ (sum_of_moves w ids).x; y = (direct_transform w id).y +ℤ (sum_of_moves w ids).y }

-- the sum of the translations of the node and its ancestors
abbrev pub transform : World → FullNodeId → WideTranslation
transform w id = sum_of_moves w (upward w id)

-- the node and those above it that lie below top
abbrev pub below_top : World → FullNodeId → FullNodeId → List FullNodeId
below_top w top id = take_while (λ a. not (is_same top a)) (upward w id)

-- the part of the node's translation that is its own and theirs
abbrev pub transform_within : World → FullNodeId → FullNodeId → WideTranslation
transform_within w top id = sum_of_moves w (below_top w top id)

-- the whole rectangle as it was sent
abbrev pub whole_rect : Rect → WideRect
whole_rect r = record { x0 = r.x0; y0 = r.y0; x1 = r.x1; y1 = r.y1 }

abbrev pub moved_rect : WideRect → WideTranslation → WideRect
moved_rect r by = record { x0 = r.x0 +ℤ by.x; y0 = r.y0 +ℤ by.y; x1 = r.x1 +ℤ by.x; y1 = r.y1 +ℤ by.y }

-- on each axis from the lower to the higher
abbrev pub ordered_rect : WideRect → WideRect
ordered_rect r = record { x0 = int_min r.x0 r.x1; y0 = int_min r.y0 r.y1; x1 = int_max r.x0 r.x1; y1 = int_max r.y0 r.y1 }

-- the rectangle that the node was sent with, shifted by the whole sum
abbrev pub bounding_box : World → FullNodeId → Option WideRect
bounding_box w id = option_map (λ r. ordered_rect (moved_rect (whole_rect r) (transform w id))) (field_at (λ d. d.bounds) w id)

-- two boxes overlap: on both axes the higher start is below the lower end
abbrev pub meets : WideRect → WideRect → Bool
meets a b = int_lt (int_max a.x0 b.x0) (int_min a.x1 b.x1) && int_lt (int_max a.y0 b.y0) (int_min a.y1 b.y1)

-- a point, in wide numbers
pub record WidePoint : Type 0 where
  pub x : ℤ
  pub y : ℤ

-- the point in the coordinates of something shifted
abbrev pub seen_from : WideTranslation → Point → WidePoint
seen_from by p = record { x = p.x -ℤ by.x; y = p.y -ℤ by.y }

-- the number is in a span, from its start to before its end
abbrev pub is_between : ℤ → ℤ → ℤ → Bool
is_between low high z = int_le low z && int_lt z high

-- a reversed rectangle contains nothing
abbrev pub contains_point : Rect → WidePoint → Bool
contains_point r p = is_between r.x0 r.x1 p.x && is_between r.y0 r.y1 p.y

-- all nodes of these trees, in pre-order, without those that the filter cuts off
abbrev pub uncut : (FullNodeId → FilterResult) → Forest → List FullNodeId
uncut f empty = []
uncut f (tree c inner rest) = cond (is_cut_off (f c)) [] (c ∷ uncut f inner) ++ uncut f rest

-- a node and all that is below it, without what the filter cuts off
abbrev pub uncut_preorder : (FullNodeId → FilterResult) → World → FullNodeId → List FullNodeId
uncut_preorder f w top = cond (is_cut_off (f top)) [] (top ∷ uncut f (below w top))

-- the node's own rectangle contains the point, which is given in the coordinates of top
abbrev pub is_at_point : World → FullNodeId → Point → FullNodeId → Bool
is_at_point w top p id =
    option_map_or (λ r. contains_point r (seen_from (transform_within w top id) p)) (field_at (λ d. d.bounds) w id) false

-- the last node of top's pre-order that isn't cut off, is included, and lies at the point
abbrev pub hit : (FullNodeId → FilterResult) → World → FullNodeId → Point → Option FullNodeId
hit f w top p = last_or None (filter (λ id. is_included (f id) && is_at_point w top p id) (uncut_preorder f w top))
