-- The rectangles of a picture.
use Rattle.std.specs.Prelude.{ℕ, ℤ, ◌+◌, ◌/◌, ◌^◌, ◌-◌, ◌-ℤ◌, ◌+ℤ◌, pos, negsuc, int_lt, unsigned_abs, max, min, List, Option, Some, None, option_map, if◌then◌else◌}
use Rattle.std.specs.Int.{saturate_signed, w64}
use Rattle.std.specs.List.{fold}
use Rattle.std.specs.Ordering.{int_cmp, ord_max, ord_min}
use Rattle.schema.specs.declared.geometry.WideRect.{WideRect}
use Rattle.model.specs.Covers.{is_included}
use Rattle.page_states.specs.declared.boxes.Frame.{Frame}
use Rattle.page_states.specs.declared.places.Place.{Place}
use Rattle.page_states.specs.Places.{box_drawn}

-- a number, clamped to 64 bits
abbrev pub near : ℤ → ℤ
near z = if int_lt z (negsuc (2 ^ 63 - 1)) then negsuc (2 ^ 63 - 1) else if int_lt (pos (2 ^ 63 - 1)) z then pos (2 ^ 63 - 1) else z

abbrev pub frame_of : WideRect → Frame
frame_of r = record { x0 = near r.x0; y0 = near r.y0; x1 = near r.x1; y1 = near r.y1 }

-- at least 1, so that it is visible
abbrev pub frame_width : Frame → ℕ
frame_width r = max (unsigned_abs (r.x1 -ℤ r.x0)) 1

abbrev pub frame_height : Frame → ℕ
frame_height r = max (unsigned_abs (r.y1 -ℤ r.y0)) 1

abbrev pub longer_side : Frame → ℕ
longer_side r = max (frame_width r) (frame_height r)

-- a distance, clamped to 63 bits
abbrev pub by_so_much : ℕ → ℤ
by_so_much by = pos (min by (2 ^ 63 - 1))

abbrev pub widened : ℕ → Frame → Frame
widened by r =
    record {
      x0 = saturate_signed w64 (r.x0 -ℤ by_so_much by);
      y0 = saturate_signed w64 (r.y0 -ℤ by_so_much by);
      x1 = saturate_signed w64 (r.x1 +ℤ by_so_much by);
      y1 = saturate_signed w64 (r.y1 +ℤ by_so_much by);
    }

unfoldable pub lower : ℤ → ℤ → ℤ
lower a b = ord_min int_cmp a b

unfoldable pub higher : ℤ → ℤ → ℤ
higher a b = ord_max int_cmp a b

-- the smallest rectangle that contains both, and what is in both
abbrev pub around : Frame → Frame → Frame
around a b =
    record { x0 = lower a.x0 b.x0; y0 = lower a.y0 b.y0; x1 = higher a.x1 b.x1; y1 = higher a.y1 b.y1 }

abbrev pub within : Frame → Frame → Frame
within a b =
    record { x0 = higher a.x0 b.x0; y0 = higher a.y0 b.y0; x1 = lower a.x1 b.x1; y1 = lower a.y1 b.y1 }

-- ---- the frame of a picture

-- the box of a node that is drawn, and that of one that the common filter includes
abbrev pub drawn_frame : Place → Option Frame
drawn_frame place = option_map frame_of (box_drawn place)

abbrev pub shown_frame : Place → Option Frame
shown_frame place = if is_included place.answer then drawn_frame place else None

-- a rectangle around those so far and another one, if that is there
abbrev pub grown : Option Frame → Option Frame → Option Frame
grown so_far None = so_far
grown None (Some box) = Some box
grown (Some so_far) (Some box) = Some (around so_far box)

-- the smallest rectangle around all that these places have
abbrev pub all_around : (Place → Option Frame) → List Place → Option Frame
all_around box places = fold (λ so_far place. grown so_far (box place)) None places

-- what lies near the boxes of included nodes
abbrev pub near_shown : Option Frame → Frame → Frame
near_shown None all = all
near_shown (Some shown) all = within all (widened (longer_side shown / 8) shown)

-- all boxes of included nodes, and others as far as they lie near those
abbrev pub extent : List Place → Option Frame
extent places = option_map (near_shown (all_around shown_frame places)) (all_around drawn_frame places)

-- that with a margin, if a box is drawn
abbrev pub picture_frame : List Place → Option Frame
picture_frame places = option_map (λ all. widened (longer_side all / 40 + 1) all) (extent places)
