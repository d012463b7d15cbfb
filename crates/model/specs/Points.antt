-- The position of a text at a point.
use Rattle.std.specs.Prelude.{ℕ, ℤ, ◌+ℤ◌, ◌-ℤ◌, int_lt, int_le, min, Bool, false, ◌&&◌, ◌||◌, length, reverse, slice_get, find, Option, Some, None, option_map, option_and_then, unwrap_or, if◌then◌else◌}
use Rattle.std.specs.Option.{option_map_or, option_or}
use Rattle.std.specs.List.{range_with_len}
use Rattle.schema.specs.declared.geometry.Rect.{Rect}
use Rattle.schema.specs.declared.geometry.Point.{Point}
use Rattle.schema.specs.declared.geometry.WideRect.{WideRect}
use Rattle.schema.specs.declared.values.TextDirection.{TextDirection}
use Rattle.schema.specs.declared.values.TextDirection.TheVariants.{LeftToRight, RightToLeft, TopToBottom, BottomToTop}
use Rattle.model.specs.FlatText.{FlatText, ShownRun, Metrics, count, Position, end_at, document_start, document_end, last_run, run_has}
use Rattle.model.specs.Geometry.{WidePoint, seen_from, is_between, contains_point, whole_rect, moved_rect, ordered_rect}
use Rattle.model.specs.Ranges.{width, place}

-- the point is in the run's own rectangle, shifted as the run is
abbrev pub is_in_run : Point → ShownRun → Bool
is_in_run point s = option_map_or (λ b. contains_point b (seen_from s.move_in_root point)) s.bounds false

-- how far along the rectangle the point is
abbrev pub distance : TextDirection → Rect → WidePoint → ℤ
distance LeftToRight b p = p.x -ℤ b.x0
distance RightToLeft b p = b.x1 -ℤ p.x
distance TopToBottom b p = p.y -ℤ b.y0
distance BottomToTop b p = b.y1 -ℤ p.y

-- the last character that lies there, of those whose position and width are known
abbrev pub character_at : Metrics → ℤ → Option ℕ
character_at m d =
    find (λ k. is_between (place m k) (place m k +ℤ width m k) d)
    (reverse (range_with_len 0 (min (length m.positions) (length m.widths))))

-- the index at a point in a run: 0 if it has no metrics, and the end if no character lies there
abbrev pub index_at : Point → ShownRun → ℕ
index_at point s =
    unwrap_or
    (option_and_then
    (λ b. option_and_then
    (λ m. option_map (λ d. unwrap_or (character_at m (distance d b (seen_from s.move_in_root point))) (count s)) s.direction)
    s.metrics)
    s.bounds)
    0

-- the run's rectangle in the root's coordinates
abbrev pub box_in_root : ShownRun → Option WideRect
box_in_root s = option_map (λ b. ordered_rect (moved_rect (whole_rect b) s.move_in_root)) s.bounds

-- the point is left of the run's box or above it
abbrev pub is_ahead_of : Point → ShownRun → Bool
is_ahead_of point s = option_map_or (λ b. int_lt point.x b.x0 || int_lt point.y b.y0) (box_in_root s) false

-- the point is beside the box, on the side where its text ends
abbrev pub is_past_box : Point → TextDirection → WideRect → Bool
is_past_box point LeftToRight b = is_between b.y0 b.y1 point.y && int_le b.x1 point.x
is_past_box point RightToLeft b = is_between b.y0 b.y1 point.y && int_lt point.x b.x0
is_past_box point TopToBottom b = is_between b.x0 b.x1 point.x && int_le b.y1 point.y
is_past_box point BottomToTop b = is_between b.x0 b.x1 point.x && int_lt point.y b.y0

abbrev pub is_past : Point → ShownRun → Bool
is_past point s = option_map_or (λ b. option_map_or (λ d. is_past_box point d b) s.direction false) (box_in_root s) false

-- in the last run that contains the point; left of or above the first run the document's start; past a run the end of the last such
-- one; otherwise the document's end
unfoldable pub position_at_point : FlatText → Point → Position
position_at_point t point =
    unwrap_or
    (option_or
    (option_and_then
    (λ r. option_map (λ s. record { run = r; index = index_at point s }) (slice_get t r))
    (last_run t (length t) (run_has (is_in_run point) t)))
    (option_or (if run_has (is_ahead_of point) t 0 then Some document_start else None)
    (option_map (end_at t) (last_run t (length t) (run_has (is_past point) t)))))
    (document_end t)
