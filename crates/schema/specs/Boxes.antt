-- The size, centre and contents of a rectangle. A reversed one contains nothing.
use Rattle.std.specs.Prelude.{ℤ, pos, ◌+ℤ◌, int_lt, int_le, Bool, ◌&&◌}
use Rattle.std.specs.Int.{int_div_euclid}
use Rattle.schema.specs.declared.geometry.Point.{Point}
use Rattle.schema.specs.declared.geometry.Rect.{Rect}
use Rattle.schema.specs.declared.geometry.WideRect.{WideRect}

-- the number is in a span, from its start to before its end
abbrev pub is_between : ℤ → ℤ → ℤ → Bool
is_between low high z = int_le low z && int_lt z high

-- half of the sum, rounded down
abbrev pub middle : ℤ → ℤ → ℤ
middle low high = int_div_euclid (low +ℤ high) (pos 2)

-- the point lies in the rectangle
abbrev pub has_point : Rect → Point → Bool
has_point r p = is_between r.x0 r.x1 p.x && is_between r.y0 r.y1 p.y

abbrev pub wide_has_point : WideRect → Point → Bool
wide_has_point r p = is_between r.x0 r.x1 p.x && is_between r.y0 r.y1 p.y
