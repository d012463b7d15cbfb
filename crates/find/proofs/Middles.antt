-- The middle of a box, as far as its numbers are coordinates.
use Rattle.std.proofs.Common.{◌≡◌, ℤ, pos, negsuc, Bool, true, false, ◌&&◌, Option, Some, None, FitsSigned, w64, arith, refl, sym, ap, ◌∙◌}
use Rattle.std.specs.Prelude.{if◌then◌else◌}
use Rattle.std.specs.Option.{SomeIff}
use Rattle.schema.specs.declared.geometry.Point.{Point}
use Rattle.find.specs.Middle.{is_coordinate, point_at}

pub in_range : (z : ℤ) → FitsSigned w64 z → is_coordinate z ≡ true
in_range (pos n) fits = grind (arith, fits.sfits)
in_range (negsuc n) fits = grind (arith, fits.sfits)

pub fits_at : (z : ℤ) → is_coordinate z ≡ true → FitsSigned w64 z
fits_at (pos n) e = grind (arith, e)
fits_at (negsuc n) e = grind (arith, e)

abbrev point : ℤ → ℤ → Point
point x y = record { x = x; y = y }

both_true : (a b : Bool) → (a && b) ≡ true → (a ≡ true) × (b ≡ true)
both_true true true e = (refl, refl)
both_true true false e = absurd (let clash : false ≡ true = e in cc)
both_true false b e = absurd (let clash : false ≡ true = e in cc)

-- a point that is there if both numbers fit is the one at them
pub point_found : (found : Option Point) (x y : ℤ) → SomeIff found (FitsSigned w64 x × FitsSigned w64 y) (point x y) → found ≡ point_at x y
point_found (Some p) x y h =
    ap Some h.1 ∙ sym (ap (λ b. if b && is_coordinate y then Some (point x y) else None) (in_range x h.0.0) ∙ ap (λ b. if b then Some (point x y) else None) (in_range y h.0.1))
point_found None x y h = go (is_coordinate x && is_coordinate y) refl
  where
    go : (b : Bool) → (is_coordinate x && is_coordinate y) ≡ b → None ≡ (if is_coordinate x && is_coordinate y then Some (point x y) else None)
    go true e = let both = both_true (is_coordinate x) (is_coordinate y) e in absurd (h (fits_at x both.0, fits_at y both.1))
    go false e = sym (ap (λ b. if b then Some (point x y) else None) e)
