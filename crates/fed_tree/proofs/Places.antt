-- Positions by their names.
use Rattle.std.proofs.Common.{◌≡◌, ℕ, Option, Some, option_map, ap, sym, ◌∙◌}
use Rattle.schema.specs.declared.values.TextPosition.{TextPosition as Raw}
use Rattle.model.specs.declared.queries.Side.{Side}
use Rattle.model.specs.FlatText.{FlatText, Position}
use Rattle.model.specs.Moves.{to_global_usv_index, to_global_utf16_index, to_line_index}
use Rattle.model.specs.Ranges.{IsRaw}
use Rattle.model.proofs.Asking.Raws.{raw_is_name}
use Rattle.fed_tree.specs.Texts.{place_of, side_of}
use Rattle.fed_tree.specs.declared.text_places.TextPlace.{TextPlace}

abbrev place_with : ℕ → ℕ → ℕ → Side → Raw → TextPlace
place_with index utf16_index line side name = record { name = name; index = index; utf16_index = utf16_index; line = line; side = side }

-- a position by the names that the calls return
pub place_named : (t : FlatText) (p : Position) (name : Raw) (index utf16_index line : ℕ) (side : Side) → IsRaw t p name → index ≡ to_global_usv_index t p
    → utf16_index ≡ to_global_utf16_index t p → line ≡ to_line_index t p → side ≡ side_of t p
    → place_of t p ≡ Some (record { name = name; index = index; utf16_index = utf16_index; line = line; side = side })
place_named t p name index utf16_index line side raw is_index is_utf16 is_line is_side =
    ap (λ (o : Option Raw). option_map (place_with (to_global_usv_index t p) (to_global_utf16_index t p) (to_line_index t p) (side_of t p)) o) ((raw_is_name t p name).0 raw)
    ∙ (λ i. Some (place_with (sym is_index i) (sym is_utf16 i) (sym is_line i) (sym is_side i) name))
