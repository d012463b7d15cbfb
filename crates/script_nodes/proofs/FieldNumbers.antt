-- Fields by their numbers.
use Rattle.std.proofs.Common.{◌≡◌, ℕ, List, map, option_map, sym, ap, ◌∙◌}
use Rattle.std.proofs.lemmas.Option.{slice_get-map}
use Rattle.std.specs.List.{slice_get}
use Rattle.script_nodes.specs.declared.field_kinds.Field.{Field}
use Rattle.script_nodes.specs.FieldNumbers.{numbered_fields}

abbrev pub field_of : ℕ × Field → Field
field_of entry = entry.1

-- a table of the fields with numbers has each at its number
pub field_at : (table : List (ℕ × Field)) (n : ℕ) → map (λ entry. entry.1) table ≡ numbered_fields
    → option_map field_of (slice_get table n) ≡ slice_get numbered_fields n
field_at table n fields = sym (slice_get-map field_of table n) ∙ ap (λ (xs : List Field). slice_get xs n) fields
