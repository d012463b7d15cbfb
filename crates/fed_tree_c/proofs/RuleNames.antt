-- Names of rules by their places.
use Rattle.std.proofs.Common.{◌≡◌, ℕ, List, map, Option, option_map, Bor, sym, ap, ◌∙◌}
use Rattle.std.proofs.lemmas.Option.{slice_get-map}
use Rattle.std.specs.List.{slice_get}
use Rattle.fed_tree_c.specs.Stops.{rule_names}

-- a table of the names has each at its place
pub name_at_place : (table : List (Bor (List ℕ))) (n : ℕ) (found : Option (Bor (List ℕ))) → map (λ name. name.now) table ≡ rule_names
    → found ≡ slice_get table n → option_map (λ name. name.now) found ≡ slice_get rule_names n
name_at_place table n found names is =
    ap (option_map (λ name. name.now)) is ∙ sym (slice_get-map (λ name. name.now) table n) ∙ ap (λ (xs : List (List ℕ)). slice_get xs n) names
