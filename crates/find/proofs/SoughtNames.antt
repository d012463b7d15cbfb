-- The names of a table of roles.
use Rattle.std.proofs.Common.{◌≡◌, ◌≤◌, ◌++◌, ◌∙◌, ℕ, List, length, map, take, sym, ap}
use Rattle.std.proofs.lemmas.List.{take_all}
use Rattle.std.proofs.lemmas.Simd.{map-map}

-- once all entries of a table are passed, the names are those before it and all of its own
pub all_named : {A B : Type 0} (view : A → B) (text : B → List ℕ) (names first : List (List ℕ)) (i : ℕ) (table : List A) (texts : List B) →
    names ≡ first ++ map (λ entry. text (view entry)) (take i table) → length table ≤ i → map view table ≡ texts → names ≡ first ++ map text texts
all_named {A} {B} view text names first i table texts so_far past is =
    let own : map (λ entry. text (view entry)) table ≡ map text texts = sym (map-map text view table) ∙ ap (map text) is in
    so_far ∙ ap (λ (l : List A). first ++ map (λ entry. text (view entry)) l) (take_all i table past) ∙ ap (λ (l : List (List ℕ)). first ++ l) own
