-- What is written of a list, item by item.
use Rattle.std.proofs.Common.{◌≡◌, ℕ, ◌+◌, ◌<◌, List, [], ◌∷◌, ◌++◌, length, get_or, take, flat_map, Option, sym, ap, subst, ◌∙◌, add-one, append-nil}
use Rattle.std.specs.Io.KnownBytes.{Appends}
use Rattle.std.proofs.KnownBytes.{Appends-trans}
use Rattle.std.proofs.Math.Seq.{take-suc}
use Rattle.std.proofs.lemmas.List.Concat.{flat_map-append}

items_more : {A : Type 0} (f : A → List ℕ) (items : List A) (i : ℕ) (d : A) → i < length items → flat_map f (take (i + 1) items) ≡ flat_map f (take i items) ++ f (get_or items i d)
items_more f items i d within =
    rw add-one
    (ap (flat_map f) (take-suc items i d within)
    ∙ flat_map-append f (take i items) (get_or items i d ∷ [])
    ∙ ap (λ text. flat_map f (take i items) ++ text) (append-nil (f (get_or items i d))))

-- of the items before a place all is written, and so is the one there
pub item_written : {A : Type 0} (f : A → List ℕ) (items : List A) (i : ℕ) (d : A) (a b c : Option (List ℕ)) → i < length items → Appends a b (flat_map f (take i items)) → Appends b c (f (get_or items i d)) → Appends a c (flat_map f (take (i + 1) items))
item_written f items i d a b c within before more =
    subst (Appends a c) (sym (items_more f items i d within)) (Appends-trans a b c (flat_map f (take i items)) (f (get_or items i d)) before more)
