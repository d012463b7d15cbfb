-- What is known of the facts of a world's nodes.
use Rattle.std.proofs.Common.{◌≡◌, Bool, true, false, cond, List, [], ◌∷◌, map, Some, refl, sym, ap, ◌∙◌}
use Rattle.std.specs.Prelude.{All}
use Rattle.std.specs.BTreeMap.{BTreeMap, get, is_at}
use Rattle.std.proofs.lemmas.List.Elements.{All-nil, All-cons, All-head, All-tail}
use Rattle.std.proofs.lemmas.Option.{same_Some}
use Rattle.model.specs.declared.FullNodeId.{FullNodeId}
use Rattle.model.specs.FullIds.{full_cmp}
use Rattle.model.specs.World.{World}
use Rattle.model.proofs.Forest.PlaceOf.{same_from_test}
use Rattle.views.specs.Nodes.{world_at}
use Rattle.page_states.specs.declared.found.Facts.{Facts}
use Rattle.page_states.specs.declared.places.Place.{Place}
use Rattle.page_states.specs.Found.{facts_at, AreRight, IsPlaceIn}
use Rattle.page_states.specs.Places.{node_at, IsPlace}

-- those of one more node are known
pub known_more : (w : World) (m n : BTreeMap FullNodeId Facts) (k : FullNodeId) (a : Facts) → ((q : FullNodeId) → get full_cmp n q ≡ cond (is_at (full_cmp k) q) (Some a) (get full_cmp m q)) →
    a ≡ facts_at w k → AreRight w m → AreRight w n
known_more w m n k a put is right q b found = go (is_at (full_cmp k) q) refl
  where
    go : (t : Bool) → is_at (full_cmp k) q ≡ t → b ≡ facts_at w q
    go true e =
        let same : Some a ≡ Some b = sym (ap (λ t. cond t (Some a) (get full_cmp m q)) e) ∙ sym (put q) ∙ found in
        sym (same_Some a b same) ∙ is ∙ ap (facts_at w) (same_from_test k q e)
    go false e = right q b (sym (ap (λ t. cond t (Some a) (get full_cmp m q)) e) ∙ sym (put q) ∙ found)

-- the places of nodes of a world are places in it
pub places_in : (w : World) (places : List Place) → All (λ n. world_at n ≡ w) (map node_at places) → All IsPlace places → All (IsPlaceIn w) places
places_in w [] of are = All-nil (IsPlaceIn w)
places_in w (p ∷ ps) of are =
    All-cons (IsPlaceIn w) p ps (All-head (λ n. world_at n ≡ w) (node_at p) (map node_at ps) of, All-head IsPlace p ps are)
    (places_in w ps (All-tail (λ n. world_at n ≡ w) (node_at p) (map node_at ps) of) (All-tail IsPlace p ps are))
