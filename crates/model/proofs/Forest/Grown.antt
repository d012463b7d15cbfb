-- Each node's forest is that of its children, whichever the cut-off.
use Rattle.std.proofs.Common.{◌≡◌, ℕ, ◌+◌, ◌≤◌, List, [], ◌∷◌, length, suc, zero, refl, sym, ◌∙◌, ap, arith}
use Rattle.std.specs.Prelude.{Option, Some, None, slice_get}
use Rattle.std.specs.FinMap.{len}
use Rattle.model.specs.declared.FullNodeId.{FullNodeId}
use Rattle.model.specs.World.{World, children, Place, StandsAt}
use Rattle.model.specs.Forest.{Forest, plant, levels_below, place_of, chain, places_up, below, above, IsFormed}
use Rattle.model.specs.Paths.{depth}

-- two ways to fill in what is below agree on the ids listed
pub plant_same : (f g : FullNodeId → Forest) (cs : List FullNodeId) → ((i : ℕ) (c : FullNodeId) → slice_get cs i ≡ Some c → f c ≡ g c) → plant f cs ≡ plant g cs
plant_same f g [] h = refl
plant_same f g (c ∷ cs) h =
    let head : f c ≡ g c = h 0 c refl in
    let others : plant f cs ≡ plant g cs = plant_same f g cs (λ i d e. h (suc i) d e) in cc

chain_length : (up : FullNodeId → List Place) (o : Option Place) (n : ℕ) → ((q : FullNodeId) → length (up q) ≤ n) → length (chain up o) ≤ suc n
chain_length up None n h = omega arith
chain_length up (Some p) n h = omega (arith, h p.0)

pub climbed_length : (w : World) (n : ℕ) (id : FullNodeId) → length (places_up w n id) ≤ n
climbed_length w zero id = omega arith
climbed_length w (suc n) id = chain_length (places_up w n) (place_of w id) n (climbed_length w n)

pub depth_at_most : (w : World) (id : FullNodeId) → depth w id ≤ len w.nodes
unfolding above
depth_at_most w id = climbed_length w (len w.nodes) id

pub above_child : (w : World) → IsFormed w → (p : Place) (c : FullNodeId) → StandsAt w p c → above w c ≡ p ∷ above w p.0
above_child w formed p c e = formed.rooted c ∙ ap (chain (above w)) (formed.placed p c e)

pub above_root : (w : World) → IsFormed w → (c : FullNodeId) → place_of w c ≡ None → above w c ≡ []
above_root w formed c e = formed.rooted c ∙ ap (chain (above w)) e

pub depth_child : (w : World) → IsFormed w → (p : Place) (c : FullNodeId) → StandsAt w p c → depth w c ≡ depth w p.0 + 1
depth_child w formed p c e = omega (arith, ap length (above_child w formed p c e))

none_below : (w : World) → IsFormed w → (id : FullNodeId) → len w.nodes ≤ depth w id → (cs : List FullNodeId) → children w id ≡ cs → cs ≡ []
none_below w formed id h [] e = refl
none_below w formed id h (c ∷ cs) e =
    let child : slice_get (children w id) 0 ≡ Some c = ap (λ (xs : List FullNodeId). slice_get xs 0) e in
    absurd (omega (arith, depth_child w formed (id, 0) c child, depth_at_most w c))

pub grown_same : (w : World) → IsFormed w → (n m : ℕ) (id : FullNodeId) → len w.nodes ≤ n + depth w id → len w.nodes ≤ m + depth w id → levels_below w n id ≡ levels_below w m id
grown_same w formed zero zero id p q = refl
grown_same w formed zero (suc m) id p q = sym (ap (plant (levels_below w m)) (none_below w formed id (omega arith) (children w id) refl))
grown_same w formed (suc n) zero id p q = ap (plant (levels_below w n)) (none_below w formed id (omega arith) (children w id) refl)
grown_same w formed (suc n) (suc m) id p q =
    plant_same _ _ _ (λ i c e. grown_same w formed n m c (omega (arith, depth_child w formed (id, i) c e)) (omega (arith, depth_child w formed (id, i) c e)))

-- what is below a node is the forest of its children
pub below_is : (w : World) → IsFormed w → (id : FullNodeId) → below w id ≡ plant (below w) (children w id)
unfolding below
below_is w formed id = grown_same w formed (len w.nodes) (suc (len w.nodes)) id (omega arith) (omega arith)
