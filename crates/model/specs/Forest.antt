-- The place of each node in a world, the forest below it and the places above it, across grafts.
use Rattle.std.specs.Prelude.{◌≡◌, ℕ, Bool, List, [], ◌∷◌, suc, zero, Option, Some, None, option_map, position}
use Rattle.std.specs.Option.{option_or}
use Rattle.std.specs.Ordering.{eq_by_cmp}
use Rattle.std.specs.FinMap.{keys, len}
use Rattle.model.specs.declared.FullNodeId.{FullNodeId}
use Rattle.model.specs.FullIds.{full_cmp}
use Rattle.model.specs.World.{World, children, Place, StandsAt}

-- whether two ids are equal
abbrev pub is_same : FullNodeId → FullNodeId → Bool
is_same a b = eq_by_cmp full_cmp a b

-- the first place of a child among the children of these nodes
abbrev pub place_among : World → FullNodeId → List FullNodeId → Option Place
place_among w child [] = None
place_among w child (parent ∷ others) =
    option_or (option_map (λ i. (parent, i)) (position (is_same child) (children w parent))) (place_among w child others)

-- the place of a node: the parent that has it as a child, and the index among the parent's children
unfoldable pub place_of : World → FullNodeId → Option Place
place_of w child = place_among w child (keys w.nodes)

-- a list of trees: the id of the first, the trees below it, and the trees after it
pub data Forest : Type 0 where
  empty : Forest
  tree : (id : FullNodeId) → (inner : Forest) → (rest : Forest) → Forest

-- the trees of these ids, where sub gives what is below each
abbrev pub plant : (FullNodeId → Forest) → List FullNodeId → Forest
plant sub [] = empty
plant sub (c ∷ cs) = tree c (sub c) (plant sub cs)

-- what is below a node, cut off after n levels
abbrev pub levels_below : World → ℕ → FullNodeId → Forest
levels_below w zero id = empty
levels_below w (suc n) id = plant (levels_below w n) (children w id)

-- what is below a node: no way down is longer than there are nodes
unfoldable pub below : World → FullNodeId → Forest
below w id = levels_below w (len w.nodes) id

-- a place, and those above it
abbrev pub chain : (FullNodeId → List Place) → Option Place → List Place
chain up None = []
chain up (Some p) = p ∷ up p.0

-- the places from a node up, nearest first, cut off after n
abbrev pub places_up : World → ℕ → FullNodeId → List Place
places_up w zero id = []
places_up w (suc n) id = chain (places_up w n) (place_of w id)

-- the places from a node up to the root: its own, its parent's, and so on; no way up is longer than there are nodes
unfoldable pub above : World → FullNodeId → List Place
above w id = places_up w (len w.nodes) id

-- no node has two places, and none is above itself
pub record IsFormed (w : World) : Type 0 where
  pub placed : (p : Place) (c : FullNodeId) → StandsAt w p c → place_of w c ≡ Some p
  pub rooted : (c : FullNodeId) → above w c ≡ chain (above w) (place_of w c)
