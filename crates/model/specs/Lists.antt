-- The lists of a tree, from the forest below a node and the places above it.
use Rattle.std.specs.Prelude.{◌+◌, ◌-◌, List, [], ◌∷◌, ◌++◌, length, map, reverse, take, drop, slice_get, Option, Some, None, unwrap_or, Contains, ◌≡◌, ◌⊎◌}
use Rattle.std.specs.Option.{option_or, option_map_or}
use Rattle.model.specs.declared.FullNodeId.{FullNodeId}
use Rattle.model.specs.World.{World, children}
use Rattle.model.specs.Forest.{Forest, empty, tree, place_of, below, above}

-- each tree's first node, then what is below it, and then the trees after it
abbrev pub nodes_of : Forest → List FullNodeId
nodes_of empty = []
nodes_of (tree c inner rest) = c ∷ nodes_of inner ++ nodes_of rest

-- a node, and then all that is below it, child by child
abbrev pub preorder : World → FullNodeId → List FullNodeId
preorder w id = id ∷ nodes_of (below w id)

-- the parent, its parent, and so on up to the root
abbrev pub ancestors : World → FullNodeId → List FullNodeId
ancestors w id = map (λ p. p.0) (above w id)

-- the node is top, or top is an ancestor of it
abbrev pub IsWithin : World → FullNodeId → FullNodeId → Type 0
IsWithin w top id = (id ≡ top) ⊎ Contains (ancestors w id) top

-- the parent's later children, in order
abbrev pub following_siblings : World → FullNodeId → List FullNodeId
following_siblings w id = option_map_or (λ p. drop (p.1 + 1) (children w p.0)) (place_of w id) []

-- the parent's earlier children, nearest first
abbrev pub preceding_siblings : World → FullNodeId → List FullNodeId
preceding_siblings w id = option_map_or (λ p. reverse (take p.1 (children w p.0))) (place_of w id) []

abbrev pub first_child : World → FullNodeId → Option FullNodeId
first_child w id = slice_get (children w id) 0

abbrev pub last_child : World → FullNodeId → Option FullNodeId
last_child w id = slice_get (children w id) (length (children w id) - 1)

-- the first tree's node, its first child, the first child of that, and so on to a node without any
abbrev pub deepest_first : Forest → Option FullNodeId
deepest_first empty = None
deepest_first (tree c inner rest) = Some (unwrap_or (deepest_first inner) c)

-- the same by the last tree and the last children
abbrev pub deepest_last : Forest → Option FullNodeId
deepest_last empty = None
deepest_last (tree c inner rest) = option_or (deepest_last rest) (Some (unwrap_or (deepest_last inner) c))

abbrev pub deepest_first_child : World → FullNodeId → Option FullNodeId
deepest_first_child w id = deepest_first (below w id)

abbrev pub deepest_last_child : World → FullNodeId → Option FullNodeId
deepest_last_child w id = deepest_last (below w id)
