-- What is proved of places and of the lists of a tree.
use Rattle.std.specs.Prelude.{◌≡◌, ◌≢◌, ℕ, [], ◌∷◌, ◌++◌, length, reverse, flat_map, option_map, unwrap_or, Some, Contains, AllPairs, ◌↔◌}
use Rattle.std.specs.FinMap.{len}
use Rattle.model.specs.declared.FullNodeId.{FullNodeId}
use Rattle.model.specs.declared.filters.FilterResult.{FilterResult}
use Rattle.model.specs.World.{World, IsNode, children, root_of, Place, StandsAt}
use Rattle.model.specs.State.{IsState}
use Rattle.model.specs.Forest.{plant, place_of, below, above, IsFormed}
use Rattle.model.specs.Lists.{preorder, IsWithin, following_siblings, preceding_siblings, first_child, last_child, deepest_first_child, deepest_last_child}
use Rattle.model.specs.Paths.{depth, index_path, relative_index_path, IsBefore}
use Rattle.model.specs.Frontier.{shown_part, filtered_children, IsShown}

-- in a state no node has two places, and the way up from each ends
abbrev pub StatesAreFormed : Type 0
StatesAreFormed = (w : World) → IsState w → IsFormed w

-- `place_of` gives the place of a node
abbrev pub PlaceIsWhereItStands : Type 0
PlaceIsWhereItStands = (w : World) → IsFormed w → (id : FullNodeId) (p : Place) → (place_of w id ≡ Some p) ↔ StandsAt w p id

-- what is below a node are its children, each with what is below it
abbrev pub BelowAreTheChildren : Type 0
BelowAreTheChildren = (w : World) → IsFormed w → (id : FullNodeId) → below w id ≡ plant (below w) (children w id)

-- above a child are its place and what is above its parent
abbrev pub AboveIsTheParent : Type 0
AboveIsTheParent = (w : World) → IsFormed w → (p : Place) (id : FullNodeId) → StandsAt w p id → above w id ≡ p ∷ above w p.0

-- a pre-order is the node, and then the pre-order of each child in turn
abbrev pub PreorderIsOfChildren : Type 0
PreorderIsOfChildren = (w : World) → IsFormed w → (id : FullNodeId) → preorder w id ≡ id ∷ flat_map (preorder w) (children w id)

-- it has the nodes that lie within its first one, and no others
abbrev pub PreorderIsAllWithin : Type 0
PreorderIsAllWithin = (w : World) → IsFormed w → (top id : FullNodeId) → Contains (preorder w top) id ↔ IsWithin w top id

-- and none of them twice
abbrev pub PreorderHasNoneTwice : Type 0
PreorderHasNoneTwice = (w : World) → IsFormed w → (top : FullNodeId) → AllPairs (λ a b. a ≢ b) (preorder w top)

-- the pre-order of a state's root has the nodes of the state, and nothing else
abbrev pub RootPreorderIsAllNodes : Type 0
RootPreorderIsAllNodes =
    (w : World) → IsState w → (top : FullNodeId) → root_of w 0 ≡ Some top → (id : FullNodeId)
    → Contains (preorder w top) id ↔ IsNode w id

-- and is as long as the state has nodes
abbrev pub RootPreorderCountsNodes : Type 0
RootPreorderCountsNodes = (w : World) → IsState w → (top : FullNodeId) → root_of w 0 ≡ Some top → length (preorder w top) ≡ len w.nodes

-- pre-order is the lexicographic order of index paths
abbrev pub PreorderIsPathOrder : Type 0
PreorderIsPathOrder =
    (w : World) → IsFormed w → (top : FullNodeId) → AllPairs (λ a b. IsBefore (index_path w a) (index_path w b)) (preorder w top)

-- two nodes of a state with the same index path are the same
abbrev pub PathTellsNodes : Type 0
PathTellsNodes = (w : World) → IsState w → (a b : FullNodeId) → IsNode w a → IsNode w b → index_path w a ≡ index_path w b → a ≡ b

-- a node is as deep as its index path is long
abbrev pub DepthIsPathLength : Type 0
DepthIsPathLength = (w : World) (id : FullNodeId) → length (index_path w id) ≡ depth w id

-- a child's index path is its parent's and the child's index
abbrev pub PathOfChild : Type 0
PathOfChild = (w : World) → IsFormed w → (p : Place) (id : FullNodeId) → StandsAt w p id → index_path w id ≡ index_path w p.0 ++ p.1 ∷ []

-- the path of a node is that of a node that it lies within, and the relative path
abbrev pub PathWithin : Type 0
PathWithin =
    (w : World) → IsFormed w → (top id : FullNodeId) → IsWithin w top id
    → index_path w id ≡ index_path w top ++ relative_index_path w top id

-- the parent's children are the preceding siblings from the farthest on, the node, and the following ones
abbrev pub SiblingsAreAround : Type 0
SiblingsAreAround =
    (w : World) → IsFormed w → (p : Place) (id : FullNodeId) → StandsAt w p id
    → children w p.0 ≡ reverse (preceding_siblings w id) ++ id ∷ following_siblings w id

-- the root of a tree has no siblings
abbrev pub RootsHaveNoSiblings : Type 0
RootsHaveNoSiblings =
    (w : World) → IsState w → (index : ℕ) (id : FullNodeId) → root_of w index ≡ Some id
    → (preceding_siblings w id ≡ []) × (following_siblings w id ≡ [])

-- the deepest first child is that of the first child, or the first child itself if it has none; likewise for the last
abbrev pub DeepestIsOfChild : Type 0
DeepestIsOfChild =
    (w : World) → IsFormed w → (id : FullNodeId)
    → (deepest_first_child w id ≡ option_map (λ c. unwrap_or (deepest_first_child w c) c) (first_child w id))
    × (deepest_last_child w id ≡ option_map (λ c. unwrap_or (deepest_last_child w c) c) (last_child w id))

-- over a node's children in order: an included one is itself, one that is excluded alone is replaced by what is shown of its own
-- children, one that is excluded with its subtree by nothing
abbrev pub FrontierIsOfChildren : Type 0
FrontierIsOfChildren =
    (f : FullNodeId → FilterResult) (w : World) → IsFormed w → (id : FullNodeId)
    → filtered_children f w id ≡ flat_map (λ c. shown_part (f c) c (filtered_children f w c)) (children w id)

-- the filtered children are the nodes that are included with only nodes between that are excluded alone
abbrev pub FrontierIsAllShown : Type 0
FrontierIsAllShown =
    (f : FullNodeId → FilterResult) (w : World) → IsFormed w → (top id : FullNodeId)
    → Contains (filtered_children f w top) id ↔ IsShown f w top id

-- they are in the order of their index paths
abbrev pub FrontierIsPathOrder : Type 0
FrontierIsPathOrder =
    (f : FullNodeId → FilterResult) (w : World) → IsFormed w → (top : FullNodeId)
    → AllPairs (λ a b. IsBefore (index_path w a) (index_path w b)) (filtered_children f w top)
