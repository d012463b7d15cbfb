-- What is below a node: all of it, and what a filter shows of it.
use Rattle.std.specs.Prelude.{◌≡◌, List, [], ◌∷◌, ◌++◌, drop, flat_map}
use Rattle.model.specs.declared.FullNodeId.{FullNodeId}
use Rattle.model.specs.declared.filters.FilterResult.{FilterResult}
use Rattle.model.specs.declared.filters.FilterResult.TheVariants.{Include, ExcludeNode, ExcludeSubtree}
use Rattle.model.specs.World.{World}
use Rattle.model.specs.Forest.{Forest, empty, tree, below, IsFormed}
use Rattle.model.specs.Lists.{preorder}
use Rattle.model.specs.Frontier.{filtered_children}

-- the node's pre-order without the node itself
abbrev pub descendants : World → FullNodeId → List FullNodeId
descendants w id = drop 1 (preorder w id)

-- what replaces a node with this answer, if inner is what is shown below it
abbrev pub shown_tree : FilterResult → FullNodeId → List FullNodeId → List FullNodeId
shown_tree Include c inner = c ∷ inner
shown_tree ExcludeNode c inner = inner
shown_tree ExcludeSubtree c inner = []

abbrev pub shown_nodes : (FullNodeId → FilterResult) → Forest → List FullNodeId
shown_nodes f empty = []
shown_nodes f (tree c inner rest) = shown_tree (f c) c (shown_nodes f inner) ++ shown_nodes f rest

-- what the filter shows below a node, in pre-order
abbrev pub filtered_descendants : (FullNodeId → FilterResult) → World → FullNodeId → List FullNodeId
filtered_descendants f w id = shown_nodes f (below w id)

-- it is each filtered child, and then what is shown below that
abbrev pub ShownBelowIsOfFilteredChildren : Type 0
ShownBelowIsOfFilteredChildren =
    (f : FullNodeId → FilterResult) (w : World) → IsFormed w → (id : FullNodeId)
    → filtered_descendants f w id ≡ flat_map (λ c. c ∷ filtered_descendants f w c) (filtered_children f w id)

-- a filter that includes each node shows all of it
abbrev pub AllIncludedAreDescendants : Type 0
AllIncludedAreDescendants = (w : World) (id : FullNodeId) → filtered_descendants (λ _. Include) w id ≡ descendants w id
