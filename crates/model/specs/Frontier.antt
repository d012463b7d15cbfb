-- What a filter shows of what is below a node.
use Rattle.std.specs.Prelude.{◌≡◌, List, [], ◌∷◌, ◌++◌, ◌⊎◌}
use Rattle.model.specs.declared.FullNodeId.{FullNodeId}
use Rattle.model.specs.declared.filters.FilterResult.{FilterResult}
use Rattle.model.specs.declared.filters.FilterResult.TheVariants.{Include, ExcludeNode, ExcludeSubtree}
use Rattle.model.specs.World.{World, Place}
use Rattle.model.specs.Forest.{Forest, empty, tree, below, above}

-- what replaces a node with this answer in a frontier, if inner is the frontier of what is below it
abbrev pub shown_part : FilterResult → FullNodeId → List FullNodeId → List FullNodeId
shown_part Include c inner = c ∷ []
shown_part ExcludeNode c inner = inner
shown_part ExcludeSubtree c inner = []

abbrev pub frontier : (FullNodeId → FilterResult) → Forest → List FullNodeId
frontier f empty = []
frontier f (tree c inner rest) = shown_part (f c) c (frontier f inner) ++ frontier f rest

-- the frontier of a node: what the filter shows of its children
abbrev pub filtered_children : (FullNodeId → FilterResult) → World → FullNodeId → List FullNodeId
filtered_children f w id = frontier f (below w id)

-- these places lead up to top, and each node that they pass on the way is excluded alone
abbrev pub LeadsUpTo : (FullNodeId → FilterResult) → FullNodeId → List Place → Type 0
LeadsUpTo f top [] = ⊥
LeadsUpTo f top (p ∷ up) = (p.0 ≡ top) ⊎ ((f p.0 ≡ ExcludeNode) × LeadsUpTo f top up)

-- the filter shows the node below top
abbrev pub IsShown : (FullNodeId → FilterResult) → World → FullNodeId → FullNodeId → Type 0
IsShown f w top id = (f id ≡ Include) × LeadsUpTo f top (above w id)
