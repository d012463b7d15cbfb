-- What a walk over all that is below a node has left.
use Rattle.std.specs.Prelude.{List, map}
use Rattle.model.specs.declared.FullNodeId.{FullNodeId}
use Rattle.model.specs.declared.filters.FilterResult.TheVariants.{Include}
use Rattle.model.specs.World.{World}
use Rattle.views.specs.declared.walks.descendants.Descendants.{Descendants}
use Rattle.views.specs.Walks.{walked_world}
use Rattle.views.specs.PlainWalks.{node_in}
use Rattle.views.specs.Descents.{descent_left}

-- its nodes, each with the world in which it is read
abbrev pub descendants_left : Descendants → List (World × FullNodeId)
descendants_left s = map (node_in (walked_world s.course)) (descent_left (λ _. Include) s.course)
