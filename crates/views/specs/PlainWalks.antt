-- What the plain walks have left.
use Rattle.std.specs.Prelude.{List, map, reverse, slice_range}
use Rattle.model.specs.declared.FullNodeId.{FullNodeId}
use Rattle.model.specs.World.{World, children}
use Rattle.views.specs.declared.node.node_ref.NodeRef.{NodeRef}
use Rattle.views.specs.declared.walks.range.ChildRange.{ChildRange}
use Rattle.views.specs.declared.walks.plain.ChildIds.{ChildIds}
use Rattle.views.specs.declared.walks.plain.FollowingSiblings.{FollowingSiblings}
use Rattle.views.specs.declared.walks.plain.PrecedingSiblings.{PrecedingSiblings}
use Rattle.views.specs.declared.walks.plain.Children.{Children}
use Rattle.views.specs.declared.walks.plain.FollowingSiblingNodes.{FollowingSiblingNodes}
use Rattle.views.specs.declared.walks.plain.PrecedingSiblingNodes.{PrecedingSiblingNodes}
use Rattle.views.specs.ShownWorlds.{world_of}
use Rattle.views.specs.Nodes.{world_at, id_at}

-- a node as a walk returns it: the world and the id
abbrev pub node_in : World → FullNodeId → World × FullNodeId
node_in w id = (w, id)

abbrev pub node_of : NodeRef → World × FullNodeId
node_of n = node_in (world_at n) (id_at n)

abbrev pub range_world : ChildRange → World
range_world s = world_of s.state

-- the children from the front to the back
abbrev pub range_left : ChildRange → List FullNodeId
range_left s = slice_range (children (range_world s) s.parent.id) s.front s.back

abbrev pub range_nodes : ChildRange → List (World × FullNodeId)
range_nodes s = map (node_in (range_world s)) (range_left s)

abbrev pub child_ids_left : ChildIds → List FullNodeId
child_ids_left s = range_left s.range

abbrev pub following_ids_left : FollowingSiblings → List FullNodeId
following_ids_left s = range_left s.range

-- nearest first
abbrev pub preceding_ids_left : PrecedingSiblings → List FullNodeId
preceding_ids_left s = reverse (range_left s.range)

abbrev pub children_left : Children → List (World × FullNodeId)
children_left s = range_nodes s.range

abbrev pub following_left : FollowingSiblingNodes → List (World × FullNodeId)
following_left s = range_nodes s.range

abbrev pub preceding_left : PrecedingSiblingNodes → List (World × FullNodeId)
preceding_left s = reverse (range_nodes s.range)
