-- What holds of the world of a masked password holds of each world that differs in that password alone.
use Rattle.model.specs.World.{World}
use Rattle.model.specs.Shape.{EqualShape}
use Rattle.views.specs.declared.node.node_ref.NodeRef.{NodeRef}
use Rattle.views.specs.Nodes.{world_at, id_at}

-- it holds of each world of equal shape at the node
abbrev pub InEachOfShape : NodeRef → (World → Type 0) → Type 0
InEachOfShape n said = (v : World) → EqualShape (id_at n) (world_at n) v → said v
