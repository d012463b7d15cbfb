-- The results of the closures of searches.
use Rattle.std.specs.Prelude.{◌≡◌, Bool}
use Rattle.schema.specs.NodeData.{NodeData}
use Rattle.model.specs.declared.FullNodeId.{FullNodeId}
use Rattle.model.specs.World.{World}
use Rattle.views.specs.declared.node.node_ref.NodeRef.{NodeRef}
use Rattle.views.specs.Nodes.{world_at, id_at}

-- for each view of a node of this world it returns the test's result for the node
pub record TestsNodes (answers : NodeRef → Bool → Type 0) (w : World) (test : FullNodeId → Bool) : Type 0 where
  pub at : (n : NodeRef) (r : Bool) → world_at n ≡ w → answers n r → r ≡ test (id_at n)

-- for each node's data it returns the test's result
pub record TestsData (answers : NodeData → Bool → Type 0) (test : NodeData → Bool) : Type 0 where
  pub at : (d : NodeData) (r : Bool) → answers d r → r ≡ test d
