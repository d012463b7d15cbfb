-- A filter that always answers alike for one node.
use Rattle.std.specs.Prelude.{◌≡◌}
use Rattle.model.specs.declared.FullNodeId.{FullNodeId}
use Rattle.model.specs.declared.filters.FilterResult.{FilterResult}
use Rattle.model.specs.World.{World}
use Rattle.views.specs.declared.node.node_ref.NodeRef.{NodeRef}
use Rattle.views.specs.Nodes.{world_at, id_at}

-- of each node of this world it answers what f says
pub record Follows (answers : NodeRef → FilterResult → Type 0) (w : World) (f : FullNodeId → FilterResult) : Type 0 where
  pub at : (n : NodeRef) (r : FilterResult) → world_at n ≡ w → answers n r → r ≡ f (id_at n)
