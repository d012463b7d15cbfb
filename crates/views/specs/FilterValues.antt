-- Values that depend on what a filter answers.
use Rattle.std.specs.Prelude.{◌≡◌}
use Rattle.model.specs.declared.FullNodeId.{FullNodeId}
use Rattle.model.specs.declared.filters.FilterResult.{FilterResult}
use Rattle.model.specs.World.{World}
use Rattle.views.specs.declared.node.node_ref.NodeRef.{NodeRef}
use Rattle.views.specs.Follows.{Follows}
use Rattle.views.specs.Nodes.{world_at, id_at}

-- by each f that the filter follows in the world of the node, the result is the value at the node
abbrev pub IsBy : {A : Type 0} → (NodeRef → FilterResult → Type 0) → NodeRef → ((FullNodeId → FilterResult) → World → FullNodeId → A) → A
    → Type 0
IsBy answers n value result = (f : FullNodeId → FilterResult) → Follows answers (world_at n) f → result ≡ value f (world_at n) (id_at n)
