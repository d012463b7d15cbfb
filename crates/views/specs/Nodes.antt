-- What a view of a node shows.
use Rattle.std.specs.Prelude.{◌≡◌, Option, Some, IfSome, ◌↔◌}
use Rattle.std.specs.Option.{option_map}
use Rattle.std.specs.Borrow.{Bor}
use Rattle.schema.specs.NodeData.{NodeData}
use Rattle.model.specs.declared.FullNodeId.{FullNodeId}
use Rattle.model.specs.World.{World}
use Rattle.model.specs.Events.{Seen, seen_in}
use Rattle.views.specs.declared.node.node_ref.NodeRef.{NodeRef}
use Rattle.views.specs.ShownWorlds.{world_of}

abbrev pub world_at : NodeRef → World
world_at n = world_of n.state

abbrev pub id_at : NodeRef → FullNodeId
id_at n = n.id

abbrev pub data_at : NodeRef → NodeData
data_at n = n.node.now

-- what the view shows: the node, and the world in which it is read
abbrev pub seen_node : NodeRef → Seen
seen_node n = seen_in (world_at n) (id_at n)

abbrev pub seen_through : Option (Bor NodeRef) → Option Seen
seen_through o = option_map (λ n. seen_node n.now) o

-- a view of this node of this world
pub record IsView (w : World) (id : FullNodeId) (n : NodeRef) : Type 0 where
  pub world : world_at n ≡ w
  pub is : id_at n ≡ id

-- a view of the node of this world with P, if there is one
pub record ShowsThe (w : World) (P : FullNodeId → Type 0) (found : Option NodeRef) : Type 0 where
  pub world : IfSome found (λ n. world_at n ≡ w)
  pub node : (id : FullNodeId) → (option_map id_at found ≡ Some id) ↔ P id
