-- What is read of a tree by the ids of its nodes.
use Rattle.std.specs.Prelude.{◌≡◌, Option, Some, None, option_and_then}
use Rattle.schema.specs.NodeData.{NodeData}
use Rattle.model.specs.World.{World, data_of}
use Rattle.model.specs.declared.FullNodeId.{FullNodeId}
use Rattle.views.specs.Nodes.{world_at, id_at, data_at}
use Rattle.views.specs.declared.node.node_ref.NodeRef.{NodeRef}

-- the data of the node with this id: none before there is a tree, or if it hasn't the node
abbrev pub data_in : Option World → FullNodeId → Option NodeData
data_in world id = option_and_then (λ w. data_of w id) world

-- what the tree says of the node with this id, if it has it
abbrev pub read_of : {A : Type 0} → Option World → FullNodeId → (World → NodeData → Option A) → Option A
read_of world id says = option_and_then (λ w. option_and_then (says w) (data_of w id)) world

-- the node with this id is found in the tree, if it has it
abbrev pub IsFound : Option World → FullNodeId → Option NodeRef → Type 0
IsFound world id None = data_in world id ≡ None
IsFound world id (Some node) = (world ≡ Some (world_at node)) × (id_at node ≡ id) × (data_of (world_at node) id ≡ Some (data_at node))
