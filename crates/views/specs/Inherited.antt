-- What a node inherits.
use Rattle.std.specs.Prelude.{Option}
use Rattle.schema.specs.NodeData.{NodeData}
use Rattle.model.specs.Upward.{inherited_field}
use Rattle.views.specs.declared.node.node_ref.NodeRef.{NodeRef}
use Rattle.views.specs.Nodes.{world_at, id_at}

-- the field of the nearest node upwards that has it
abbrev pub inherited_at : {A : Type 0} → (NodeData → Option A) → NodeRef → Option A
inherited_at field n = inherited_field field (world_at n) (id_at n)
