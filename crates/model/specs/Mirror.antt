-- The records that a handler can keep of a world, from the views in its events.
use Rattle.std.specs.Prelude.{◌≡◌, Option, Some, None, IfSome, IsSomeAnd}
use Rattle.std.specs.Option.{option_map}
use Rattle.std.specs.FinMap.{FinMap, get, insert, remove}
use Rattle.schema.specs.NodeData.{NodeData}
use Rattle.model.specs.declared.FullNodeId.{FullNodeId}
use Rattle.model.specs.FullIds.{full_cmp}
use Rattle.model.specs.World.{World, IsNode, HasData, Place}
use Rattle.model.specs.Forest.{place_of}
use Rattle.model.specs.Focus.{IsFocus}
use Rattle.model.specs.Events.{Seen, Event, NodeAdded, NodeUpdated, FocusMoved, NodeRemoved}

-- what is kept of a node
pub record Mirrored : Type 0 where
  pub place : Option Place
  pub node : NodeData

pub record Records : Type 0 where
  pub nodes : FinMap full_cmp Mirrored
  pub focus : Option FullNodeId

-- a view of the node shows this
abbrev pub Shows : World → FullNodeId → Mirrored → Type 0
Shows w id m = (m.place ≡ place_of w id) × HasData w id m.node

abbrev pub IsRecordOf : World → FullNodeId → Option Mirrored → Type 0
IsRecordOf w id None = ¬ (IsNode w id)
IsRecordOf w id (Some m) = Shows w id m

-- there is a record of each node, of its place and its data, and of nothing else, and the focus is that of the world
pub record AreRecordsOf (w : World) (r : Records) : Type 0 where
  pub nodes : (id : FullNodeId) → IsRecordOf w id (get r.nodes id)
  pub focus : IsFocus w r.focus

-- the record of a node is replaced by what its view shows
abbrev pub Notes : Records → Seen → Records → Type 0
Notes r new s = (m : Mirrored) × Shows new.world new.id m × (s ≡ record r { nodes = insert r.nodes new.id m })

-- one event takes the records r to s
abbrev pub Mirrors : Records → Event → Records → Type 0
Mirrors r (NodeAdded new) s = Notes r new s
Mirrors r (NodeUpdated old new) s = Notes r new s
Mirrors r (FocusMoved old new) s = s ≡ record r { focus = option_map (λ n. n.id) new }
Mirrors r (NodeRemoved old) s = s ≡ record r { nodes = remove r.nodes old.id }

-- The same with failing allocations: what it keeps follows each event, and once it keeps nothing it never keeps anything again.
abbrev pub MirrorsWhileKept : Option Records → Event → Option Records → Type 0
MirrorsWhileKept before e after = IfSome after (λ s. IsSomeAnd before (λ r. Mirrors r e s))
