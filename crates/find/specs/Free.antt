-- Which nodes nothing restricts.
use Rattle.std.specs.Prelude.{◌≡◌, Bool, true, false, ◌||◌, Some}
use Rattle.schema.specs.NodeData.{NodeData}
use Rattle.model.specs.declared.FullNodeId.{FullNodeId}
use Rattle.model.specs.Upward.{says_upward}
use Rattle.model.specs.World.{World}
use Rattle.values_by_id.specs.Cells.{value_at}
use Rattle.find.specs.declared.shown.Free.{Free}

-- it is hidden or clips its children
abbrev pub restricts : NodeData → Bool
restricts d = d.hidden || d.clips_children

-- the node, or one above it, does
abbrev pub is_restricted : World → FullNodeId → Bool
is_restricted w id = says_upward restricts w id

-- of each node that is known to be free this is so in this world
abbrev pub AreFree : World → Free → Type 0
AreFree w free = (id : FullNodeId) → value_at free.known id ≡ Some true → is_restricted w id ≡ false
