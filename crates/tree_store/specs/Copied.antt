-- Copies of the records of a state's nodes.
use Rattle.std.specs.Prelude.{List, Option, Some, None}
use Rattle.std.specs.Map.{lookup}
use Rattle.std.specs.BTreeMap.{is_at}
use Rattle.model.specs.declared.FullNodeId.{FullNodeId}
use Rattle.model.specs.FullIds.{full_cmp}
use Rattle.model.specs.World.{World, IsNode, HasData}
use Rattle.tree_changes.specs.LookUps.{IsPlaceOf}
use Rattle.tree_store.specs.Cells.{Record}
use Rattle.tree_store.specs.declared.copies.MirrorRecord.{MirrorRecord}

abbrev pub copy_of : Record → MirrorRecord
copy_of r = record { place = r.place; node = r.node }

-- the copy of an id
abbrev pub copy_at : List (FullNodeId × MirrorRecord) → FullNodeId → Option MirrorRecord
copy_at es id = lookup (is_at (full_cmp id)) es

-- the node's place and data, or none if it doesn't exist
abbrev pub IsCopyOf : World → FullNodeId → Option MirrorRecord → Type 0
IsCopyOf w id None = ¬ (IsNode w id)
IsCopyOf w id (Some r) = IsPlaceOf w id r.place × HasData w id r.node
