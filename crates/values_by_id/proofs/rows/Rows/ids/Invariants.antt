use Rattle.std.proofs.Common.{◌≡◌, take}
use Rattle.std.specs.Map.{keys_of}
use Rattle.values_by_id.specs.Cells.{cell_entries}
use Rattle.values_by_id.proofs.rows.Rows.ids.Given as goal

abbrev pub invariant-loop-index : goal.invariant-loop-index
invariant-loop-index g l = l.ids.items ≡ keys_of (cell_entries 0 (take l.index l.row-items))
