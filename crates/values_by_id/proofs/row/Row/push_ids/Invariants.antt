use Rattle.std.proofs.Common.{◌≡◌, ◌++◌, take}
use Rattle.std.specs.Map.{keys_of}
use Rattle.values_by_id.specs.Cells.{row_entries}
use Rattle.values_by_id.proofs.row.Row.push_ids.Given as goal

abbrev pub invariant-loop-index : goal.invariant-loop-index
invariant-loop-index g l = l.ids.items ≡ l.initial.ids.items ++ keys_of (row_entries l.tree 0 (take l.index l.cell-items))
