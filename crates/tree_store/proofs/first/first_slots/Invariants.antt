use Rattle.std.proofs.Common.{◌≡◌, drop, map, None}
use Rattle.model.specs.declared.FullNodeId.{FullNodeId}
use Rattle.tree_changes.specs.Changes.{change_at}
use Rattle.tree_store.specs.Cells.{record_at, HasOwnCells}
use Rattle.tree_store.specs.CellLists.{slots_over, HasCellsForAll}
use Rattle.tree_store.specs.Commits.{changed_record}
use Rattle.tree_store.proofs.Placed.{AreLeft}
use Rattle.tree_store.proofs.first.first_slots.Given as goal

abbrev pub invariant-loop-change : goal.invariant-loop-change
invariant-loop-change l = record {
  records : (q : FullNodeId) → changed_record l.fn.nodes.items (change_at (drop l.change-index l.changes) q) (record_at (slots_over l.index l.cells) q) ≡ changed_record l.fn.nodes.items (change_at l.changes q) None;
  left : AreLeft (slots_over l.index l.cells) (drop l.change-index l.changes);
  own : HasOwnCells (slots_over l.index l.cells);
  count : HasCellsForAll l.cells;
  nodes : l.cells.nodes ≡ map (λ e. e.1) l.fn.nodes.items;
}
