use Rattle.std.proofs.Common.{◌≡◌, length}
use Rattle.tree_store.specs.CellLists.{AreFree}
use Rattle.tree_store.proofs.cell_list.free_cells.Given as goal

abbrev pub invariant-loop : goal.invariant-loop
invariant-loop l = record {
  count : length l.cells.items ≡ l.counter;
  free : AreFree l.cells.items;
}
