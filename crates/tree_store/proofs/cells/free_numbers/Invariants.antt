use Rattle.std.proofs.Common.{◌≤◌, length}
use Rattle.std.specs.Vec.{vec_capacity}
use Rattle.tree_store.proofs.FreeNumbers.{AreFreeBelow}
use Rattle.tree_store.proofs.cells.free_numbers.Given as goal

abbrev pub invariant-loop-number : goal.invariant-loop-number
invariant-loop-number l = record {
  found : AreFreeBelow l.cells.cells l.free.items l.number;
  room : length l.cells.cells ≤ vec_capacity l.free;
}
