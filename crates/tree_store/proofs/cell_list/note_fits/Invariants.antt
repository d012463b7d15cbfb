use Rattle.std.proofs.Common.{◌≡◌}
use Rattle.tree_store.proofs.cell_list.note_fits.Given as goal

abbrev pub invariant-loop-at : goal.invariant-loop-at
invariant-loop-at l = l.nodes.items ≡ l.initial.nodes.items
