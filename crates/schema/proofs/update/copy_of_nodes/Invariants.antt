-- So far the copy has the first of the nodes.
use Rattle.std.proofs.Common.{◌≡◌, take}
use Rattle.schema.proofs.update.copy_of_nodes.Given as goal

abbrev pub invariant-loop-entry : goal.invariant-loop-entry
invariant-loop-entry l = l.copy.items ≡ take l.entry-index l.nodes
