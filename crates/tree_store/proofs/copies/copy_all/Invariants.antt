use Rattle.std.proofs.Common.{drop}
use Rattle.tree_store.proofs.CopiedSlots.{IsCopied}
use Rattle.tree_store.proofs.copies.copy_all.Given as goal

abbrev pub invariant-loop-id : goal.invariant-loop-id
invariant-loop-id l = IsCopied l.fn.slots (drop l.id-index l.id-items) l.copies.entries
