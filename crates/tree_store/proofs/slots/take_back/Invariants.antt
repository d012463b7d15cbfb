use Rattle.std.proofs.Common.{◌≡◌, drop}
use Rattle.std.specs.Prelude.{◌||◌, is_some, IsTrue}
use Rattle.model.specs.declared.FullNodeId.{FullNodeId}
use Rattle.tree_changes.specs.Changes.{change_at}
use Rattle.tree_store.specs.Cells.{slot_at, record_at}
use Rattle.tree_store.proofs.slots.take_back.Given as goal

abbrev pub invariant-loop-change : goal.invariant-loop-change
invariant-loop-change l = record {
  same : (q : FullNodeId) → record_at l.slots q ≡ record_at l.initial.slots q;
  left : (q : FullNodeId) → IsTrue (is_some (slot_at l.slots q)) → IsTrue (is_some (record_at l.initial.slots q) || is_some (change_at (drop l.change-index l.changes) q));
}
