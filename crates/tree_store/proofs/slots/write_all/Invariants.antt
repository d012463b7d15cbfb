use Rattle.std.proofs.Common.{◌≡◌, map, drop}
use Rattle.std.specs.List.Sorted.{IsStrictlySortedBy}
use Rattle.model.specs.declared.FullNodeId.{FullNodeId}
use Rattle.model.specs.FullIds.{full_cmp}
use Rattle.tree_changes.specs.Changes.{change_at}
use Rattle.tree_store.specs.Cells.{record_at}
use Rattle.tree_store.specs.Commits.{changed_record, AreEntriesApart, HasRoomFor}
use Rattle.tree_store.proofs.WrittenSlots.{HasEntriesOf}
use Rattle.tree_store.proofs.slots.write_all.Given as goal

abbrev pub invariant-loop-change : goal.invariant-loop-change
invariant-loop-change l = record {
  records : (q : FullNodeId) → changed_record l.initial.nodes.items (change_at (drop l.change-index l.changes) q) (record_at l.slots q) ≡ changed_record l.initial.nodes.items (change_at l.changes q) (record_at l.initial.slots q);
  room : HasRoomFor l.slots (drop l.change-index l.changes);
  sorted : IsStrictlySortedBy full_cmp (map (λ e. e.0) (drop l.change-index l.changes));
  entries : HasEntriesOf l.initial.nodes.items l.nodes.items (drop l.change-index l.changes);
  apart : AreEntriesApart (drop l.change-index l.changes);
}
