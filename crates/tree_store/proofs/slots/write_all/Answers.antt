use Rattle.std.proofs.Common.{drop, ◌+◌, get_or, None, sym, ap, subst, ◌∙◌}
use Rattle.std.specs.List.Sorted.{IsStrictlySortedBy}
use Rattle.std.specs.Map.{keys_of}
use Rattle.model.specs.declared.FullNodeId.{FullNodeId}
use Rattle.model.specs.FullIds.{full_cmp}
use Rattle.tree_changes.specs.declared.decision.NodeChange.{NodeChange}
use Rattle.tree_changes.specs.declared.decision.NodeChange.TheVariants.{Put}
use Rattle.tree_changes.specs.Changes.{NodeChanges, change_at}
use Rattle.tree_store.specs.Cells.{record_at}
use Rattle.tree_store.specs.Commits.{changed_record, HasRoomFor, AreEntriesApart}
use Rattle.tree_store.proofs.WrittenSlots.{HasEntriesOf, step_at, slot_here, next_records, next_room, next_sorted, next_entries, next_apart}
use Rattle.tree_store.proofs.slots.write_all.Goals as goal

pub write-requires-clause-slot : goal.write-requires-clause-slot
write-requires-clause-slot c =
    let d : FullNodeId × NodeChange = (record { tree = 0; node = record { 0 = 0 } }, Put None None) in
    let step = step_at c.args.changes.now c.loop-change.change-index d c.loop-change-test.true in
    let i = c.loop-change.invariant in
    slot_here c.args.nodes.now.items c.loop-change.nodes.items c.loop-change.nodes.items c.loop-change.slots c.loop-change.slots (get_or c.args.changes.now c.loop-change.change-index d) _
    (subst (HasRoomFor c.loop-change.slots) step i.room) (subst (λ (cs : NodeChanges). IsStrictlySortedBy full_cmp (keys_of cs)) step i.sorted)
    (subst (HasEntriesOf c.args.nodes.now.items c.loop-change.nodes.items) step i.entries) (subst AreEntriesApart step i.apart)

pub loop-change-preserved : goal.loop-change-preserved
loop-change-preserved c =
    let d : FullNodeId × NodeChange = (record { tree = 0; node = record { 0 = 0 } }, Put None None) in
    let step = step_at c.args.changes.now c.loop-change.change-index d c.loop-change-test.true in
    let i = c.loop-change.invariant in
    let first = c.args.nodes.now.items in
    let now = c.loop-change.nodes.items in
    let later = c.write.new.nodes.items in
    let es = c.loop-change.slots in
    let fs = c.write.new.slots in
    let e = get_or c.args.changes.now c.loop-change.change-index d in
    let rest = drop (c.loop-change.change-index + 1) c.args.changes.now in
    let room = subst (HasRoomFor es) step i.room in
    let sorted = subst (λ (cs : NodeChanges). IsStrictlySortedBy full_cmp (keys_of cs)) step i.sorted in
    let entries = subst (HasEntriesOf first now) step i.entries in
    let apart = subst AreEntriesApart step i.apart in
    let w = c.write.ensures in
    record {
      records = λ q.
          next_records first now later es fs e rest room sorted entries apart w.records w.tight w.nodes w.count q
          ∙ ap (λ (cs : NodeChanges). changed_record first (change_at cs q) (record_at es q)) (sym step)
          ∙ i.records q;
      room = next_room first now later es fs e rest room sorted entries apart w.records w.tight w.nodes w.count;
      sorted = next_sorted first now later es fs e rest room sorted entries apart w.records w.tight w.nodes w.count;
      entries = next_entries first now later es fs e rest room sorted entries apart w.records w.tight w.nodes w.count;
      apart = next_apart first now later es fs e rest room sorted entries apart w.records w.tight w.nodes w.count;
    }
