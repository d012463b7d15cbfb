use Rattle.std.proofs.Common.{drop, ◌+◌, get_or, sym, ap, subst, ◌∙◌}
use Rattle.std.specs.BTreeMap.{BTreeMap}
use Rattle.std.specs.Option.{option_map}
use Rattle.tree_store.specs.CellLists.{record_kept}
use Rattle.model.specs.declared.FullNodeId.{FullNodeId}
use Rattle.tree_store.specs.declared.copies.MirrorRecord.{MirrorRecord}
use Rattle.tree_store.specs.Copied.{copy_at}
use Rattle.tree_store.proofs.WrittenSlots.{step_at}
use Rattle.tree_store.proofs.CopiedSlots.{IsCopied, none_copied, one_copied, skipped}
use Rattle.tree_store.proofs.copies.copy_all.Goals as goal
use Rattle.tree_store.proofs.copies.copy_all.Goals.{in-Some+in_ok-copy+in_ok-insert, in_default}

pub loop-id-init : goal.loop-id-init
loop-id-init c =
    subst (λ rest. IsCopied c.args.slots.now rest c.new-copies.result.entries) (sym (c.deref-id-items.ensures.value ∙ c.in_ok-ids.ensures))
    (none_copied c.args.slots.now c.new-copies.result.entries (λ q. ap (λ es. copy_at es q) c.new-copies.ensures.empty))

pub loop-id-preserved : goal.loop-id-preserved
loop-id-preserved c =
    let d : FullNodeId = record { tree = 0; node = record { 0 = 0 } } in
    let ids = c.deref-id-items.result.now in
    let k = c.loop-id.id-index in
    let slots = c.args.slots.now in
    let left = subst (λ rest. IsCopied slots rest c.loop-id.copies.entries) (step_at ids k d c.loop-id-test.true) c.loop-id.invariant in
    elim c.match-record.branch [
      | in-Some+in_ok-copy+in_ok-insert w ↦ one_copied slots (get_or ids k d) (drop (k + 1) ids) c.loop-id.copies.entries left
          (record_kept w.in-Some.record) w.in_ok-copy.copy c.match-record.copies.entries (sym w.in-Some.ensures) w.in_ok-copy.ensures
          (λ q. ap (λ (m : BTreeMap FullNodeId MirrorRecord). copy_at m.entries q) w.copies-is ∙ w.in_ok-insert.ensures.updates.0 q)
      | in_default w ↦ subst (λ (m : BTreeMap FullNodeId MirrorRecord). IsCopied slots (drop (k + 1) ids) m.entries) (sym w.copies-is)
          (skipped slots (get_or ids k d) (drop (k + 1) ids) c.loop-id.copies.entries left (sym c.record.ensures ∙ ap (option_map record_kept) w.in_default.is))
    ]
