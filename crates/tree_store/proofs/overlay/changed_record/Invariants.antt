use Rattle.std.proofs.Common.{◌≡◌, drop}
use Rattle.tree_changes.specs.Changes.{tree_change}
use Rattle.tree_store.proofs.overlay.changed_record.Given as goal

abbrev pub invariant-loop-record : goal.invariant-loop-record
invariant-loop-record l = tree_change l.records l.fn.name ≡ tree_change (drop l.record-index l.records) l.fn.name
