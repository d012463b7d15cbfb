use Rattle.std.proofs.Common.{◌≡◌, ◌≢◌, drop}
use Rattle.std.specs.Prelude.{AllPairs}
use Rattle.schema.specs.declared.TreeId.{TreeId}
use Rattle.tree_changes.specs.Changes.{tree_change}
use Rattle.tree_store.specs.KeptNames.{name_at, name_after, HasNames}
use Rattle.tree_store.proofs.names.write_names.Given as goal

abbrev pub invariant-loop-record : goal.invariant-loop-record
invariant-loop-record l = record {
  names : (name : TreeId) → name_after (tree_change (drop l.record-index l.records) name) (name_at l.names name) ≡ name_after (tree_change l.records name) (name_at l.initial.names name);
  there : HasNames l.names (drop l.record-index l.records);
  once : AllPairs (λ a b. a.id ≢ b.id) (drop l.record-index l.records);
}
