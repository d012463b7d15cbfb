use Rattle.std.proofs.Common.{◌≡◌, ℕ, ◌<◌}
use Rattle.std.specs.Prelude.{IsSome, slice_index_or}
use Rattle.schema.specs.declared.TreeId.{TreeId}
use Rattle.tree_changes.specs.declared.look_ups.TreeRecord.{TreeRecord}
use Rattle.tree_store.specs.KeptNames.{name_at, kept_in, HasNoMoreBut}
use Rattle.tree_store.proofs.names.make_names.Given as goal

abbrev pub invariant-loop-record : goal.invariant-loop-record
invariant-loop-record l = record {
  same : (name : TreeId) → kept_in (name_at l.names name) ≡ kept_in (name_at l.initial.names name);
  made : HasNoMoreBut l.records l.initial.names l.names;
  there : (k : ℕ) (d : TreeRecord) → k < l.record-index → IsSome (name_at l.names (slice_index_or l.records k d).id);
}
