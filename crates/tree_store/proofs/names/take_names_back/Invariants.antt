use Rattle.std.proofs.Common.{◌≡◌, ℕ, ◌<◌}
use Rattle.std.specs.Prelude.{slice_index_or}
use Rattle.schema.specs.declared.TreeId.{TreeId}
use Rattle.tree_changes.specs.declared.look_ups.TreeRecord.{TreeRecord}
use Rattle.tree_store.specs.KeptNames.{name_at, kept_in, HasNoMore, IsNoBlank}
use Rattle.tree_store.proofs.names.take_names_back.Given as goal

abbrev pub invariant-loop-record : goal.invariant-loop-record
invariant-loop-record l = record {
  same : (name : TreeId) → kept_in (name_at l.names name) ≡ kept_in (name_at l.initial.names name);
  fewer : HasNoMore l.initial.names l.names;
  taken : (k : ℕ) (d : TreeRecord) → k < l.record-index → IsNoBlank (name_at l.names (slice_index_or l.records k d).id);
}
