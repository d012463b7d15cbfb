use Rattle.std.proofs.Common.{◌≡◌, length, drop}
use Rattle.tree_changes.specs.Changes.{put_trees}
use Rattle.tree_store.specs.Stored.{names_shown, trees_shown}
use Rattle.tree_store.proofs.known.write_trees.Given as goal

abbrev pub invariant-loop-record : goal.invariant-loop-record
invariant-loop-record l = record {
  names : names_shown l.known.items ≡ names_shown l.initial.known.items;
  trees : put_trees (trees_shown 0 l.known.items) (drop l.record-index l.records) ≡ put_trees (trees_shown 0 l.initial.known.items) l.records;
  count : length l.known.items ≡ length l.initial.known.items;
}
