use Rattle.std.proofs.Common.{sym, ap, subst, ◌∙◌}
use Rattle.std.specs.Prelude.{slice_get, option_and_then}
use Rattle.tree_changes.specs.LookUps.{IsTreeRecord}
use Rattle.tree_store.specs.declared.records.KnownTree.{KnownTree}
use Rattle.tree_store.specs.StoreViews.{StoreView}
use Rattle.tree_store.specs.Shown.{world_shown}
use Rattle.tree_store.proofs.KeptReads.{stored_record}
use Rattle.tree_store.proofs.store.Store.tree.Goals as goal

pub returns : goal.returns
returns c =
    subst (λ (k : StoreView). IsTreeRecord k.world c.args.name c.tree_record.result) c.self.view_is
    (subst (λ r. IsTreeRecord (world_shown c.self.inside) c.args.name r) (sym c.tree_record.ensures)
    (stored_record c.self.inside c.args.name c.name_record-found.result c.index_in-index.result c.graft_in.result c.tree_in-tree.result c.self.invariant.names c.name_record-found.ensures c.index_in-index.ensures c.graft_in.ensures
    (c.tree_in-tree.ensures ∙ ap (λ l. option_and_then (λ i. option_and_then (λ (k : KnownTree). k.tree) (slice_get l i)) c.index_in-index.result) c.as_slice.ensures.value)))
