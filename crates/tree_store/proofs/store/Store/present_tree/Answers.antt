use Rattle.std.proofs.Common.{sym, ap, ◌∙◌}
use Rattle.std.specs.FinMap.{get}
use Rattle.std.specs.Option.{option_map}
use Rattle.std.specs.Prelude.{slice_get, option_and_then}
use Rattle.tree_store.specs.declared.records.KnownTree.{KnownTree}
use Rattle.tree_store.specs.StoreViews.{StoreView}
use Rattle.tree_store.specs.Stored.{tree_of}
use Rattle.tree_store.proofs.Maps.{get-trees}
use Rattle.tree_store.proofs.store.Store.present_tree.Goals as goal

pub returns : goal.returns
returns c =
    ap (option_map tree_of) (c.present_tree.ensures ∙ ap (λ l. option_and_then (λ (k : KnownTree). k.tree) (slice_get l c.args.index)) c.as_slice.ensures.value)
    ∙ sym (get-trees c.self.inside.tables.known.items c.args.index) ∙ ap (λ (k : StoreView). get k.world.trees c.args.index) c.self.view_is
