use Rattle.std.proofs.Common.{sym, ap, ◌∙◌, subst}
use Rattle.model.specs.World.{data_of}
use Rattle.tree_changes.specs.LookUps.{IsPlaceOf}
use Rattle.tree_store.specs.StoreViews.{StoreView}
use Rattle.tree_store.proofs.CellLists.{kept_data, kept_place}
use Rattle.tree_store.proofs.Maps.{node_in, get-nodes_shown}
use Rattle.tree_store.proofs.store.Store.kept.Goals as goal

pub returns-clause-data : goal.returns-clause-data
returns-clause-data c = kept_data c.record.result ∙ ap node_in c.record.ensures ∙ sym (get-nodes_shown c.self.inside.tables.nodes c.args.id) ∙ ap (λ (k : StoreView). data_of k.world c.args.id) c.self.view_is

pub returns-clause-place : goal.returns-clause-place
returns-clause-place c = kept_place _ c.record.result _ c.record.ensures (λ x is. subst (λ (k : StoreView). IsPlaceOf k.world c.args.id x.place) c.self.view_is (c.self.invariant.seated.place c.args.id x is))
