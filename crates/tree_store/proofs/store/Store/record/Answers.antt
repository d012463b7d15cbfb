use Rattle.std.proofs.Common.{sym, ap, ◌∙◌, subst}
use Rattle.std.specs.Prelude.{is_some}
use Rattle.model.specs.World.{data_of}
use Rattle.tree_changes.specs.LookUps.{IsPlaceOf}
use Rattle.tree_store.specs.StoreViews.{StoreView}
use Rattle.tree_store.specs.CellLists.{record_kept}
use Rattle.tree_store.proofs.Maps.{node_in, get-nodes_shown}
use Rattle.tree_store.proofs.store.Store.record.Goals as goal

pub returns-clause-found : goal.returns-clause-found
returns-clause-found c = ap is_some (ap node_in c.in_ok-record.ensures ∙ sym (get-nodes_shown c.self.inside.tables.nodes c.args.id) ∙ ap (λ (k : StoreView). data_of k.world c.args.id) c.self.view_is)

pub returns-clause-given : goal.returns-clause-given
returns-clause-given c = record {
  node = sym (ap node_in c.in_ok-record.ensures ∙ sym (get-nodes_shown c.self.inside.tables.nodes c.args.id) ∙ ap (λ (k : StoreView). data_of k.world c.args.id) c.self.view_is);
  place = subst (λ (k : StoreView). IsPlaceOf k.world c.args.id c.in_ok-record.record.place.now) c.self.view_is (c.self.invariant.seated.place c.args.id (record_kept c.in_ok-record.record) (sym c.in_ok-record.ensures));
}

pub returns-in_err-record-clause-found : goal.returns-in_err-record-clause-found
returns-in_err-record-clause-found c = ap is_some c.from_residual.ensures ∙ ap is_some (ap node_in c.in_err-record.ensures ∙ sym (get-nodes_shown c.self.inside.tables.nodes c.args.id) ∙ ap (λ (k : StoreView). data_of k.world c.args.id) c.self.view_is)
