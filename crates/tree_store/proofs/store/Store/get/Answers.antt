use Rattle.std.proofs.Common.{sym, ap, ◌∙◌}
use Rattle.std.specs.Option.{option_copied}
use Rattle.model.specs.World.{data_of}
use Rattle.tree_store.specs.StoreViews.{StoreView}
use Rattle.tree_store.proofs.Maps.{node_in, get-nodes_shown}
use Rattle.tree_store.proofs.store.Store.get.Goals as goal

pub returns : goal.returns
returns c = ap node_in c.in_ok-record.ensures ∙ sym (get-nodes_shown c.self.inside.tables.nodes c.args.id) ∙ ap (λ (k : StoreView). data_of k.world c.args.id) c.self.view_is

pub returns-in_err-record : goal.returns-in_err-record
returns-in_err-record c = ap option_copied c.from_residual.ensures ∙ ap node_in c.in_err-record.ensures ∙ sym (get-nodes_shown c.self.inside.tables.nodes c.args.id) ∙ ap (λ (k : StoreView). data_of k.world c.args.id) c.self.view_is
