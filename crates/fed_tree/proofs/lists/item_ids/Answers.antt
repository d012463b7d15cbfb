use Rattle.std.proofs.Common.{◌∙◌, rules}
use Rattle.std.proofs.lemmas.Result.{IfOk-weaker}
use Rattle.model.specs.Filters.{filter_named}
use Rattle.views.specs.Nodes.{world_at}
use Rattle.views.specs.FilteredWalks.{items_walk}
use Rattle.views.proofs.Drained.{gives_all}
use Rattle.fed_tree.proofs.lists.item_ids.Goals as goal

pub returns : goal.returns
returns c =
    let w = world_at c.args.node in
    IfOk-weaker c.ids_of.result _ _ (λ ids h. h.2 ∙ gives_all _ items_walk _ w (filter_named c.args.filter w) (search rules) _ c.items.result h.0 c.items.ensures.filter c.items.ensures.begins h.1) c.ids_of.ensures
