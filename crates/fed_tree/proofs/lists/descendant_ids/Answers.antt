use Rattle.std.proofs.Common.{◌∙◌}
use Rattle.std.proofs.lemmas.Result.{IfOk-weaker}
use Rattle.views.specs.Nodes.{world_at}
use Rattle.views.specs.AllNodes.{descendants_left}
use Rattle.fed_tree.proofs.Listing.{gives_listed}
use Rattle.fed_tree.proofs.lists.descendant_ids.Goals as goal

pub returns : goal.returns
returns c = IfOk-weaker c.ids_of.result _ _ (λ ids h. h.2 ∙ gives_listed descendants_left (world_at c.args.node) _ c.descendants.result h.0 c.descendants.ensures h.1) c.ids_of.ensures
