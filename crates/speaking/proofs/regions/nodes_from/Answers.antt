use Rattle.std.proofs.Common.{◌≡◌, ◌∷◌, sym, subst}
use Rattle.model.specs.Lists.{preorder}
use Rattle.views.specs.Nodes.{world_at, id_at}
use Rattle.speaking.specs.Regions.{AreViews}
use Rattle.speaking.proofs.Viewed.{views_from}
use Rattle.speaking.proofs.regions.nodes_from.Goals as goal

pub returns : goal.returns
returns c =
    let w = world_at c.args.top in
    let items : c.insert.new.self.items ≡ c.args.top ∷ c.in_ok-nodes.nodes.items = c.in_ok-insert.ensures.items in
    subst (AreViews w (preorder w (id_at c.args.top))) (sym items) (views_from c.args.top c.in_ok-nodes.nodes.items c.in_ok-nodes.ensures)
