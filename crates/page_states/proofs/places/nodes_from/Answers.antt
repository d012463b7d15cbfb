use Rattle.std.proofs.Common.{◌≡◌, ◌∷◌, sym, subst}
use Rattle.views.specs.Nodes.{world_at, id_at}
use Rattle.page_states.specs.Places.{AreNodes, from_node}
use Rattle.page_states.proofs.Viewed.{are_from}
use Rattle.page_states.proofs.places.nodes_from.Goals as goal

pub returns : goal.returns
returns c =
    let w = world_at c.args.top in
    let items : c.insert.new.self.items ≡ c.args.top ∷ c.in_ok-nodes.nodes.items = c.in_ok-insert.ensures.items in
    subst (AreNodes w (from_node w (id_at c.args.top))) (sym items) (are_from c.args.top c.in_ok-nodes.nodes.items c.in_ok-nodes.ensures)
