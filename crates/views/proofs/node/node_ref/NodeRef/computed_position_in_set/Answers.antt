use Rattle.std.proofs.Common.{sym}
use Rattle.views.specs.Nodes.{world_at, id_at, data_at}
use Rattle.views.proofs.Counting.{index_there, position_is}
use Rattle.views.proofs.node.node_ref.NodeRef.computed_position_in_set.Goals as goal

pub returns : goal.returns
returns g c = λ f follows.
    let n = c.args.self.now in
    position_is f (world_at n) c.know.ensures.formed (id_at n) c.in_ok-top.top.id (data_at n) c.index_shown.result n.known (sym c.in_default.ensures) (c.in_ok-top.ensures.exact f follows)
    (index_there c.view.result (world_at n) (id_at n) c.in_ok-top.top.id (data_at n).role c.role.result c.index_shown.result c.view.ensures.world c.view.ensures.id c.role.ensures c.index_shown.ensures f follows)
