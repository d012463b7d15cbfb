use Rattle.std.proofs.Common.{sym}
use Rattle.views.specs.Nodes.{world_at, id_at, data_at}
use Rattle.views.proofs.Counting.{count_there, size_is}
use Rattle.views.proofs.node.node_ref.NodeRef.computed_size_of_set.Goals as goal

pub returns : goal.returns
returns g c = λ f follows.
    let n = c.args.self.now in
    size_is f (world_at n) (id_at n) c.in_ok-top.top.id (data_at n) c.count_shown.result n.known (sym c.in_default.ensures) (c.in_ok-top.ensures.exact f follows)
    (count_there c.view.result (world_at n) c.in_ok-top.top.id (data_at n).role c.role.result c.count_shown.result c.view.ensures.world c.view.ensures.id c.role.ensures c.count_shown.ensures f follows)
