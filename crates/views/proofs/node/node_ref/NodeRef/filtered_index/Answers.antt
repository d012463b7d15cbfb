use Rattle.views.proofs.Indexed.{in_parent}
use Rattle.views.proofs.node.node_ref.NodeRef.filtered_index.Goals as goal

pub returns : goal.returns
returns g c = in_parent _ c.args.self.now c.in_ok-parent.parent c.index_below.result c.in_ok-parent.ensures.world c.in_ok-parent.ensures.node c.index_below.ensures
