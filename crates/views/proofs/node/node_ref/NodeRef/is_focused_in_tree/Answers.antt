use Rattle.views.specs.Nodes.{world_at, id_at}
use Rattle.views.proofs.Focusing.{is_effective}
use Rattle.views.proofs.node.node_ref.NodeRef.is_focused_in_tree.Goals as goal

pub returns : goal.returns
returns c = is_effective (world_at c.args.self.now) (id_at c.args.self.now) c.focus_id_in_tree.result c.is_same.result c.focus_id_in_tree.ensures c.is_same.ensures
