use Rattle.std.proofs.Common.{◌∙◌}
use Rattle.views.specs.Nodes.{world_at, id_at}
use Rattle.views.proofs.MoveSums.{without_top}
use Rattle.views.proofs.node.node_ref.NodeRef.whole_move.Goals as goal

pub returns-clause-exact : goal.returns-clause-exact
returns-clause-exact c = c.move_to_top.ensures.exact ∙ without_top (world_at c.args.self) (id_at c.args.self)
