use Rattle.std.proofs.Common.{refl}
use Rattle.views.specs.Nodes.{world_at}
use Rattle.views.specs.Deepest.{first_shown}
use Rattle.views.proofs.node.node_ref.NodeRef.deepest_first_filtered_child.Goals as goal

pub returns-clause-exact : goal.returns-clause-exact
returns-clause-exact g c = λ f follows. c.deepest.ensures.exact (first_shown f (world_at c.args.self)) (f, follows, refl)
