use Rattle.std.proofs.Common.{◌∙◌, ap}
use Rattle.model.specs.Hits.{hit_seen}
use Rattle.views.specs.Nodes.{world_at, id_at}
use Rattle.views.proofs.node.node_ref.NodeRef.node_at_point.Goals as goal

pub returns-clause-exact : goal.returns-clause-exact
returns-clause-exact g c = λ f follows.
    c.hit_below.ensures.exact f follows ∙ ap (hit_seen f (world_at c.args.self.now) (id_at c.args.self.now)) c.unmoved.ensures.is
