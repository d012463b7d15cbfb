use Rattle.views.specs.Nodes.{world_at, id_at}
use Rattle.views.proofs.EachNode.{begins_on, begins_with}
use Rattle.views.proofs.walks.descendants.Descendants.new.Goals as goal

pub invariant_of-result : goal.invariant_of-result
invariant_of-result c = record { known = begins_on (world_at c.args.node) (id_at c.args.node) c.inside.result c.inside.ensures }

pub returns : goal.returns
returns c = begins_with (world_at c.args.node) (id_at c.args.node) c.inside.result c.inside.ensures
