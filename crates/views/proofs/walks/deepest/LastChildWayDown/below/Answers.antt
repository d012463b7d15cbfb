use Rattle.std.proofs.Common.{◌-◌}
use Rattle.views.specs.ShownWorlds.{world_of}
use Rattle.views.proofs.Depths.{child_deeper}
use Rattle.views.proofs.walks.deepest.LastChildWayDown.below.Goals as goal

pub returns-clause-deeper : goal.returns-clause-deeper
returns-clause-deeper c = child_deeper (world_of c.args.state) c.know.ensures.formed c.args.node.id (c.child_count-count.result - 1) c.child.result c.child.ensures.there
