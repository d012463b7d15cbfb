use Rattle.views.specs.ShownWorlds.{world_of}
use Rattle.views.specs.Nodes.{world_at, id_at}
use Rattle.find.proofs.Freed.{focus_told}
use Rattle.find.proofs.shown.is_focused.Goals as goal

pub returns : goal.returns
returns c = focus_told (world_at c.args.node.now) (world_of c.tree_state.result) c.tree_state.ensures c.know.ensures.state (id_at c.args.node.now) c.is_focused.result c.is_focused.ensures
