use Rattle.views.specs.ShownWorlds.{world_of}
use Rattle.views.specs.Nodes.{world_at, id_at}
use Rattle.page_states.proofs.Focused.{focus_tested}
use Rattle.page_states.proofs.carried.is_focused.Goals as goal

pub returns : goal.returns
returns c = focus_tested (world_at c.args.node) (world_of c.tree_state.result) c.tree_state.ensures c.know.ensures.state (id_at c.args.node) c.is_focused.result c.is_focused.ensures
