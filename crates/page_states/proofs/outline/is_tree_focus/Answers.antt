use Rattle.std.proofs.Common.{subst}
use Rattle.model.specs.State.{IsState}
use Rattle.views.specs.Nodes.{world_at, id_at}
use Rattle.views.proofs.FocusTests.{tested_in_tree}
use Rattle.page_states.proofs.outline.is_tree_focus.Goals as goal

pub returns : goal.returns
returns c =
    let w = world_at c.args.node in
    tested_in_tree w (subst IsState c.tree_state.ensures c.know.ensures.state) (id_at c.args.node) c.is_focused_in_tree.result c.is_focused_in_tree.ensures
