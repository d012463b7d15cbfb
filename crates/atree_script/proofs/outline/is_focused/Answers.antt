use Rattle.std.proofs.Common.{subst}
use Rattle.std.proofs.lemmas.Bool.Decides.{same_from_decides}
use Rattle.model.specs.State.{IsState}
use Rattle.model.specs.FocusFound.{is_focused}
use Rattle.model.proofs.Focus.FocusIsFound.{focused_node_is_found}
use Rattle.views.specs.Nodes.{world_at, id_at}
use Rattle.atree_script.proofs.outline.is_focused.Goals as goal

pub returns : goal.returns
returns c =
    let w = world_at c.args.node in
    let id = id_at c.args.node in
    same_from_decides c.is_focused.result (is_focused w id) c.is_focused.ensures (focused_node_is_found w (subst IsState c.tree_state.ensures c.know.ensures.state) id)
