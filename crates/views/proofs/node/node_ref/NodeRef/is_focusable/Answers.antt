use Rattle.std.proofs.Common.{◌∙◌, sym, ap, ◌||◌}
use Rattle.model.specs.FocusFound.{is_focused_in_tree}
use Rattle.views.specs.Nodes.{world_at, id_at}
use Rattle.views.proofs.FocusTests.{tested_in_tree}
use Rattle.views.proofs.node.node_ref.NodeRef.is_focusable.Goals as goal

pub returns-else-supports_action : goal.returns-else-supports_action
returns-else-supports_action g c = λ f follows.
    let w = world_at c.args.self.now in
    let id = id_at c.args.self.now in
    tested_in_tree w c.know.ensures.state id c.is_focused_in_tree.result c.is_focused_in_tree.ensures
    ∙ sym (ap (λ b. b || is_focused_in_tree w id) (sym (c.supports_action.ensures f follows) ∙ c.if-supports_action.false))
