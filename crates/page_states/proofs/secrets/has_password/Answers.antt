use Rattle.std.proofs.Common.{◌||◌, ap, ◌∙◌}
use Rattle.page_states.proofs.Opened.{any_more}
use Rattle.page_states.proofs.secrets.has_password.Goals as goal

pub loop-node-preserved : goal.loop-node-preserved
loop-node-preserved c =
    c.either-has_one.ensures ∙ ap (λ b. c.loop-node.has_one || b) c.is_password_input.ensures
    ∙ any_more c.args.nodes.now c.loop-node.node-index c.node-item.result c.loop-node.has_one c.loop-node-test.true c.node-item.is c.loop-node.invariant
