use Rattle.std.proofs.Common.{refl, sym, ◌∙◌}
use Rattle.model.specs.RoleClasses.{is_password_input}
use Rattle.views.specs.AllNodes.{descendants_left}
use Rattle.views.specs.Nodes.{world_at}
use Rattle.views.specs.PlainWalks.{node_of}
use Rattle.views.proofs.Climbing.{says_shown}
use Rattle.hidden_texts.specs.Walked.{is_password_node}
use Rattle.hidden_texts.proofs.Anys.{first_passes, others_pass, none_passes}
use Rattle.hidden_texts.proofs.hiding.has_password_input.Goals as goal

pub returns-then-is_password_input : goal.returns-then-is_password_input
returns-then-is_password_input c =
    let n = c.in-Some.node in
    first_passes is_password_node (descendants_left c.loop-node.nodes) (descendants_left c.next.new.self) (node_of n) c.in-Some.ensures.steps
    (says_shown (λ d. is_password_input d.role) (world_at n) n refl ∙ sym c.is_password_input.ensures ∙ c.if-is_password_input.true)
    ∙ c.loop-node.invariant

pub loop-node-preserved : goal.loop-node-preserved
loop-node-preserved c =
    let n = c.in-Some.node in
    others_pass is_password_node (descendants_left c.loop-node.nodes) (descendants_left c.next.new.self) (node_of n) c.in-Some.ensures.steps
    (says_shown (λ d. is_password_input d.role) (world_at n) n refl ∙ sym c.is_password_input.ensures ∙ c.if-is_password_input.false)
    ∙ c.loop-node.invariant

pub returns : goal.returns
returns c = none_passes is_password_node (descendants_left c.loop-node.nodes) c.in_default.ensures.steps.0 ∙ c.loop-node.invariant
