use Rattle.std.proofs.Common.{ap, sym, ◌∙◌}
use Rattle.script_nodes.specs.FieldKinds.{actions_at, with_actions_field}
use Rattle.script_nodes.proofs.ActionSets.{gains_next, given_same, no_more}
use Rattle.script_nodes.proofs.field_kinds.ActionsField.add.Goals as goal

pub loop-action-init : goal.loop-action-init
loop-action-init c = sym (ap (λ set. with_actions_field c.args.self set c.args.node.now) (no_more (actions_at c.args.self c.args.node.now)) ∙ given_same c.args.self c.args.node.now)

pub loop-action-preserved : goal.loop-action-preserved
loop-action-preserved c =
    gains_next c.args.self c.args.node.now c.args.actions.now c.loop-action.action-index _ _ _ c.loop-action-test.true c.loop-action.invariant c.add_one.ensures.value
