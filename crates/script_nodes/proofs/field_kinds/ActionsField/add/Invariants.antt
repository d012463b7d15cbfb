use Rattle.std.proofs.Common.{◌≡◌, take}
use Rattle.script_nodes.specs.ActionLists.{with_actions}
use Rattle.script_nodes.specs.FieldKinds.{actions_at, with_actions_field}
use Rattle.script_nodes.proofs.field_kinds.ActionsField.add.Given as goal

-- the actions so far are there
abbrev pub invariant-loop-action : goal.invariant-loop-action
invariant-loop-action l = l.node ≡ with_actions_field l.fn.self (with_actions (actions_at l.fn.self l.initial.node) (take l.action-index l.fn.actions)) l.initial.node
