use Rattle.std.proofs.Common.{◌≡◌}
use Rattle.script_nodes.specs.ActionLists.{actions_among}
use Rattle.script_nodes.specs.FieldKinds.{actions_at}
use Rattle.script_nodes.proofs.field_kinds.ActionsField.of.Given as goal

-- the actions so far are there
abbrev pub invariant-loop-number : goal.invariant-loop-number
invariant-loop-number l = l.actions.items ≡ actions_among (actions_at l.fn.self l.node) l.number
