use Rattle.std.proofs.Common.{◌≡◌, []}
use Rattle.script_nodes.specs.ActionLists.{actions_among}
use Rattle.script_nodes.specs.FieldKinds.{actions_at}
use Rattle.script_nodes.proofs.field_kinds.ActionsField.is_in.Given as goal

-- none of the actions so far is in the set
abbrev pub invariant-loop-number : goal.invariant-loop-number
invariant-loop-number l = actions_among (actions_at l.fn.self l.node) l.number ≡ []
