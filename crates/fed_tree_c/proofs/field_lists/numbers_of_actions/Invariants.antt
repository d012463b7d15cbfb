use Rattle.std.proofs.Common.{◌≡◌, map}
use Rattle.std.specs.Prelude.{take}
use Rattle.fed_tree_c.specs.Fields.{action_number}
use Rattle.fed_tree_c.proofs.field_lists.numbers_of_actions.Given as goal

abbrev pub invariant-loop-action : goal.invariant-loop-action
invariant-loop-action l = l.numbers.items ≡ map action_number (take l.action-index l.fn.actions)
