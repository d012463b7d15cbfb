-- The list of actions in a set, one number after another.
use Rattle.std.proofs.Common.{◌≡◌, ℕ, ◌+◌, [], ◌++◌, refl, add-one}
use Rattle.schema.specs.Actions.{has_action}
use Rattle.script_nodes.specs.ActionLists.{action_numbered, actions_among, chosen}

pub no_actions : (set : ℕ) → actions_among set 0 ≡ []
unfolding actions_among
no_actions set = refl

pub one_more_action : (set n : ℕ) → actions_among set (n + 1) ≡ actions_among set n ++ chosen (has_action set (action_numbered n)) (action_numbered n)
unfolding actions_among
one_more_action set n = rw add-one refl
