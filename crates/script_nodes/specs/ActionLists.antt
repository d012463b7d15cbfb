-- The actions in a set, as a list.
use Rattle.std.specs.Prelude.{Bool, ℕ, zero, suc, ◌-◌, ◌==◌, List, [], ◌∷◌, ◌++◌, if◌then◌else◌}
use Rattle.schema.specs.Actions.{has_action, with_action}
use Rattle.schema.specs.declared.actions.Action.{Action}
use Rattle.schema.specs.declared.actions.Action.TheVariants.{Click, Focus, Increment, Decrement, Other}

-- the action of this number, from 0: those with names, and then the others
unfoldable pub action_numbered : ℕ → Action
action_numbered n =
    if n == 0 then Click
    else if n == 1 then Focus
    else if n == 2 then Increment
    else if n == 3 then Decrement
    else Other (n - 4)

-- an action as a list, if it is one of the set
unfoldable pub chosen : Bool → Action → List Action
chosen is_in action = if is_in then action ∷ [] else []

-- of the first actions those that are in the set
unfoldable pub actions_among : ℕ → ℕ → List Action
actions_among set zero = []
actions_among set (suc n) = actions_among set n ++ chosen (has_action set (action_numbered n)) (action_numbered n)

-- all actions in the set: four have names, and 256 have numbers
unfoldable pub actions_in : ℕ → List Action
actions_in set = actions_among set 260

-- a set with these actions more, one after another
unfoldable pub with_actions : ℕ → List Action → ℕ
with_actions set [] = set
with_actions set (action ∷ others) = with_actions (with_action set action) others
