-- Sets of actions, and all fields of a node, are within their bounds.
use Rattle.std.proofs.Common.{◌≡◌, ℕ, ◌<◌, ◌^◌, List, All, Bor, map, arith, refl, subst}
use Rattle.std.proofs.Math.Pow.{pow-lt}
use Rattle.std.proofs.lemmas.List.Elements.{All-map}
use Rattle.std.proofs.lemmas.Nat.{or_lt}
use Rattle.schema.specs.Actions.{action_number, with_action}
use Rattle.schema.specs.NodeData.{NodeData}
use Rattle.schema.specs.declared.actions.Action.{Action}
use Rattle.schema.specs.declared.actions.Action.TheVariants as action
use Rattle.script_nodes.specs.NodeReading.{IsActionSet, IsValue}
use Rattle.script_nodes.specs.FieldKinds.{all_fields}
use Rattle.script_nodes.specs.declared.field_kinds.Field.{Field}
use Rattle.script_nodes.proofs.FieldNames.{each}
use Rattle.script_words.specs.Reading.{IsAction}

-- ---- one more action

is_below : (a : Action) → IsAction a → action_number a < 260
is_below action.Click h = omega arith
is_below action.Focus h = omega arith
is_below action.Increment h = omega arith
is_below action.Decrement h = omega arith
is_below (action.Other code) h = omega (arith, h code refl)

pub with_action_fits : (set : ℕ) (a : Action) → IsActionSet set → IsAction a → IsActionSet (with_action set a)
with_action_fits set a fits h = or_lt 260 set (2 ^ action_number a) fits (pow-lt (is_below a h))

-- ---- all fields, as a table has them

pub each_value : (n : NodeData) (table : List (Bor (List ℕ) × Field)) → map (λ e. e.1) table ≡ all_fields → All (λ e. IsValue e.1 n) table → (which : Field) → IsValue which n
each_value n table all h which =
    each (λ f. IsValue f n) (subst (All (λ f. IsValue f n)) all (All-map (λ f. IsValue f n) (λ e. e.1) table h)) which
