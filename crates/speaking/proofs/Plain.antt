-- Booleans, and nodes that are no password.
use Rattle.std.proofs.Common.{◌≡◌, Bool, true, false, not, ◌&&◌, ◌||◌, ap, refl, ◌∙◌}
use Rattle.std.specs.Option.{option_map_or}
use Rattle.schema.specs.NodeData.{NodeData}
use Rattle.schema.specs.declared.Role.{Role}
use Rattle.schema.specs.declared.Role.TheVariants.{PasswordInput}
use Rattle.model.specs.declared.FullNodeId.{FullNodeId}
use Rattle.model.specs.RoleClasses.{is_password_input, is_text_input}
use Rattle.model.specs.TextRuns.{is_password}
use Rattle.model.specs.World.{World, HasData}

pub and_false : (a b : Bool) → (a && b) ≡ false → a ≡ true → b ≡ false
and_false true b e h = e
and_false false b e h = cc

pub not_true : (b : Bool) → not b ≡ true → b ≡ false
not_true true e = absurd (let clash : false ≡ true = e in cc)
not_true false e = refl

pub left_false : (a b : Bool) → (a || b) ≡ false → a ≡ false
left_false true b e = cc
left_false false b e = refl

pub right_false : (a b : Bool) → (a || b) ≡ false → b ≡ false
right_false true b e = cc
right_false false b e = e

no_input : (r : Role) → is_text_input r ≡ false → is_password_input r ≡ false
no_input PasswordInput e = absurd (let clash : true ≡ false = e in cc)
no_input r e = refl

-- a node that is no text input is no password
pub plain_node : (w : World) (id : FullNodeId) (d : NodeData) → HasData w id d → is_text_input d.role ≡ false → is_password w id ≡ false
plain_node w id d h e = ap (λ o. option_map_or (λ (x : NodeData). is_password_input x.role) o false) h ∙ no_input d.role e
