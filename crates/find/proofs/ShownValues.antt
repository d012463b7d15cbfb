-- The value that may be shown of a node that is no password input.
use Rattle.std.proofs.Common.{◌≡◌, ℕ, Bool, true, false, List, Option, None, refl, sym, ap, ◌∙◌}
use Rattle.std.specs.Prelude.{if◌then◌else◌}
use Rattle.std.specs.Option.{option_map_or}
use Rattle.schema.specs.NodeData.{NodeData}
use Rattle.model.specs.declared.FullNodeId.{FullNodeId}
use Rattle.model.specs.RoleClasses.{is_password_input}
use Rattle.model.specs.TextRuns.{is_password}
use Rattle.model.specs.Values.{value_of}
use Rattle.model.specs.World.{World}
use Rattle.views.specs.declared.node.node_ref.NodeRef.{NodeRef}
use Rattle.views.specs.Nodes.{world_at, id_at, data_at}
use Rattle.hidden_texts.specs.Hidden.{hides_value}
use Rattle.hidden_texts.specs.Shown.{password_value, shown_value}

no_password : (n : NodeRef) (b : Bool) → b ≡ is_password_input (data_at n).role → b ≡ false → is_password (world_at n) (id_at n) ≡ false
no_password n b is out = ap (λ o. option_map_or (λ (d : NodeData). is_password_input d.role) o false) n.known ∙ sym is ∙ out

-- its own value, unless that is hidden
abbrev own_shown : World → FullNodeId → Option (List ℕ) → Option (List ℕ)
own_shown w id own = if hides_value w id then None else own

own_is_shown : (w : World) (id : FullNodeId) → is_password w id ≡ false → own_shown w id (value_of w id) ≡ shown_value w id
own_is_shown w id out = ap (λ v. if hides_value w id then None else v) (sym (ap (λ p. if p then password_value w id else value_of w id) out))

pub own_value_shown : (n : NodeRef) (b : Bool) (own : Option (List ℕ)) → b ≡ is_password_input (data_at n).role → b ≡ false → own ≡ value_of (world_at n) (id_at n) →
    (if hides_value (world_at n) (id_at n) then None else own) ≡ shown_value (world_at n) (id_at n)
own_value_shown n b own is out has = ap (own_shown (world_at n) (id_at n)) has ∙ own_is_shown (world_at n) (id_at n) (no_password n b is out)

-- there is nothing to hide
pub none_either_way : (b : Bool) (own : Option (List ℕ)) → own ≡ None → None ≡ (if b then None else own)
none_either_way true own none = refl
none_either_way false own none = sym none
