-- Whether a node that is seen is wanted.
use Rattle.std.proofs.Common.{◌≡◌, Option, Some, sym, ap, subst, ◌∙◌}
use Rattle.std.specs.Prelude.{Bool, false, ◌&&◌}
use Rattle.std.specs.Option.{option_and_then, option_map_or}
use Rattle.schema.specs.NodeData.{NodeData}
use Rattle.model.specs.declared.FullNodeId.{FullNodeId}
use Rattle.model.specs.World.{World, data_of}
use Rattle.model.specs.Upward.{field_at}
use Rattle.views.specs.declared.node.node_ref.NodeRef.{NodeRef}
use Rattle.views.specs.Nodes.{world_at, id_at, data_at}
use Rattle.find.specs.Wanted.{Sought, has_role, has_texts, is_wanted}

-- one that is seen is, if its role and its texts are
pub seen_is_wanted : (sought : Sought) (w : World) (id : FullNodeId) (n : NodeRef) (b : Bool) → world_at n ≡ w → id_at n ≡ id → b ≡ has_role sought (data_at n) →
    is_wanted sought w id ≡ b && has_texts sought (world_at n) (id_at n)
seen_is_wanted sought w id n b same is roled =
    let known : data_of w (id_at n) ≡ Some (data_at n) = subst (λ v. data_of v (id_at n) ≡ Some (data_at n)) same n.known in
    let here : is_wanted sought w (id_at n) ≡ b && has_texts sought w (id_at n) =
    ap (λ o. option_map_or (has_role sought) o false && has_texts sought w (id_at n)) known ∙ ap (λ x. x && has_texts sought w (id_at n)) (sym roled) in
    subst (λ i. is_wanted sought w i ≡ b && has_texts sought w (id_at n)) is here ∙ ap (λ v. b && has_texts sought v (id_at n)) (sym same)

-- a field of a node that is seen
pub field_seen : {A : Type 0} (field : NodeData → Option A) (n : NodeRef) → field (data_at n) ≡ field_at field (world_at n) (id_at n)
field_seen field n = sym (ap (λ o. option_and_then field o) n.known)
