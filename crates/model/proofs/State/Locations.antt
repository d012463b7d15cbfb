-- A node of a state is located, and nothing else is.
use Rattle.std.proofs.Common.{◌≡◌, ◌∙◌, Option, Some, None, IsSome, get_or, ap, refl}
use Rattle.schema.specs.declared.TreeId.{TreeId}
use Rattle.schema.specs.NodeData.{NodeData}
use Rattle.std.specs.Option.{option_map}
use Rattle.std.specs.Prelude.{option_and_then}
use Rattle.std.proofs.lemmas.Option.{slice_get-get_or}
use Rattle.model.specs.declared.FullNodeId.{FullNodeId}
use Rattle.model.specs.World.{ROOT_NAME, World, IsNode, data_of, name_of, local_id_of}
use Rattle.model.specs.State.{IsState}
use Rattle.model.proofs.State.StatePlaces.{IsSome_is, value_of}

no_data : (o : Option NodeData) → ¬ (IsSome o) → o ≡ None
no_data None h = refl
no_data (Some d) h = absurd (h (IsSome_is d refl))

node_located : {w : World} → IsState w → (id : FullNodeId) → IsNode w id → (name : TreeId) × (name_of w id.tree ≡ Some name) × (local_id_of w id ≡ Some (id.node, name))
node_located {w} s id there =
    let d = value_of (data_of w id) there in
    let known = slice_get-get_or w.known id.tree ROOT_NAME (s.present_known id.tree (s.node_present id there)) in
    (get_or w.known id.tree ROOT_NAME, known, ap (option_and_then (λ _. option_map (λ n. (id.node, n)) (name_of w id.tree))) d.1 ∙ ap (option_map (λ n. (id.node, n))) known)

other_unlocated : (w : World) (id : FullNodeId) → ¬ (IsNode w id) → local_id_of w id ≡ None
other_unlocated w id away = ap (option_and_then (λ _. option_map (λ n. (id.node, n)) (name_of w id.tree))) (no_data (data_of w id) away)

pub located_or_not : (w : World) → IsState w → (id : FullNodeId) → (IsNode w id → (name : TreeId) × (name_of w id.tree ≡ Some name) × (local_id_of w id ≡ Some (id.node, name))) × (¬ (IsNode w id) → local_id_of w id ≡ None)
located_or_not w s id = (node_located s id, other_unlocated w id)
