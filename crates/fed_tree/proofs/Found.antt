-- What is read of a node that is found, or isn't.
use Rattle.std.proofs.Common.{◌≡◌, Option, Some, None, option_map, option_and_then, refl, sym, ap, ◌∙◌, subst}
use Rattle.std.specs.Prelude.{IsSome}
use Rattle.schema.specs.NodeData.{NodeData}
use Rattle.model.specs.World.{World, HasData, IsNode, data_of}
use Rattle.model.specs.declared.FullNodeId.{FullNodeId}
use Rattle.views.specs.Nodes.{world_at, id_at, data_at, ShowsThe}
use Rattle.views.specs.declared.node.node_ref.NodeRef.{NodeRef}
use Rattle.fed_tree.specs.Reads.{data_in, read_of, IsFound}

abbrev there_is : Option FullNodeId → Type 0
there_is None = ⊥
there_is (Some x) = Unit {0}

none_is : {A : Type 0} (o : Option A) → (IsSome o → ⊥) → o ≡ None
none_is None h = refl
none_is (Some x) h = absurd (h refl)

not_shown : (w : World) (id : FullNodeId) (found : Option NodeRef) → ShowsThe w (λ it. (it ≡ id) × IsNode w it) found → found ≡ None → data_of w id ≡ None
not_shown w id found shows is = none_is (data_of w id) (λ there. none_some (subst (λ (o : Option NodeRef). option_map id_at o ≡ Some id) is ((shows.node id).1 (refl, there))))
  where
    none_some : None ≡ Some id → ⊥
    none_some e = subst there_is (sym e) tt

-- a state that shows the node has it
pub is_shown : (world : Option World) (w : World) (id : FullNodeId) (node : NodeRef) → world ≡ Some w → ShowsThe w (λ it. (it ≡ id) × IsNode w it) (Some node)
    → HasData (world_at node) (id_at node) (data_at node) → IsFound world id (Some node)
is_shown world w id node is shows known =
    let same = ((shows.node (id_at node)).0 refl).0 in
    (is ∙ ap Some (sym shows.world), same, subst (λ (i : FullNodeId). data_of (world_at node) i ≡ Some (data_at node)) same known)

-- and one that doesn't show it has not
pub is_missing : (world : Option World) (w : World) (id : FullNodeId) (found : Option NodeRef) → world ≡ Some w → ShowsThe w (λ it. (it ≡ id) × IsNode w it) found → found ≡ None → data_in world id ≡ None
is_missing world w id found is shows none = ap (λ (o : Option World). data_in o id) is ∙ not_shown w id found shows none

-- of a node that is found
pub read_found : {A : Type 0} (world : Option World) (id : FullNodeId) (node : NodeRef) (says : World → NodeData → Option A) → IsFound world id (Some node) → read_of world id says ≡ says (world_at node) (data_at node)
read_found world id node says found =
    ap (λ (o : Option World). read_of o id says) found.0 ∙ ap (λ (d : Option NodeData). option_and_then (says (world_at node)) d) found.2

pub read_missing : {A : Type 0} (world : Option World) (id : FullNodeId) (says : World → NodeData → Option A) → IsFound world id None → read_of world id says ≡ None
read_missing None id says missing = refl
read_missing (Some w) id says missing = ap (λ (d : Option NodeData). option_and_then (says w) d) missing

-- and its data
pub data_found : (world : Option World) (id : FullNodeId) (node : NodeRef) → IsFound world id (Some node) → data_in world id ≡ Some (data_at node)
data_found world id node found = ap (λ (o : Option World). data_in o id) found.0 ∙ found.2
