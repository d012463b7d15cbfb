-- A node that is there is found by its id.
use Rattle.std.proofs.Common.{◌≡◌, Option, Some, None, refl, ap, subst}
use Rattle.std.specs.Prelude.{IsSome, IfSome}
use Rattle.std.specs.Option.{option_map}
use Rattle.std.proofs.lemmas.Option.{none-some}
use Rattle.model.specs.declared.FullNodeId.{FullNodeId}
use Rattle.model.specs.World.{World, IsNode}
use Rattle.views.specs.declared.node.node_ref.NodeRef.{NodeRef}
use Rattle.views.specs.Nodes.{world_at, id_at, ShowsThe, IsView}

module _ (w : World) (id : FullNodeId) where
  pub is_there : (found : Option NodeRef) → ShowsThe w (λ it. (it ≡ id) × IsNode w it) found → IsNode w id → IsSome found
  is_there None shows there = absurd (none-some id ((shows.node id).1 (refl, there)))
  is_there (Some n) shows there = refl

  pub is_seen : (found : Option NodeRef) (n : NodeRef) → ShowsThe w (λ it. (it ≡ id) × IsNode w it) found → found ≡ Some n → IsView w id n
  is_seen found n shows is = record {
    world = subst (λ x. IfSome x (λ y. world_at y ≡ w)) is shows.world;
    is = ((shows.node (id_at n)).0 (ap (option_map id_at) is)).0;
  }
