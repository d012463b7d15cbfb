-- Views of nodes that a walk gave.
use Rattle.std.proofs.Common.{◌≡◌, List, [], ◌∷◌, map, Option, Some, None, refl, sym, ap, ◌∙◌}
use Rattle.std.specs.Prelude.{MatchOption, option_map, slice_get}
use Rattle.std.proofs.lemmas.List.Elements.{All-nil, All-cons}
use Rattle.std.proofs.lemmas.Option.{slice_get-map}
use Rattle.model.specs.declared.FullNodeId.{FullNodeId}
use Rattle.model.specs.World.{World}
use Rattle.views.specs.declared.node.node_ref.NodeRef.{NodeRef}
use Rattle.views.specs.Nodes.{world_at, id_at}
use Rattle.views.specs.PlainWalks.{node_in, node_of}
use Rattle.views.specs.Descendants.{descendants}
use Rattle.page_states.specs.Places.{AreNodes, from_node}

-- one more, before the others
more_nodes : (w : World) (id : FullNodeId) (ids : List FullNodeId) (n : NodeRef) (nodes : List NodeRef) → node_of n ≡ node_in w id → AreNodes w ids nodes → AreNodes w (id ∷ ids) (n ∷ nodes)
more_nodes w id ids n nodes first others = record {
  same = ap (λ i. i ∷ map id_at nodes) (ap (λ p. p.1) first) ∙ ap (λ is. id ∷ is) others.same;
  world = All-cons (λ node. world_at node ≡ w) n nodes (ap (λ p. p.0) first) others.world;
}

pub are_nodes : (w : World) (ids : List FullNodeId) (nodes : List NodeRef) → map node_of nodes ≡ map (node_in w) ids → AreNodes w ids nodes
are_nodes w [] [] e = record { same = refl; world = All-nil (λ node. world_at node ≡ w) }
are_nodes w [] (n ∷ nodes) e = cc
are_nodes w (id ∷ ids) [] e = cc
are_nodes w (id ∷ ids) (n ∷ nodes) e =
    let first : node_of n ≡ node_in w id = cc in
    let others : map node_of nodes ≡ map (node_in w) ids = cc in
    more_nodes w id ids n nodes first (are_nodes w ids nodes others)

-- a node before all that is below it
pub are_from : (top : NodeRef) (nodes : List NodeRef) → map node_of nodes ≡ map (node_in (world_at top)) (descendants (world_at top) (id_at top)) → AreNodes (world_at top) (from_node (world_at top) (id_at top)) (top ∷ nodes)
are_from top nodes e = more_nodes (world_at top) (id_at top) (descendants (world_at top) (id_at top)) top nodes refl (are_nodes (world_at top) (descendants (world_at top) (id_at top)) nodes e)

-- the first of those that are left
pub first_viewed : (w : World) (ids : List FullNodeId) (left more : List (World × FullNodeId)) (found : Option NodeRef) → left ≡ map (node_in w) ids → MatchOption found ((left ≡ []) × (more ≡ [])) (λ n. left ≡ node_of n ∷ more) → option_map node_of found ≡ option_map (node_in w) (slice_get ids 0)
first_viewed w ids left more None e h = ap (λ l. slice_get l 0) (sym h.0 ∙ e) ∙ slice_get-map (node_in w) ids 0
first_viewed w ids left more (Some n) e h = ap (λ l. slice_get l 0) (sym h ∙ e) ∙ slice_get-map (node_in w) ids 0
