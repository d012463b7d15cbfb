-- Views of nodes that a walk gave, and what is carried over them.
use Rattle.std.proofs.Common.{◌≡◌, ℕ, ◌+◌, ◌<◌, List, [], ◌∷◌, ◌++◌, length, map, take, get_or, refl, sym, ap, ◌∙◌}
use Rattle.std.specs.List.{fold}
use Rattle.std.proofs.lemmas.List.{map-append, take_more}
use Rattle.std.proofs.lemmas.List.Elements.{All-nil, All-cons}
use Rattle.std.proofs.lemmas.List.Sums.{fold_push}
use Rattle.model.specs.declared.FullNodeId.{FullNodeId}
use Rattle.model.specs.Lists.{preorder}
use Rattle.model.specs.World.{World}
use Rattle.views.specs.declared.node.node_ref.NodeRef.{NodeRef}
use Rattle.views.specs.Nodes.{world_at, id_at}
use Rattle.views.specs.PlainWalks.{node_in, node_of}
use Rattle.views.specs.Descendants.{descendants}
use Rattle.speaking.specs.Regions.{AreViews}

-- one more, before the others
one_more : (w : World) (id : FullNodeId) (ids : List FullNodeId) (n : NodeRef) (nodes : List NodeRef) → node_of n ≡ node_in w id → AreViews w ids nodes → AreViews w (id ∷ ids) (n ∷ nodes)
one_more w id ids n nodes first others = record {
  same = ap (λ i. i ∷ map id_at nodes) (ap (λ p. p.1) first) ∙ ap (λ is. id ∷ is) others.same;
  world = All-cons (λ node. world_at node ≡ w) n nodes (ap (λ p. p.0) first) others.world;
}

are_views : (w : World) (ids : List FullNodeId) (nodes : List NodeRef) → map node_of nodes ≡ map (node_in w) ids → AreViews w ids nodes
are_views w [] [] e = record { same = refl; world = All-nil (λ node. world_at node ≡ w) }
are_views w [] (n ∷ nodes) e = cc
are_views w (id ∷ ids) [] e = cc
are_views w (id ∷ ids) (n ∷ nodes) e =
    let first : node_of n ≡ node_in w id = cc in
    let others : map node_of nodes ≡ map (node_in w) ids = cc in
    one_more w id ids n nodes first (are_views w ids nodes others)

-- a node before all that is below it
pub views_from : (top : NodeRef) (nodes : List NodeRef) → map node_of nodes ≡ map (node_in (world_at top)) (descendants (world_at top) (id_at top)) → AreViews (world_at top) (preorder (world_at top) (id_at top)) (top ∷ nodes)
views_from top nodes e = one_more (world_at top) (id_at top) (descendants (world_at top) (id_at top)) top nodes refl (are_views (world_at top) (descendants (world_at top) (id_at top)) nodes e)

-- what is carried over the first nodes, and one more
pub carried_on : {B : Type 0} (f : B → FullNodeId → B) (z : B) (xs : List NodeRef) (i : ℕ) (x : NodeRef) → i < length xs → x ≡ get_or xs i x →
    fold f z (map id_at (take (i + 1) xs)) ≡ f (fold f z (map id_at (take i xs))) (id_at x)
carried_on f z xs i x within is =
    ap (λ ys. fold f z (map id_at ys)) (take_more xs i x within)
    ∙ ap (λ y. fold f z (map id_at (take i xs ++ y ∷ []))) (sym is)
    ∙ ap (fold f z) (map-append id_at (take i xs) (x ∷ []))
    ∙ fold_push f z (map id_at (take i xs)) (id_at x)
