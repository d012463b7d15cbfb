-- Where nodes are found.
use Rattle.std.proofs.Common.{◌≡◌, ℕ, Option, Some, None, refl, sym, ap, subst, ◌∙◌}
use Rattle.std.specs.Prelude.{◌↔◌, IsSome, option_and_then}
use Rattle.std.specs.Option.{option_map}
use Rattle.std.proofs.lemmas.Option.{none-some, same_Some}
use Rattle.schema.specs.NodeData.{NodeData}
use Rattle.schema.specs.declared.NodeId.{NodeId}
use Rattle.schema.specs.declared.TreeId.{TreeId}
use Rattle.model.specs.declared.FullNodeId.{FullNodeId}
use Rattle.model.specs.World.{World, Place, StandsAt, IsNode, data_of, index_of, name_of, local_id_of}
use Rattle.model.specs.Forest.{place_of}
use Rattle.model.proofs.Worlds.Names.{IsKnownOnce, known-index_of, unknown-index_of, index_of-known, same_id}
use Rattle.model.proofs.Forest.PlaceOf.{stands_at_place, place_found}
use Rattle.views.specs.declared.node.node_ref.NodeRef.{NodeRef}
use Rattle.views.specs.Nodes.{ShowsThe}

-- where a node stands exactly at the place that is found, that is its place
pub place_known : (w : World) (id : FullNodeId) (found : Option Place) → ((p : Place) → (found ≡ Some p) ↔ StandsAt w p id) → found ≡ place_of w id
place_known w id found is = go found refl (place_of w id) refl
  where
    go : (f : Option Place) → found ≡ f → (o : Option Place) → place_of w id ≡ o → found ≡ place_of w id
    go f e (Some p) h = (is p).1 (stands_at_place w id p h) ∙ sym h
    go None e None h = e ∙ sym h
    go (Some p) e None h = let q = place_found w id p ((is p).0 e) in absurd (none-some q.0 (sym h ∙ q.1))

-- a node is found by its id in its tree and the tree's name
located_parts : (id : FullNodeId) (node : NodeId) (name : TreeId) (d : Option NodeData) (n : Option TreeId) → option_and_then {U = NodeId × TreeId} (λ _. option_map (λ x. (id.node, x)) n) d ≡ Some (node, name) → IsSome d × (id.node ≡ node) × (n ≡ Some name)
located_parts id node name None n e = absurd (none-some _ e)
located_parts id node name (Some d) None e = absurd (none-some _ e)
located_parts id node name (Some d) (Some x) e = let p : (id.node, x) ≡ (node, name) = same_Some _ _ e in (refl, ap (λ y. y.0) p, ap (λ y. Some y.1) p)

located_there : (w : World) (tree : ℕ) (node : NodeId) (name : TreeId) (d : Option NodeData) → IsSome d → name_of w tree ≡ Some name → option_and_then {U = NodeId × TreeId} (λ _. option_map (λ x. (node, x)) (name_of w tree)) d ≡ Some (node, name)
located_there w tree node name None there is = cc
located_there w tree node name (Some d) there is = ap (option_map (λ x. (node, x))) is

module _ (w : World) (once : IsKnownOnce w.known) (node : NodeId) (name : TreeId) where
  pub found_by_name : (tree : ℕ) (found : Option NodeRef) → index_of w name ≡ Some tree
      → ShowsThe w (λ it. (it ≡ record { tree = tree; node = node }) × IsNode w it) found → ShowsThe w (λ it. local_id_of w it ≡ Some (node, name)) found
  found_by_name tree found is shows = record {
    world = shows.world;
    node = λ it. (
      λ e. let h = (shows.node it).0 e in
          subst (λ x. local_id_of w x ≡ Some (node, name)) (sym h.0) (located_there w tree node name (data_of w (record { tree = tree; node = node })) (subst (IsNode w) h.0 h.1) (known-index_of w name tree is)),
      λ e. let h = located_parts it node name (data_of w it) (name_of w it.tree) e in
          let same : it.tree ≡ tree = same_Some it.tree tree (sym (index_of-known w name it.tree once h.2) ∙ is) in
          (shows.node it).1 (same_id it (record { tree = tree; node = node }) same h.1, h.0),
    );
  }

  pub not_found_by_name : index_of w name ≡ None → ShowsThe w (λ it. local_id_of w it ≡ Some (node, name)) None
  not_found_by_name is = record {
    world = tt;
    node = λ it. (
      λ e. absurd (none-some it e),
      λ e. let h = located_parts it node name (data_of w it) (name_of w it.tree) e in absurd (unknown-index_of w name it.tree is h.2),
    );
  }
