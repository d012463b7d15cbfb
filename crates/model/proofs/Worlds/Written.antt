-- Worlds whose nodes are written out: what they have at each id.
use Rattle.std.proofs.Common.{◌≡◌, Bool, true, false, cond, List, [], ◌∷◌, Option, Some, None, refl, sym, ap, subst, ◌∙◌, map}
use Rattle.std.specs.Prelude.{Contains, IsSome, T, position, option_map}
use Rattle.std.specs.Option.{option_or}
use Rattle.std.specs.Ordering.{eq_by_cmp}
use Rattle.std.specs.FinMap.{FinMap, from_sorted, find, is_sorted, get-from_sorted, entries-from_sorted, keys, get}
use Rattle.std.proofs.lemmas.Map.Views.{tells_apart}
use Rattle.schema.specs.NodeData.{NodeData}
use Rattle.model.specs.declared.FullNodeId.{FullNodeId}
use Rattle.model.specs.FullIds.{full_cmp, exact_full}
use Rattle.model.specs.World.{World, data_of, IsNode, HasData, in_tree, children, Place}
use Rattle.model.specs.Forest.{place_of, place_among, is_same}
use Rattle.model.proofs.Members.{contains_first, contains_later}

found_cases : (q k : FullNodeId) (d : NodeData) (o : Option NodeData) (ks : List FullNodeId) (b : Bool) → eq_by_cmp full_cmp q k ≡ b → IsSome (cond b (Some d) o) → (IsSome o → Contains ks q) → Contains (k ∷ ks) q
found_cases q k d o ks true e h f = subst (λ x. Contains (k ∷ ks) x) (sym (tells_apart exact_full q k e)) (contains_first k ks)
found_cases q k d o ks false e h f = contains_later k q ks (f h)

-- what is found is one of the keys
pub found_key : (q : FullNodeId) (es : List (FullNodeId × NodeData)) → IsSome (find full_cmp q es) → Contains (map (λ e. e.0) es) q
found_key q [] h = absurd (let e : false ≡ true = h in cc)
found_key q (e ∷ es) h = found_cases q e.0 e.1 (find full_cmp q es) (map (λ x. x.0) es) _ refl h (found_key q es)

-- the place of a node among the children of nodes that are written out, none of them a graft
abbrev pub place_written : FullNodeId → List (FullNodeId × NodeData) → Option Place
place_written c [] = None
place_written c (e ∷ es) = option_or (option_map (λ i. (e.0, i)) (position (is_same c) (map (in_tree e.0.tree) e.1.children))) (place_written c es)

-- each of these is a node of the world, and no graft
abbrev pub AreNodes : World → List (FullNodeId × NodeData) → Type 0
AreNodes w [] = Unit {0}
AreNodes w (e ∷ es) = (HasData w e.0 e.1 × (e.1.tree_id ≡ None)) × AreNodes w es

pub children_written : (w : World) (id : FullNodeId) (d : NodeData) → HasData w id d → d.tree_id ≡ None → children w id ≡ map (in_tree id.tree) d.children
children_written w id d is bare = rw is (rw bare refl)

place_among_written : (w : World) (c : FullNodeId) (es : List (FullNodeId × NodeData)) → AreNodes w es → place_among w c (map (λ e. e.0) es) ≡ place_written c es
place_among_written w c [] h = refl
place_among_written w c (e ∷ es) h =
    ap (λ cs. option_or (option_map (λ i. (e.0, i)) (position (is_same c) cs)) (place_among w c (map (λ x. x.0) es))) (children_written w e.0 e.1 h.0.0 h.0.1)
    ∙ ap (option_or (option_map (λ i. (e.0, i)) (position (is_same c) (map (in_tree e.0.tree) e.1.children)))) (place_among_written w c es h.1)

module _ (w : World) (es : List (FullNodeId × NodeData)) (sorted : T (is_sorted full_cmp es)) (is : w.nodes ≡ from_sorted es) where
  pub data_written : (id : FullNodeId) → data_of w id ≡ find full_cmp id es
  data_written id = ap (λ (m : FinMap full_cmp NodeData). get m id) is ∙ get-from_sorted full_cmp es id sorted

  pub node_written : (id : FullNodeId) → IsNode w id → Contains (map (λ e. e.0) es) id
  node_written id h = found_key id es (subst IsSome (data_written id) h)

  keys_written : keys w.nodes ≡ map (λ e. e.0) es
  keys_written = ap (λ (m : FinMap full_cmp NodeData). keys m) is ∙ ap (map (λ (e : FullNodeId × NodeData). e.0)) (entries-from_sorted full_cmp es sorted)

  pub place_is : (id : FullNodeId) → AreNodes w es → place_of w id ≡ place_written id es
  unfolding place_of
  place_is id h = ap (place_among w id) keys_written ∙ place_among_written w id es h
