-- The lists of a state.
use Rattle.std.proofs.Common.{List, ap, ◌≡◌, ◌≢◌, refl, sym, ◌∙◌, inl, inr, ℕ, [], ◌∷◌, get_or}
use Rattle.std.specs.Prelude.{Option, Some, None, Contains, ◌⊎◌, ◌↔◌, option_and_then, IsSome, option_map}
use Rattle.std.proofs.lemmas.Option.{none-some, same_Some}
use Rattle.model.specs.declared.FullNodeId.{FullNodeId}
use Rattle.model.specs.World.{World, IsNode, root_of, Place, StandsAt, children, Tree, in_tree}
use Rattle.model.specs.State.{IsState}
use Rattle.model.specs.Forest.{place_of}
use Rattle.model.specs.Lists.{preorder, IsWithin, preceding_siblings, following_siblings}
use Rattle.model.proofs.Worlds.Names.{cases_id}
use Rattle.model.proofs.State.StatePlaces.{child_is_node, place_exists, graft_place, root_has_no_place, value_of, IsSome_is}
use Rattle.model.proofs.Forest.PlaceOf.{stands_at_place, place_found, parent_is_node}
use Rattle.model.proofs.Forest.Grown.{above_root}
use Rattle.model.proofs.Forest.Rooted.{Ends, top, up, ends, state_formed}
use Rattle.std.proofs.lemmas.Bool.{cases_eq, cases_order}
use Rattle.std.specs.FinMap.{get}
use Rattle.std.proofs.lemmas.List.{get_or_default}
use Rattle.model.specs.Paths.{index_path, IsBefore}
use Rattle.model.proofs.Lists.Preorder.{preorder_rises, not_before_itself}
use Rattle.model.proofs.Forest.Climbs.{within_child}
use Rattle.model.proofs.Lists.Within.{in_preorder}
use Rattle.model.proofs.Members.{contains_none}

module _ {w : World} (s : IsState w) where
  root_above : (r : FullNodeId) → root_of w 0 ≡ Some r → (c : FullNodeId) → Ends w c → IsNode w c → IsWithin w r c
  root_above r is c (top _ e) there = go (cases_id c r)
    where
      go : (c ≡ r) ⊎ (c ≢ r) → IsWithin w r c
      go (inl same) = inl same
      go (inr other) =
          let at = place_exists s c there (λ f. other (same_Some c r (sym f ∙ is))) in
          absurd (none-some _ (sym e ∙ (place_found w c at.0 at.1).1))
  root_above r is c (up _ p e h) there =
      let stands : StandsAt w p c = stands_at_place w c p e in
      within_child w (state_formed s) r p c stands (root_above r is p.0 h (parent_is_node w p c stands))

  within_is_node : (r : FullNodeId) → root_of w 0 ≡ Some r → (c : FullNodeId) → IsWithin w r c → IsNode w c
  within_is_node r is c (inl same) = rw same (s.root_is_node 0 r is)
  within_is_node r is c (inr m) = go (place_of w c) refl
    where
      go : (o : Option Place) → place_of w c ≡ o → IsNode w c
      go None e = absurd (contains_none r (rw (above_root w (state_formed s) c e) at m))
      go (Some p) e = child_is_node s p c (stands_at_place w c p e)

  -- the pre-order of the root has the nodes
  pub in_root_preorder : (r : FullNodeId) → root_of w 0 ≡ Some r → (id : FullNodeId) → Contains (preorder w r) id ↔ IsNode w id
  in_root_preorder r is id = (λ m. within_is_node r is id ((in_preorder w (state_formed s) r id).0 m), λ there. (in_preorder w (state_formed s) r id).1 (root_above r is id (ends s id) there))

  no_siblings : (id : FullNodeId) (p : Place) → place_of w id ≡ Some p → children w p.0 ≡ id ∷ [] → p.1 ≡ 0 → (preceding_siblings w id ≡ []) × (following_siblings w id ≡ [])
  no_siblings id p at alone first = (rw (at, first) refl, rw (at, first, alone) refl)

  pub root_alone : (index : ℕ) (id : FullNodeId) → root_of w index ≡ Some id → (preceding_siblings w id ≡ []) × (following_siblings w id ≡ [])
  root_alone index id is = go (cases_eq index 0)
    where
      unplaced : (o : Option Place) → place_of w id ≡ o → root_of w 0 ≡ Some id → (preceding_siblings w id ≡ []) × (following_siblings w id ≡ [])
      unplaced None e f = (rw e refl, rw e refl)
      unplaced (Some p) e f = absurd (root_has_no_place s p id f (stands_at_place w id p e))

      go : (index ≡ 0) ⊎ (index ≡ 0 → ⊥) → (preceding_siblings w id ≡ []) × (following_siblings w id ≡ [])
      go (inl zero) = unplaced (place_of w id) refl (rw zero at is)
      go (inr other) =
          let g = graft_place s index id other is in
          let alone : children w g.0 ≡ id ∷ [] = rw (g.2, ap (option_and_then (root_of w)) g.3, is) refl in
          no_siblings id (g.0, 0) ((state_formed s).placed (g.0, 0) id g.4) alone refl

  -- two nodes with one index path are one
  pub path_tells : (a b : FullNodeId) → IsNode w a → IsNode w b → index_path w a ≡ index_path w b → a ≡ b
  path_tells a b here there same =
      let r = value_of (root_of w 0) (root_present_of s.root_present) in
      let all : List FullNodeId = preorder w r.0 in
      let at : Contains all a = (in_root_preorder r.0 r.1 a).1 here in
      let bt : Contains all b = (in_root_preorder r.0 r.1 b).1 there in
      let first : get_or all at.0 a ≡ a = at.2 in
      let second : get_or all bt.0 a ≡ b = get_or_default all bt.0 a b bt.1 ∙ bt.2 in
      elim (cases_order at.0 bt.0) [
        | inl e ↦ sym first ∙ ap (λ n. get_or all n a) e ∙ second
        | inr h ↦ elim h [
          | inl l ↦ absurd (unordered (get_or all at.0 a) (get_or all bt.0 a) (ap (index_path w) first ∙ same ∙ sym (ap (index_path w) second)) (preorder_rises w (state_formed s) r.0 at.0 bt.0 a l bt.1))
          | inr l ↦ absurd (unordered (get_or all bt.0 a) (get_or all at.0 a) (ap (index_path w) second ∙ sym same ∙ sym (ap (index_path w) first)) (preorder_rises w (state_formed s) r.0 bt.0 at.0 a l at.1))
        ]
      ]
    where
      root_present_of : IsSome (get w.trees 0) → IsSome (root_of w 0)
      root_present_of h = let t = value_of (get w.trees 0) h in IsSome_is (in_tree 0 t.0.root) (ap (option_map (λ (t : Tree). in_tree 0 t.root)) t.1)

      unordered : (x y : FullNodeId) → index_path w x ≡ index_path w y → IsBefore (index_path w x) (index_path w y) → ⊥
      unordered x y e h = not_before_itself (index_path w y) (rw e at h)
