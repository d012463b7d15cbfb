-- The way up from each node of a state ends at the root, and is no longer than there are nodes.
use Rattle.std.specs.Option.{option_map}
use Rattle.std.proofs.Common.{◌≡◌, ℕ, ◌<◌, ◌≤◌, Bool, true, false, List, [], ◌∷◌, length, suc, zero, refl, sym, ◌∙◌, ap, arith, map}
use Rattle.std.specs.Prelude.{Some, None, Option}
use Rattle.std.specs.FinMap.{keys, len, entries, len-entries, contains_key-keys}
use Rattle.std.specs.List.{list_any, IsDistinct, AllByRecursion}
use Rattle.std.specs.Cmp.{eq_by_cmp_equiv}
use Rattle.std.proofs.lemmas.Bool.{false≢true}
use Rattle.std.proofs.lemmas.Option.{none-some, same_Some}
use Rattle.std.proofs.lemmas.List.{length-map}
use Rattle.std.proofs.lemmas.Map.Made.{length-le_from_is_member}
use Rattle.schema.specs.NodeData.{NodeData}
use Rattle.schema.specs.declared.TreeId.{TreeId}
use Rattle.model.specs.declared.FullNodeId.{FullNodeId}
use Rattle.model.specs.FullIds.{full_total}
use Rattle.model.specs.World.{World, Tree, IsNode, in_tree, graft_name, Place, StandsAt, Reached, root, child, Kept, grafted, root_of}
use Rattle.model.specs.Forest.{is_same, place_of, chain, places_up, above, IsFormed}
use Rattle.model.specs.State.{IsState, Lists}
use Rattle.model.proofs.State.StatePlaces.{listed_tree, stands_listed, stands_grafted, root_named_parts, child_is_node, place_unique, root_has_no_place}
use Rattle.model.proofs.Forest.PlaceOf.{stands_at_place, parent_is_node, same_from_test, place_from_one}

-- ---- a way up that ends

pub data Ends (w : World) : FullNodeId → Type 0 where
  top : (c : FullNodeId) → place_of w c ≡ None → Ends w c
  up : (c : FullNodeId) (p : Place) → place_of w c ≡ Some p → Ends w p.0 → Ends w c

pub trail : (w : World) (c : FullNodeId) → Ends w c → List Place
trail w c (top _ e) = []
trail w c (up _ p e h) = p ∷ trail w p.0 h

climbed_is : (w : World) (c : FullNodeId) (h : Ends w c) (n : ℕ) → length (trail w c h) ≤ n → places_up w n c ≡ trail w c h
unfolding trail
climbed_is w c (top _ e) zero l = refl
climbed_is w c (top _ e) (suc n) l = ap (chain (places_up w n)) e
climbed_is w c (up _ p e h) zero l = absurd (omega arith)
climbed_is w c (up _ p e h) (suc n) l = ap (chain (places_up w n)) e ∙ ap (λ xs. p ∷ xs) (climbed_is w p.0 h n (omega arith))

-- there is only one
trail_same : (w : World) (c d : FullNodeId) (h : Ends w c) (g : Ends w d) → c ≡ d → trail w c h ≡ trail w d g
unfolding trail
trail_same w c d (top _ e) (top _ f) s = refl
trail_same w c d (top _ e) (up _ q f g) s = absurd (none-some q (sym e ∙ ap (place_of w) s ∙ f))
trail_same w c d (up _ p e h) (top _ f) s = absurd (none-some p (sym f ∙ ap (place_of w) (sym s) ∙ e))
trail_same w c d (up _ p e h) (up _ q f g) s =
    let place : p ≡ q = same_Some p q (sym e ∙ ap (place_of w) s ∙ f) in
    let others : trail w p.0 h ≡ trail w q.0 g = trail_same w p.0 q.0 h g (ap (λ (r : Place). r.0) place) in cc

pub parents : List Place → List FullNodeId
parents ps = map (λ (p : Place). p.0) ps

-- ---- it has no node twice

abbrev IsShorter : World → ℕ → FullNodeId → Type 0
IsShorter w n c = (g : Ends w c) × (length (trail w c g) < n)

all_weaker : (P Q : FullNodeId → Type 0) → ((c : FullNodeId) → P c → Q c) → (cs : List FullNodeId) → AllByRecursion P cs → AllByRecursion Q cs
all_weaker P Q f [] a = tt
all_weaker P Q f (c ∷ cs) a = (f c a.0, all_weaker P Q f cs a.1)

all_shorter : (w : World) (c : FullNodeId) (h : Ends w c) → AllByRecursion (IsShorter w (length (trail w c h))) (parents (trail w c h))
unfolding trail parents
all_shorter w c (top _ e) = tt
all_shorter w c (up _ p e h) =
    ((h, omega arith), all_weaker _ _ (λ d s. (s.0, omega (arith, s.1))) (parents (trail w p.0 h)) (all_shorter w p.0 h))

apart : (w : World) (c : FullNodeId) (h : Ends w c) (d : FullNodeId) → IsShorter w (length (trail w c h)) d → is_same c d ≡ false
apart w c h d s = go (is_same c d) refl
  where
    go : (b : Bool) → is_same c d ≡ b → is_same c d ≡ false
    go false e = e
    go true e = absurd (omega (arith, s.1, ap length (trail_same w c d h s.0 (same_from_test c d e))))

distinct_parents : (w : World) (c : FullNodeId) (h : Ends w c) → IsDistinct is_same (parents (trail w c h))
unfolding trail parents IsDistinct
distinct_parents w c (top _ e) = tt
distinct_parents w c (up _ p e h) = (all_weaker _ _ (apart w p.0 h) (parents (trail w p.0 h)) (all_shorter w p.0 h), distinct_parents w p.0 h)

parents_are_nodes : (w : World) (c : FullNodeId) (h : Ends w c) (q : FullNodeId) → list_any (is_same q) (parents (trail w c h)) ≡ true → list_any (is_same q) (keys w.nodes) ≡ true
unfolding trail parents
parents_are_nodes w c (top _ e) q m = absurd (false≢true m)
parents_are_nodes w c (up _ p e h) q m = go (is_same q p.0) refl (parents_are_nodes w p.0 h q)
  where
    go : (b : Bool) → is_same q p.0 ≡ b → (list_any (is_same q) (parents (trail w p.0 h)) ≡ true → list_any (is_same q) (keys w.nodes) ≡ true) → list_any (is_same q) (keys w.nodes) ≡ true
    go true t later = rw (same_from_test q p.0 t) (sym (contains_key-keys w.nodes p.0) ∙ parent_is_node w p c (stands_at_place w c p e))
    go false t later = later (rw t at m)

trail_short : (w : World) (c : FullNodeId) (h : Ends w c) → length (trail w c h) ≤ len w.nodes
unfolding parents
trail_short w c h =
    let few : length (parents (trail w c h)) ≤ length (keys w.nodes) = length-le_from_is_member (eq_by_cmp_equiv full_total) (parents (trail w c h)) (keys w.nodes) (distinct_parents w c h) (parents_are_nodes w c h) in
    omega (arith, few, length-map (trail w c h) (λ (p : Place). p.0), length-map (entries w.nodes) (λ (e : FullNodeId × NodeData). e.0), len-entries w.nodes)

-- where every way up ends, the places above a node are its own and those above its parent
pub rooted_by_ends : (w : World) → ((c : FullNodeId) → Ends w c) → (c : FullNodeId) → above w c ≡ chain (above w) (place_of w c)
unfolding above
rooted_by_ends w ends c =
    climbed_is w c (ends c) (len w.nodes) (trail_short w c (ends c)) ∙ sym (climbed_is w c (ends c) (suc (len w.nodes)) (omega (arith, trail_short w c (ends c))))

-- ---- in a state each does

module _ {w : World} (s : IsState w) where
  state_placed : (p : Place) (c : FullNodeId) → StandsAt w p c → place_of w c ≡ Some p
  state_placed p c e = place_from_one w c p (λ q f. place_unique s q p c f e) e

  -- a listed node is a child
  listed_stands : (p : Place) (c : FullNodeId) → Lists w p c → StandsAt w p c
  listed_stands p c e = go (graft_name w p.0) refl
    where
      go : (o : Option TreeId) → graft_name w p.0 ≡ o → StandsAt w p c
      go None f = stands_listed w p c f e
      go (Some name) f = absurd (none-some c (rw (s.graft_childless p.0 name f) at e))

  ends_in : (k : ℕ) → ((id : FullNodeId) → root_of w k ≡ Some id → Ends w id) → (id : FullNodeId) → Reached w id → id.tree ≡ k → Ends w id
  ends_in k ends id (root index t e) same = ends id (ap (root_of w) (sym same) ∙ ap (option_map (λ (x : Tree). in_tree index x.root)) e)
  ends_in k ends id (child parent _ i r e) same =
      up id (parent, i) (state_placed (parent, i) id (listed_stands (parent, i) id e)) (ends_in k ends parent r (sym (listed_tree w (parent, i) id e) ∙ same))

  ends_kept : (k : ℕ) → Kept w k → (id : FullNodeId) → Reached w id → id.tree ≡ k → Ends w id
  ends_kept k root id r same = ends_in 0 (λ c is. top c (unplaced c is (place_of w c) refl)) id r same
    where
      unplaced : (c : FullNodeId) → root_of w 0 ≡ Some c → (o : Option Place) → place_of w c ≡ o → place_of w c ≡ None
      unplaced c is None e = e
      unplaced c is (Some p) e = absurd (root_has_no_place s p c is (stands_at_place w c p e))
  ends_kept k (grafted graft inner name kept reached g e) id r same =
      let beyond : Ends w graft = ends_kept graft.tree kept graft reached refl in
      let from_root : Ends w inner = up inner (graft, 0) (state_placed (graft, 0) inner (stands_grafted w graft inner name g e)) beyond in
      ends_in k (λ c is. rw (same_Some c inner (sym is ∙ (root_named_parts w name inner e).1)) from_root) id r same

  pub ends : (c : FullNodeId) → Ends w c
  ends c = go (place_of w c) refl
    where
      go : (o : Option Place) → place_of w c ≡ o → Ends w c
      go None e = top c e
      go (Some p) e =
          let here : IsNode w c = child_is_node s p c (stands_at_place w c p e) in
          ends_kept c.tree (s.present_kept c.tree (s.node_present c here)) c (s.node_reached c here) refl

  -- a state is formed
  pub state_formed : IsFormed w
  state_formed = record { placed = state_placed; rooted = rooted_by_ends w ends }
