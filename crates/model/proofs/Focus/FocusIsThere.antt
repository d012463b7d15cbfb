-- A state has an effective focus: the chain goes from tree to tree, each further from the root tree than the last.
use Rattle.std.proofs.Common.{◌≡◌, ℕ, zero, suc, ◌+◌, ◌<◌, ◌≤◌, Bool, true, false, List, [], ◌∷◌, length, eqb, Option, Some, None, option_map, option_and_then, ◌⊎◌, inl, inr, ⊎_elim, refl, sym, ap, ◌∙◌, subst, arith}
use Rattle.std.specs.FinMap.{get}
use Rattle.std.specs.Option.{option_map_or}
use Rattle.std.specs.List.{IsDistinct, list_any, AllByRecursion}
use Rattle.std.proofs.lemmas.Bool.{eqb-true, ne_eqb, or_cases}
use Rattle.std.proofs.lemmas.Option.{slice_get_within, same_Some}
use Rattle.std.proofs.lemmas.Map.Steps.{length-le_from_distinct_below}
use Rattle.schema.specs.NodeData.{NodeData}
use Rattle.schema.specs.declared.NodeId.{NodeId}
use Rattle.schema.specs.declared.TreeId.{TreeId}
use Rattle.model.specs.declared.FullNodeId.{FullNodeId}
use Rattle.model.specs.World.{ROOT_NAME, World, IsNode, HasData, data_of, in_tree, index_of, graft_name, focus_of, root_named, focus_named}
use Rattle.model.specs.Focus.{OnChain, first, next, GoesOn, IsEffectiveFocus, Resolves, IsFocus}
use Rattle.model.specs.FocusFound.{focus_from, effective_focus}
use Rattle.model.specs.State.{IsState}
use Rattle.model.proofs.Worlds.Names.{same_id, cases_some, known-index_of, index_of_once}
use Rattle.model.proofs.State.StatePlaces.{map_some, value_of, root_named_parts}

-- the tree with this index is this many grafts away from the root tree
data IsDeep (w : World) : ℕ → ℕ → Type 0 where
  top : IsDeep w 0 0
  below : (graft inner : FullNodeId) (name : TreeId) (n : ℕ) → IsDeep w graft.tree n → graft_name w graft ≡ Some name → root_named w name ≡ Some inner → IsDeep w inner.tree (suc n)

-- trees, the last first, each one graft further away than the one before it
data IsTrail (w : World) : List ℕ → Type 0 where
  start : IsTrail w []
  more : (i : ℕ) (xs : List ℕ) → IsDeep w i (length xs) → IsTrail w xs → IsTrail w (i ∷ xs)

module _ {w : World} (s : IsState w) where
  -- no graft names the root tree
  never_root : (graft inner : FullNodeId) (name : TreeId) → graft_name w graft ≡ Some name → root_named w name ≡ Some inner → inner.tree ≡ 0 → ⊥
  never_root graft inner name grafts named is =
      let index : index_of w name ≡ Some 0 = (root_named_parts w name inner named).0 ∙ ap Some is in
      let same : name ≡ ROOT_NAME = same_Some name ROOT_NAME (sym (known-index_of w name 0 index) ∙ s.known_first) in
      s.root_ungrafted graft (grafts ∙ ap Some same)

  deep_once : (i n j m : ℕ) → IsDeep w i n → IsDeep w j m → i ≡ j → n ≡ m
  deep_once i n j m top top same = refl
  deep_once i n j m top (below graft inner name k deep grafts named) same = absurd (never_root graft inner name grafts named (sym same))
  deep_once i n j m (below graft inner name k deep grafts named) top same = absurd (never_root graft inner name grafts named same)
  deep_once i n j m (below a x p k deep grafts named) (below b y q l deep' grafts' named') same =
      let name : p ≡ q = index_of_once w p q x.tree (root_named_parts w p x named).0 ((root_named_parts w q y named').0 ∙ ap Some (sym same)) in
      let graft : a ≡ b = s.grafted_once a b q (grafts ∙ ap Some name) grafts' in
      ap suc (deep_once a.tree k b.tree l deep deep' (ap (λ g. g.tree) graft))

  deep_known : (i n : ℕ) → IsDeep w i n → i < length w.known
  deep_known i n top = s.present_known 0 s.root_present
  deep_known i n (below graft inner name k deep grafts named) = slice_get_within w.known inner.tree name (known-index_of w name inner.tree (root_named_parts w name inner named).0)

  in_trail : (xs : List ℕ) (q : ℕ) → IsTrail w xs → list_any (eqb q) xs ≡ true → (n : ℕ) × (n < length xs) × IsDeep w q n
  in_trail xs q start is = cc
  in_trail xs q (more i ys deep trail) is = ⊎_elim
      (λ e. (length ys, omega arith, subst (λ k. IsDeep w k (length ys)) (sym (eqb-true q i e)) deep))
      (λ e. let f = in_trail ys q trail e in (f.0, omega (arith, f.1), f.2))
      (or_cases (eqb q i) (list_any (eqb q) ys) is)

  new_in_trail : (i n : ℕ) (xs : List ℕ) → IsDeep w i n → length xs ≤ n → IsTrail w xs → AllByRecursion (λ y. eqb i y ≡ false) xs
  new_in_trail i n xs deep far start = tt
  new_in_trail i n xs deep far (more j ys deep' trail) =
      (ne_eqb i j (λ same. let e : n ≡ length ys = deep_once i n j (length ys) deep deep' same in omega arith), new_in_trail i n ys deep (omega arith) trail)

  trail_distinct : (xs : List ℕ) → IsTrail w xs → IsDistinct eqb xs
  unfolding IsDistinct
  trail_distinct xs start = tt
  trail_distinct xs (more i ys deep trail) = (new_in_trail i (length ys) ys deep (omega arith) trail, trail_distinct ys trail)

  top_of : {i : ℕ} {xs : List ℕ} → IsTrail w (i ∷ xs) → IsDeep w i (length xs)
  top_of (more i xs deep trail) = deep

  trail_short : (xs : List ℕ) → IsTrail w xs → length xs ≤ length w.known
  trail_short xs trail = length-le_from_distinct_below xs (length w.known) (trail_distinct xs trail) (λ q is. let f = in_trail xs q trail is in deep_known q f.0 f.2)

  -- the chain goes on from a graft on it
  goes_on : (id : FullNodeId) (name : TreeId) → OnChain w id → graft_name w id ≡ Some name → (y : FullNodeId) × GoesOn w id y × (inner : FullNodeId) × (root_named w name ≡ Some inner) × (inner.tree ≡ y.tree)
  goes_on id name on grafts =
      let there : IsNode w id = s.focus_is_node id on in
      let inner = value_of (root_named w name) (s.focus_goes_on id name on grafts) in
      let f = root_named_parts w name inner.0 inner.1 in
      let t = map_some (λ t. in_tree inner.0.tree t.root) (get w.trees inner.0.tree) inner.0 f.1 in
      let y : FullNodeId = in_tree inner.0.tree t.0.focus in
      let declared : focus_named w name ≡ Some y = ap (option_and_then (focus_of w)) f.0 ∙ ap (option_map (λ t. in_tree inner.0.tree t.focus)) t.1 in
      (y, record { kept = s.present_kept id.tree (s.node_present id there); reached = s.node_reached id there; name = name; grafts = grafts; declared = declared }, inner.0, inner.1, refl)

  find_end : (fuel : ℕ) (id : FullNodeId) (xs : List ℕ) → OnChain w id → IsTrail w (id.tree ∷ xs) → length w.known < suc (length xs) + fuel → IsEffectiveFocus w (focus_from w fuel id)
  find_end zero id xs on trail left = absurd (omega (arith, trail_short (id.tree ∷ xs) trail))
  find_end (suc fuel) id xs on trail left = go (graft_name w id) refl (λ y ys. find_end fuel y ys) trail
    where
      go : (o : Option TreeId) → graft_name w id ≡ o → ((y : FullNodeId) (ys : List ℕ) → OnChain w y → IsTrail w (y.tree ∷ ys) → length w.known < suc (length ys) + fuel → IsEffectiveFocus w (focus_from w fuel y)) → IsTrail w (id.tree ∷ xs) → IsEffectiveFocus w (option_map_or (focus_from w fuel) (option_and_then (focus_named w) o) id)
      go None e later trail =
          let d = value_of (data_of w id) (s.focus_is_node id on) in
          (on, d.0, d.1, ap (option_and_then (λ d. d.tree_id)) (sym d.1) ∙ e)
      go (Some name) e later trail =
          let y = goes_on id name on e in
          let tree : IsDeep w y.2.tree (suc (length xs)) = below id y.2 name (length xs) (top_of trail) e y.3 in
          let declared : focus_named w name ≡ Some y.0 = ap (focus_named w) (same_Some name y.1.name (sym e ∙ y.1.grafts)) ∙ y.1.declared in
          subst (λ o. IsEffectiveFocus w (option_map_or (focus_from w fuel) o id)) (sym declared)
          (later y.0 (id.tree ∷ xs) (next id y.0 on y.1) (more y.0.tree (id.tree ∷ xs) (subst (λ k. IsDeep w k (suc (length xs))) y.4 tree) trail) (omega arith))

  -- it is found from the root tree's declared focus
  pub effective_focus_found : (e : FullNodeId) × (effective_focus w ≡ Some e) × IsEffectiveFocus w e
  unfolding effective_focus
  effective_focus_found =
      let t = value_of (get w.trees 0) s.root_present in
      let end : FullNodeId = focus_from w (length w.known) (in_tree 0 t.0.focus) in
      (end, ap (λ o. option_map (focus_from w (length w.known)) (option_map (λ t. in_tree 0 t.focus) o)) t.1, find_end (length w.known) (in_tree 0 t.0.focus) [] (first t.0 t.1) (more 0 [] top start) (omega arith))

  pub effective_focus_exists : (e : FullNodeId) × IsEffectiveFocus w e
  effective_focus_exists = (effective_focus_found.0, effective_focus_found.2)

  -- the active descendant of a node resolves, or no node does
  resolves_or_not : (id : FullNodeId) → IsNode w id → ((a : FullNodeId) × Resolves w id a) ⊎ ((a : FullNodeId) → ¬ (Resolves w id a))
  resolves_or_not id there = let d = value_of (data_of w id) there in by_active d.0 d.1 d.0.active_descendant refl
    where
      by_node : (d : NodeData) (n : NodeId) → HasData w id d → d.active_descendant ≡ Some n → IsNode w (in_tree id.tree n) ⊎ (IsNode w (in_tree id.tree n) → ⊥) → ((a : FullNodeId) × Resolves w id a) ⊎ ((a : FullNodeId) → ¬ (Resolves w id a))
      by_node d n has is (inl node) = inl (in_tree id.tree n, (d, has, is, refl, node))
      by_node d n has is (inr absent) = inr (λ a r.
          let same : d ≡ r.0 = same_Some d r.0 (sym has ∙ r.1) in
          let active : n ≡ a.node = same_Some n a.node (sym is ∙ ap (λ x. x.active_descendant) same ∙ r.2) in
          let id_is : in_tree id.tree n ≡ a = same_id (in_tree id.tree n) a (sym r.3) active in
          absent (subst (IsNode w) (sym id_is) r.4))

      by_active : (d : NodeData) → HasData w id d → (o : Option NodeId) → d.active_descendant ≡ o → ((a : FullNodeId) × Resolves w id a) ⊎ ((a : FullNodeId) → ¬ (Resolves w id a))
      by_active d has None is = inr (λ a r. let same : d ≡ r.0 = same_Some d r.0 (sym has ∙ r.1) in cc (is, r.2, ap (λ x. x.active_descendant) same))
      by_active d has (Some n) is = by_node d n has is (cases_some (data_of w (in_tree id.tree n)))

  pub focus_exists : (answer : Option FullNodeId) × IsFocus w answer
  focus_exists = by_host w.host_focused refl
    where
      by_host : (b : Bool) → w.host_focused ≡ b → (answer : Option FullNodeId) × IsFocus w answer
      by_host false is = (None, is)
      by_host true is =
          let e = effective_focus_exists in
          ⊎_elim
          (λ (r : (a : FullNodeId) × Resolves w e.0 a). let answer : (answer : Option FullNodeId) × IsFocus w answer = (Some r.0, (is, e.0, e.1, inl r.1)) in answer)
          (λ none. (Some e.0, (is, e.0, e.1, inr (refl, none))))
          (resolves_or_not e.0 (s.focus_is_node e.0 e.1.0))
