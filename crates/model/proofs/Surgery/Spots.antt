-- What a merged world keeps of the old one, by names, data, spots and trees.
use Rattle.std.proofs.Common.{get_or, Contains, Bool, true, false, cond, ◌≡◌, ◌≢◌, ℕ, zero, suc, ◌<◌, List, [], ◌∷◌, ◌++◌, length, map, slice_get, Option, Some, None, IsSome, option_map, option_and_then, unwrap_or, ◌↔◌, ◌⊎◌, inl, inr, ⊎_elim, refl, sym, ap, ◌∙◌, subst, arith}
use Rattle.std.specs.Ordering.{is_eq, eq_by_cmp}
use Rattle.std.specs.FinMap.{FinMap, get, insert, get-insert}
use Rattle.std.proofs.lemmas.Bool.{cases_eq}
use Rattle.std.proofs.lemmas.Cmp.{tied_itself}
use Rattle.schema.specs.NodeData.{NodeData}
use Rattle.schema.specs.declared.NodeId.{NodeId}
use Rattle.schema.specs.declared.TreeId.{TreeId}
use Rattle.model.specs.declared.FullNodeId.{FullNodeId}
use Rattle.model.specs.FullIds.{full_cmp, full_total}
use Rattle.model.specs.World.{ROOT_NAME, World, Tree, IsNode, data_of, in_tree, index_of, listed_ids, graft_name, root_of, root_named, Place, Reached, Kept}
use Rattle.model.specs.World as world
use Rattle.model.specs.Update.{UpdateData, IsFirst, IsNamed, index_for, overwritten_nodes, root_after, merged_world}
use Rattle.model.specs.State.{Lists}
use Rattle.model.specs.Surgery.{IsOld, Seat, IsAt, Left, Entered, IsOpened}
use Rattle.model.proofs.Worlds.Names.{same_id, certain, known-index_of, unknown-index_of, index_of-known, index_of_once}
use Rattle.model.proofs.State.StatePlaces.{IsSome_is, value_of, root_of_parts, root_of-tree, root_named_parts, listed_tree}
use Rattle.model.proofs.Update.Merges.{other_id, data_elsewhere, tree_elsewhere, tree_named, root_stays, root_comes, known_stays, known_grows, known_once_after, name_stays, slice_get_push}
use Rattle.model.proofs.Closure.{IsDecided}
use Rattle.model.proofs.Update.AcceptedOrFault.{decide_named, decide_id}

-- ---- the data

-- an entry's node that none of these names stays
pub overwritten_unnamed : (nodes : FinMap full_cmp NodeData) (index : ℕ) (es : List (NodeId × NodeData)) (id : FullNodeId) → (id.tree ≡ index → Contains (map (λ e. e.0) es) id.node → ⊥) → get (overwritten_nodes nodes index es) id ≡ get nodes id
overwritten_unnamed nodes index [] id out = refl
overwritten_unnamed nodes index (e ∷ es) id out =
    overwritten_unnamed (insert nodes (in_tree index e.0) e.1) index es id (λ same c. out same (suc c.0, omega (arith, c.1), c.2))
    ∙ get-insert full_total nodes (in_tree index e.0) e.1 id
    ∙ ap (λ b. cond b (Some e.1) (get nodes id)) (other_id id (in_tree index e.0) (λ same. out (ap (λ x. x.tree) same) (0, omega arith, sym (ap (λ x. x.node) same))))

insert_stays : (nodes : FinMap full_cmp NodeData) (k : FullNodeId) (d : NodeData) (id : FullNodeId) → IsSome (get nodes id) → IsSome (get (insert nodes k d) id)
insert_stays nodes k d id there = subst IsSome (sym (get-insert full_total nodes k d id)) (go (eq_by_cmp full_cmp id k))
  where
    go : (b : Bool) → IsSome (cond b (Some d) (get nodes id))
    go true = refl
    go false = there

overwritten_stays : (nodes : FinMap full_cmp NodeData) (index : ℕ) (es : List (NodeId × NodeData)) (id : FullNodeId) → IsSome (get nodes id) → IsSome (get (overwritten_nodes nodes index es) id)
overwritten_stays nodes index [] id there = there
overwritten_stays nodes index (e ∷ es) id there = overwritten_stays (insert nodes (in_tree index e.0) e.1) index es id (insert_stays nodes (in_tree index e.0) e.1 id there)

insert_there : (nodes : FinMap full_cmp NodeData) (k : FullNodeId) (d : NodeData) → IsSome (get (insert nodes k d) k)
insert_there nodes k d = subst IsSome (sym (get-insert full_total nodes k d k)) (subst (λ b. IsSome (cond b (Some d) (get nodes k))) (sym (ap is_eq (tied_itself full_total k))) refl)

overwritten_named : (nodes : FinMap full_cmp NodeData) (index : ℕ) (es : List (NodeId × NodeData)) (n : NodeId) (k : ℕ) → k < length (map (λ e. e.0) es) → get_or (map (λ e. e.0) es) k n ≡ n → IsSome (get (overwritten_nodes nodes index es) (in_tree index n))
overwritten_named nodes index [] n k fits at = absurd (omega arith)
overwritten_named nodes index (e ∷ es) n zero fits at =
    overwritten_stays (insert nodes (in_tree index e.0) e.1) index es (in_tree index n)
    (subst (λ k. IsSome (get (insert nodes (in_tree index e.0) e.1) (in_tree index k))) at (insert_there nodes (in_tree index e.0) e.1))
overwritten_named nodes index (e ∷ es) n (suc k) fits at = overwritten_named (insert nodes (in_tree index e.0) e.1) index es n k (omega arith) at

-- an id reaches in one world what it reaches in another with the same data and root in its tree
pub reached_across : (a b : World) (index : ℕ) → get a.trees index ≡ get b.trees index → ((id : FullNodeId) → id.tree ≡ index → data_of a id ≡ data_of b id) → (id : FullNodeId) → Reached a id → id.tree ≡ index → Reached b id
reached_across a b index tree same_data id (world.Reached.root i t is) same = world.Reached.root i t (subst (λ k. get b.trees k ≡ get a.trees k) (sym same) (sym tree) ∙ is)
reached_across a b index tree same_data id (world.Reached.child parent id' k reached at) same =
    let in_it : parent.tree ≡ index = sym (listed_tree a (parent, k) id at) ∙ same in
    let lists : listed_ids a parent ≡ listed_ids b parent = rw (same_data parent in_it) in
    world.Reached.child parent id k (reached_across a b index tree same_data parent reached in_it) (subst (λ xs. slice_get xs k ≡ Some id) lists at)

pub root_named_from : (v : World) (name : TreeId) (index : ℕ) (id : FullNodeId) → index_of v name ≡ Some index → root_of v index ≡ Some id → root_named v name ≡ Some id
root_named_from v name index id known root = ap (option_and_then (root_of v)) known ∙ root

-- a root, as the spot of a root
pub root_at : (v : World) (index : ℕ) (id : FullNodeId) → root_of v index ≡ Some id → IsAt v None id
root_at v index id is = subst (λ k. root_of v k ≡ Some id) (root_of-tree v index id is) is

pub root_reached : (v : World) (index : ℕ) (id : FullNodeId) → root_of v index ≡ Some id → Reached v id
root_reached v index id is = let t = root_of_parts v index id is in subst (Reached v) t.2 (world.Reached.root index t.0 t.1)

pub decide_at : (v : World) (s : Seat) (c : FullNodeId) → IsDecided (IsAt v s c)
decide_at v None c = decide_id (root_of v c.tree) c
decide_at v (Some p) c = decide_id (slice_get (listed_ids v p.0) p.1) c

-- what is at a spot of a reached node, or at a root's, is reached
pub at_reached : (v : World) (s : Seat) (c : FullNodeId) → IsAt v s c → ((p : Place) → s ≡ Some p → Reached v p.0) → Reached v c
at_reached v None c at above = root_reached v c.tree c at
at_reached v (Some p) c at above = world.Reached.child p.0 c p.1 (above p refl) at

slice_get_last : {A : Type 0} (xs : List A) (y : A) → slice_get (xs ++ y ∷ []) (length xs) ≡ Some y
slice_get_last [] y = refl
slice_get_last (x ∷ xs) y = slice_get_last xs y

module _ (w : World) (u : UpdateData) where
  abbrev m : World
  m = merged_world w u

  abbrev i : ℕ
  i = index_for w u.name

  pub unnamed_data : (id : FullNodeId) → ¬ (IsNamed w u id) → data_of m id ≡ data_of w id
  unnamed_data id other = overwritten_unnamed w.nodes i u.nodes id (λ same c. other (same, c))

  pub unnamed_lists : (id : FullNodeId) → ¬ (IsNamed w u id) → listed_ids m id ≡ listed_ids w id
  unnamed_lists id other = rw (unnamed_data id other)

  pub unnamed_graft : (id : FullNodeId) → ¬ (IsNamed w u id) → graft_name m id ≡ graft_name w id
  unnamed_graft id other = rw (unnamed_data id other)

  pub node_stays : (id : FullNodeId) → IsNode w id → IsNode m id
  node_stays id there = overwritten_stays w.nodes i u.nodes id there

  pub named_is_node : (id : FullNodeId) → IsNamed w u id → IsNode m id
  named_is_node id n = subst (IsNode m) (same_id (in_tree i id.node) id (sym n.0) refl) (overwritten_named w.nodes i u.nodes id.node n.1.0 n.1.1 n.1.2)

  -- a node that lists, or grafts, what it didn't is named
  pub lister_named : (p : Place) (c : FullNodeId) → Lists m p c → ¬ (Lists w p c) → IsNamed w u p.0
  lister_named p c at before = certain (decide_named w u p.0) (λ other. before (subst (λ xs. slice_get xs p.1 ≡ Some c) (unnamed_lists p.0 other) at))

  -- and so is one that lists no more what it did
  pub leaver_named : (p : Place) (c : FullNodeId) → Lists w p c → ¬ (Lists m p c) → IsNamed w u p.0
  leaver_named p c was after = certain (decide_named w u p.0) (λ other. after (subst (λ xs. slice_get xs p.1 ≡ Some c) (sym (unnamed_lists p.0 other)) was))

  pub root_elsewhere : (index : ℕ) → index ≢ i → root_of m index ≡ root_of w index
  root_elsewhere index other = ap (option_map (λ t. in_tree index t.root)) (tree_elsewhere w u index other)

  pub at_elsewhere : (s : Seat) (c : FullNodeId) → c.tree ≢ i → IsAt m s c → IsAt w s c
  at_elsewhere None c other at = sym (root_elsewhere c.tree other) ∙ at
  at_elsewhere (Some p) c other at =
      let apart : p.0.tree ≢ i = λ e. other (listed_tree m p c at ∙ e) in
      let lists : listed_ids m p.0 ≡ listed_ids w p.0 = rw (data_elsewhere w u p.0 apart) in
      subst (λ xs. slice_get xs p.1 ≡ Some c) lists at

  pub at_stays_elsewhere : (s : Seat) (c : FullNodeId) → c.tree ≢ i → IsAt w s c → IsAt m s c
  at_stays_elsewhere None c other at = root_elsewhere c.tree other ∙ at
  at_stays_elsewhere (Some p) c other at =
      let apart : p.0.tree ≢ i = λ e. other (listed_tree w p c at ∙ e) in
      let lists : listed_ids w p.0 ≡ listed_ids m p.0 = rw (data_elsewhere w u p.0 apart) in
      subst (λ xs. slice_get xs p.1 ≡ Some c) lists at

  -- what entered is in the named tree, and so is what left
  pub entered_tree : (s : Seat) (c : FullNodeId) → Entered w u s c → c.tree ≡ i
  entered_tree s c e = certain (cases_eq c.tree i) (λ other. e.1 (at_elsewhere s c other e.0))

  pub left_tree : (s : Seat) (c : FullNodeId) → Left w u s c → c.tree ≡ i
  left_tree s c l = certain (cases_eq c.tree i) (λ other. l.1 (at_stays_elsewhere s c other l.0))

  -- E: a spot of the merged world was one, or was entered; one of the old world is left, or stays
  pub at_or_entered : (s : Seat) (c : FullNodeId) → IsAt m s c → IsAt w s c ⊎ Entered w u s c
  at_or_entered s c at = ⊎_elim inl (λ n. inr (at, n)) (decide_at w s c)

  pub at_or_left : (s : Seat) (c : FullNodeId) → IsAt w s c → IsAt m s c ⊎ Left w u s c
  at_or_left s c at = ⊎_elim inl (λ n. inr (at, n)) (decide_at m s c)

  pub spots_after : (s : Seat) (c : FullNodeId) → IsAt m s c ↔ (Entered w u s c ⊎ (IsAt w s c × ¬ (Left w u s c)))
  spots_after s c = (to, from)
    where
      to : IsAt m s c → Entered w u s c ⊎ (IsAt w s c × ¬ (Left w u s c))
      to at = ⊎_elim (λ was. inr (was, λ l. l.1 at)) inl (at_or_entered s c at)

      from : Entered w u s c ⊎ (IsAt w s c × ¬ (Left w u s c)) → IsAt m s c
      from (inl e) = e.0
      from (inr k) = certain (decide_at m s c) (λ n. k.1 (k.0, n))

  -- what is reached in another tree was, and is
  pub reached_stays : (id : FullNodeId) → id.tree ≢ i → Reached w id → Reached m id
  reached_stays id other reached = reached_across w m id.tree (sym (tree_elsewhere w u id.tree other)) (λ x same. sym (data_elsewhere w u x (λ e. other (sym same ∙ e)))) id reached refl

  pub reached_before : (id : FullNodeId) → id.tree ≢ i → Reached m id → Reached w id
  reached_before id other reached = reached_across m w id.tree (tree_elsewhere w u id.tree other) (λ x same. data_elsewhere w u x (λ e. other (sym same ∙ e))) id reached refl

  module _ (o : IsOld w) where
    pub index_stays : (name : TreeId) (index : ℕ) → index_of w name ≡ Some index → index_of m name ≡ Some index
    index_stays name index is = index_of-known m name index (known_once_after w u o.known_once) (name_stays w u index name (known-index_of w name index is))

    pub index_here : index_of m u.name ≡ Some i
    index_here = index_of-known m u.name i (known_once_after w u o.known_once) (go (index_of w u.name) refl)
      where
        go : (x : Option ℕ) → index_of w u.name ≡ x → slice_get m.known (unwrap_or (index_of w u.name) (length w.known)) ≡ Some u.name
        go None e = rw (known_grows w u e) (rw e (slice_get_last w.known u.name))
        go (Some k) e = rw (known_stays w u k e) (rw e (known-index_of w u.name k e))

    -- the named tree has the name of the update alone
    pub name_here : (name : TreeId) → index_of m name ≡ Some i → name ≡ u.name
    name_here name is = index_of_once m name u.name i is index_here

    pub index_before : (name : TreeId) (index : ℕ) → index ≢ i → index_of m name ≡ Some index → index_of w name ≡ Some index
    index_before name index other is = index_of-known w name index o.known_once (go (index_of w u.name) refl)
      where
        at : slice_get m.known index ≡ Some name
        at = known-index_of m name index is

        go : (x : Option ℕ) → index_of w u.name ≡ x → slice_get w.known index ≡ Some name
        go None e = ⊎_elim (λ h. h) (λ h. absurd (other (h.0 ∙ sym (ap (λ y. unwrap_or y (length w.known)) e)))) (slice_get_push w.known u.name index name (subst (λ xs. slice_get xs index ≡ Some name) (known_grows w u e) at))
        go (Some k) e = subst (λ xs. slice_get xs index ≡ Some name) (known_stays w u k e) at

    pub root_named_stays : (name : TreeId) (id : FullNodeId) → id.tree ≢ i → root_named w name ≡ Some id → root_named m name ≡ Some id
    root_named_stays name id other is = let f = root_named_parts w name id is in root_named_from m name id.tree id (index_stays name id.tree f.0) (root_elsewhere id.tree other ∙ f.1)

    pub root_named_before : (name : TreeId) (id : FullNodeId) → id.tree ≢ i → root_named m name ≡ Some id → root_named w name ≡ Some id
    root_named_before name id other is = let f = root_named_parts m name id is in root_named_from w name id.tree id (index_before name id.tree other f.0) (sym (root_elsewhere id.tree other) ∙ f.1)

    -- in the old world each node has one spot
    pub spot_once : (s t : Seat) (c : FullNodeId) → IsAt w s c → IsAt w t c → s ≡ t
    spot_once None None c a b = refl
    spot_once None (Some q) c a b = absurd (o.root_unlisted q c.tree c a b)
    spot_once (Some p) None c a b = absurd (o.root_unlisted p c.tree c b a)
    spot_once (Some p) (Some q) c a b = ap Some (o.listed_once p q c a b)

    pub at_is_node : (s : Seat) (c : FullNodeId) → IsAt w s c → IsNode w c
    at_is_node None c at = o.root_is_node c.tree c at
    at_is_node (Some p) c at = o.listed_is_node p c at

    -- the root tree is the one with index 0
    pub index_zero : u.name ≡ ROOT_NAME → i ≡ 0
    index_zero same = go (index_of w u.name) refl w.known refl
      where
        first : (name : TreeId) → slice_get w.known 0 ≡ Some name → slice_get w.known 0 ≡ Some u.name
        first name at = at ∙ ap Some (o.known_first name at ∙ sym same)

        go : (x : Option ℕ) → index_of w u.name ≡ x → (xs : List TreeId) → w.known ≡ xs → unwrap_or (index_of w u.name) (length w.known) ≡ 0
        go None e [] k = rw e (rw k refl)
        go None e (y ∷ ys) k = absurd (unknown-index_of w u.name 0 e (first y (ap (λ xs. slice_get xs 0) k)))
        go (Some j) e [] k = let at : slice_get [] j ≡ Some u.name = subst (λ xs. slice_get xs j ≡ Some u.name) k (known-index_of w u.name j e) in cc
        go (Some j) e (y ∷ ys) k = rw e (o.known_once j 0 u.name (known-index_of w u.name j e) (first y (ap (λ xs. slice_get xs 0) k)))

    module _ (h : IsOpened w u) where
      pub zero_index : i ≡ 0 → u.name ≡ ROOT_NAME
      zero_index is = go (index_of w u.name) refl
        where
          none : (xs : List TreeId) → length xs ≡ 0 → xs ≡ []
          none [] e = refl
          none (x ∷ xs) e = absurd (omega (arith, e))

          go : (x : Option ℕ) → index_of w u.name ≡ x → u.name ≡ ROOT_NAME
          go None e = h.first_for_root (none w.known (sym (ap (λ y. unwrap_or y (length w.known)) e) ∙ is))
          go (Some k) e = o.known_first u.name (subst (λ j. slice_get w.known j ≡ Some u.name) (sym (ap (λ y. unwrap_or y (length w.known)) e) ∙ is) (known-index_of w u.name k e))

      -- the first known name is the root tree's
      pub first_after : (name : TreeId) → slice_get m.known 0 ≡ Some name → name ≡ ROOT_NAME
      first_after name at = go (index_of w u.name) refl
        where
          go : (x : Option ℕ) → index_of w u.name ≡ x → name ≡ ROOT_NAME
          go None e = ⊎_elim (o.known_first name) (λ f. sym f.1 ∙ zero_index (ap (λ y. unwrap_or y (length w.known)) e ∙ sym f.0)) (slice_get_push w.known u.name 0 name (subst (λ xs. slice_get xs 0 ≡ Some name) (known_grows w u e) at))
          go (Some k) e = o.known_first name (subst (λ xs. slice_get xs 0 ≡ Some name) (known_stays w u k e) at)

      -- the named tree has a root
      pub root_here : (root : FullNodeId) × (root_of m i ≡ Some root)
      root_here = go w.known refl
        where
          with_root : IsSome (root_after w u) → (root : FullNodeId) × (root_of m i ≡ Some root)
          with_root there = let r = value_of (root_after w u) there in (in_tree i r.0, ap (option_map (λ t. in_tree i t.root)) (tree_named w u r.0 r.1))

          later : ¬ (IsFirst w) → (t : Option Tree) → get w.trees i ≡ t → (root : FullNodeId) × (root_of m i ≡ Some root)
          later n None e = with_root (root_comes w u (h.later_has_info n e))
          later n (Some t) e = with_root (root_stays w u (IsSome_is t e))

          go : (xs : List TreeId) → w.known ≡ xs → (root : FullNodeId) × (root_of m i ≡ Some root)
          go [] e = with_root (root_comes w u (h.first_has_info e))
          go (x ∷ xs) e = later (λ none. let f : x ∷ xs ≡ [] = sym e ∙ none in cc) (get w.trees i) refl
