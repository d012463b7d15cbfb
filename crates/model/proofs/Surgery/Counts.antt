-- How much there is of what an update changes: what entered, what goes, the steps of the climbs, and the sum that bounds the look-ups.
use Rattle.std.proofs.Common.{Contains, Bool, true, false, ◌==◌, if◌then◌else◌, ◌≡◌, ℕ, zero, suc, ◌+◌, ◌*◌, ◌<◌, ◌≤◌, List, [], ◌∷◌, ◌++◌, length, map, slice_get, get_or, Option, Some, None, option_map, option_and_then, unwrap_or, ◌⊎◌, inl, inr, refl, sym, ap, ◌∙◌, subst, arith, length-append}
use Rattle.std.specs.Ordering.{eq_by_cmp}
use Rattle.std.specs.Bool.{Decides}
use Rattle.std.specs.Cmp.{eq_by_cmp_equiv}
use Rattle.std.specs.List.Sorted.{IsStrictlySortedBy}
use Rattle.std.proofs.lemmas.Option.{same_Some}
use Rattle.std.proofs.lemmas.List.{length-map}
use Rattle.std.proofs.lemmas.List.Elements.{Contains-append_left, Contains-append_right}
use Rattle.std.proofs.lemmas.Map.Keys.{IsDistinct-from_sorted}
use Rattle.std.proofs.lemmas.Map.Made.{length-le_from_is_member, is_member-Decides}
use Rattle.schema.specs.NodeData.{NodeData}
use Rattle.schema.specs.declared.NodeId.{NodeId}
use Rattle.model.specs.declared.FullNodeId.{FullNodeId}
use Rattle.model.specs.FullIds.{full_cmp, full_total}
use Rattle.model.specs.World.{World, in_tree, graft_name, root_of, root_named, Place}
use Rattle.model.specs.Update.{UpdateData, InfoData, IsNamed, IsRebuild, index_for, root_after, merged_world}
use Rattle.model.specs.State.{IsState}
use Rattle.model.specs.Differences.{told_root}
use Rattle.model.specs.Work.{Work, HasDepthInTree, IsSumOfDepths, IsWorkOf, IsChildOfNamed, named_ids, allowance}
use Rattle.model.specs.Surgery.{IsOld, Seat, Entered, HasEntered, Gone, IsMovedIn, IsLive, IsPassed, LeadsDown, AreSteps}
use Rattle.model.proofs.Worlds.Names.{same_id}
use Rattle.model.proofs.Members.{contains_none, contains_head, contains_later, contains_cases}
use Rattle.model.proofs.Forest.PlaceOf.{same_from_test, test_self}
use Rattle.model.proofs.Update.Merges.{tree_named}
use Rattle.model.proofs.Update.RebuildKeeps.{listed_same, node_kept, reached_new}
use Rattle.model.proofs.Work.WorkIsOne.{depth_unique}
use Rattle.model.proofs.Surgery.Spots.{lister_named, entered_tree, root_here}
use Rattle.model.proofs.Surgery.LiveAndGone.{gone_unlive, named_live}
use Rattle.model.proofs.Surgery.ClimbsUp.{steps_deep, reached_deep, leads_new}
use Rattle.model.proofs.Surgery.WhatIsTold.{gone_was}

-- ids in order, all of them among others, are no more than those
pub no_more : (xs ys : List FullNodeId) → IsStrictlySortedBy full_cmp xs → ((id : FullNodeId) → Contains xs id → Contains ys id) → length xs ≤ length ys
no_more xs ys sorted among =
    length-le_from_is_member (eq_by_cmp_equiv full_total) xs ys (IsDistinct-from_sorted full_cmp xs sorted)
    (λ q is. (is_member-Decides same ys q).1 (among q ((is_member-Decides same xs q).0 is)))
  where
    same : (a b : FullNodeId) → Decides (eq_by_cmp full_cmp a b) (a ≡ b)
    same a b = (same_from_test a b, λ e. subst (λ x. eq_by_cmp full_cmp a x ≡ true) e (test_self a))

named_in : (index : ℕ) (es : List (NodeId × NodeData)) (n : NodeId) (k : ℕ) → k < length (map (λ e. e.0) es) → get_or (map (λ e. e.0) es) k n ≡ n → Contains (map (λ e. in_tree index e.0) es) (in_tree index n)
named_in index [] n k fits at = absurd (omega arith)
named_in index (e ∷ es) n zero fits at = contains_head (in_tree index e.0) (in_tree index n) (map (λ e. in_tree index e.0) es) (ap (in_tree index) at)
named_in index (e ∷ es) n (suc k) fits at = contains_later (in_tree index e.0) (in_tree index n) (map (λ e. in_tree index e.0) es) (named_in index es n k (omega arith) at)

pub named_contained : (w : World) (u : UpdateData) (id : FullNodeId) → IsNamed w u id → Contains (named_ids w u) id
named_contained w u id n = subst (Contains (named_ids w u)) (same_id (in_tree (index_for w u.name) id.node) id (sym n.0) refl) (named_in (index_for w u.name) u.nodes id.node n.1.0 n.1.1 n.1.2)

module _ (w : World) (u : UpdateData) (o : IsOld w) (c : IsPassed w u) {new : World} (r : IsRebuild (merged_world w u) new) (work : Work) (is : IsWorkOf w u new work) where
  -- what entered a place is a child of a named node
  pub entered_is_child : (p : Place) (id : FullNodeId) → Entered w u (Some p) id → IsChildOfNamed w u new id
  entered_is_child p id e =
      let named = lister_named w u p id e.0 e.1 in
      let live = named_live w u o c.climbed p.0 named in
      (p, named_contained w u p.0 named, inr (subst (λ xs. slice_get xs p.1 ≡ Some id) (sym (listed_same r p.0 live.0 live.1)) e.0))

  pub entered_counted : (ids : List FullNodeId) → IsStrictlySortedBy full_cmp ids → ((id : FullNodeId) → Contains ids id → (p : Place) × Entered w u (Some p) id) → length ids ≤ work.children
  entered_counted ids sorted entered =
      let some : length ids ≤ length is.children = no_more ids is.children sorted (λ id has. let e = entered id has in (is.are_children.members id).1 (entered_is_child e.0 id e.1)) in
      let count : work.children ≡ length is.children = is.count_children in
      omega arith

  pub gone_counted : (ids : List FullNodeId) → IsStrictlySortedBy full_cmp ids → ((id : FullNodeId) → Contains ids id → Gone w u id) → length ids ≤ work.removed
  gone_counted ids sorted gone =
      let some : length ids ≤ length is.removed = no_more ids is.removed sorted (λ id has. (is.are_removed.members id).1 (gone_was o id (gone id has), λ there. gone_unlive w u o id (node_kept r id there) (gone id has))) in
      let count : work.removed ≡ length is.removed = is.count_removed in
      omega arith

  -- the steps from live nodes down to a node are no more than its depth
  pub steps_counted : IsState new → (q x : FullNodeId) (steps depth : ℕ) → IsLive w u x → LeadsDown (merged_world w u) x q steps → HasDepthInTree new q depth → steps ≤ depth
  steps_counted s q x steps depth live leads has =
      let top = reached_deep new x (reached_new r x live.1 live.0) in
      let same : top.0 + steps ≡ depth = depth_unique new s q (top.0 + steps) depth (steps_deep new x q steps top.0 (leads_new w u new r x q steps leads live) top.1) has in
      omega arith

  sum_counted : IsState new → (ids : List FullNodeId) (steps depths : ℕ) → AreSteps w u ids steps → IsSumOfDepths new ids depths → steps ≤ depths
  sum_counted s [] steps depths a d = let none : steps ≡ 0 = a in omega arith
  sum_counted s (q ∷ qs) steps depths a d =
      let here : a.0 ≤ d.0 = steps_counted s q a.2 a.0 d.0 a.3 a.4 d.2 in
      let rest : a.1 ≤ d.1 = sum_counted s qs a.1 d.1 a.5 d.3 in
      let sum : steps ≡ a.0 + a.1 = a.6 in
      let all : depths ≡ d.0 + d.1 = d.4 in
      omega arith

  -- climbs from the named nodes, in their order, take no more steps than the named nodes are deep, all together
  pub climbs_counted : IsState new → (steps : ℕ) → AreSteps w u (named_ids w u) steps → steps ≤ work.depths
  climbs_counted s steps a = sum_counted s (named_ids w u) steps work.depths a is.sum_depths

contains_map : {A B : Type 0} (f : A → B) (xs : List A) (x : A) → Contains xs x → Contains (map f xs) (f x)
contains_map f [] x h = absurd (contains_none x h)
contains_map {A} f (y ∷ ys) x h = go (contains_cases y x ys h) (contains_map f ys x)
  where
    go : (y ≡ x) ⊎ Contains ys x → (Contains ys x → Contains (map f ys) (f x)) → Contains (map f (y ∷ ys)) (f x)
    go (inl e) later = contains_head (f y) (f x) (map f ys) (ap f e)
    go (inr h) later = contains_later (f y) (f x) (map f ys) (later h)

-- the told root is the root of the named tree
pub told_is_root : (w : World) (u : UpdateData) (id : FullNodeId) → told_root (index_for w u.name) u.info ≡ Some id → root_of (merged_world w u) (index_for w u.name) ≡ Some id
told_is_root w u id e = go u.info refl e
  where
    by_test : (b : Bool) (x : FullNodeId) → (if b then None else Some x) ≡ Some id → x ≡ id
    by_test true x e = cc
    by_test false x e = same_Some x id e

    go : (o : Option InfoData) → u.info ≡ o → told_root (index_for w u.name) o ≡ Some id → root_of (merged_world w u) (index_for w u.name) ≡ Some id
    go None is e = cc
    go (Some info) is e =
        let after : root_after w u ≡ Some info.root = rw is refl in
        ap (option_map (λ t. in_tree (index_for w u.name) t.root)) (tree_named w u info.root after) ∙ ap Some (by_test (index_for w u.name == 0) (in_tree (index_for w u.name) info.root) e)

module _ (w : World) (u : UpdateData) (o : IsOld w) (c : IsPassed w u) {new : World} (r : IsRebuild (merged_world w u) new) (work : Work) (is : IsWorkOf w u new work) where
  grafted_root : FullNodeId → FullNodeId
  grafted_root n = unwrap_or (option_and_then (root_named w) (graft_name (merged_world w u) n)) n

  -- what has a verdict but that it goes: a named node, one that entered, the root of a tree that gets another graft, or the told root
  pub verdicts_counted : (ids : List FullNodeId) → IsStrictlySortedBy full_cmp ids
      → ((id : FullNodeId) → Contains ids id → IsNamed w u id ⊎ (HasEntered w u id ⊎ (IsMovedIn w u id ⊎ (told_root (index_for w u.name) u.info ≡ Some id))))
      → length ids ≤ 2 * work.named + work.children + 1
  unfolding grafted_root
  verdicts_counted ids sorted told =
      let some : length ids ≤ length all = no_more ids all sorted (λ id has. among id (told id has)) in
      let count_children : work.children ≡ length is.children = is.count_children in
      let count_named : work.named ≡ length u.nodes = is.count_named in
      let named : length (named_ids w u) ≡ length u.nodes = length-map u.nodes (λ e. in_tree (index_for w u.name) e.0) in
      let grafted : length (map grafted_root (named_ids w u)) ≡ length (named_ids w u) = length-map (named_ids w u) grafted_root in
      let a : length all ≡ length (named_ids w u) + length (is.children ++ (map grafted_root (named_ids w u) ++ root.0 ∷ [])) = length-append (named_ids w u) (is.children ++ (map grafted_root (named_ids w u) ++ root.0 ∷ [])) in
      let b : length (is.children ++ (map grafted_root (named_ids w u) ++ root.0 ∷ [])) ≡ length is.children + length (map grafted_root (named_ids w u) ++ root.0 ∷ []) = length-append is.children (map grafted_root (named_ids w u) ++ root.0 ∷ []) in
      let d : length (map grafted_root (named_ids w u) ++ root.0 ∷ []) ≡ length (map grafted_root (named_ids w u)) + 1 = length-append (map grafted_root (named_ids w u)) (root.0 ∷ []) in
      omega arith
    where
      root : (root : FullNodeId) × (root_of (merged_world w u) (index_for w u.name) ≡ Some root)
      root = root_here w u o c.climbed.refined.removed.settled.compared.opened

      all : List FullNodeId
      all = named_ids w u ++ (is.children ++ (map grafted_root (named_ids w u) ++ root.0 ∷ []))

      in_rest : (id : FullNodeId) → Contains (map grafted_root (named_ids w u) ++ root.0 ∷ []) id → Contains all id
      in_rest id h = Contains-append_right (named_ids w u) (is.children ++ (map grafted_root (named_ids w u) ++ root.0 ∷ [])) id (Contains-append_right is.children (map grafted_root (named_ids w u) ++ root.0 ∷ []) id h)

      is_root : (id : FullNodeId) → root_of (merged_world w u) (index_for w u.name) ≡ Some id → Contains all id
      is_root id e = in_rest id (Contains-append_right (map grafted_root (named_ids w u)) (root.0 ∷ []) id (contains_head root.0 id [] (same_Some root.0 id (sym root.1 ∙ e))))

      entered : (id : FullNodeId) (s : Seat) → Entered w u s id → Contains all id
      entered id None e = is_root id (subst (λ k. root_of (merged_world w u) k ≡ Some id) (entered_tree w u None id e) e.0)
      entered id (Some p) e =
          Contains-append_right (named_ids w u) (is.children ++ (map grafted_root (named_ids w u) ++ root.0 ∷ [])) id
          (Contains-append_left is.children (map grafted_root (named_ids w u) ++ root.0 ∷ []) id ((is.are_children.members id).1 (entered_is_child w u o c r work is p id e)))

      moved : (id : FullNodeId) → IsMovedIn w u id → Contains all id
      moved id h =
          let same : grafted_root h.0 ≡ id = ap (λ x. unwrap_or (option_and_then (root_named w) x) h.0) h.3 ∙ ap (λ x. unwrap_or x h.0) h.5 in
          in_rest id (Contains-append_left (map grafted_root (named_ids w u)) (root.0 ∷ []) id (subst (Contains (map grafted_root (named_ids w u))) same (contains_map grafted_root (named_ids w u) h.0 (named_contained w u h.0 h.2))))

      among : (id : FullNodeId) → IsNamed w u id ⊎ (HasEntered w u id ⊎ (IsMovedIn w u id ⊎ (told_root (index_for w u.name) u.info ≡ Some id))) → Contains all id
      among id (inl named) = Contains-append_left (named_ids w u) (is.children ++ (map grafted_root (named_ids w u) ++ root.0 ∷ [])) id (named_contained w u id named)
      among id (inr (inl e)) = entered id e.0 e.1
      among id (inr (inr (inl h))) = moved id h
      among id (inr (inr (inr t))) = is_root id (told_is_root w u id t)

-- (v): the sum of the table
pub sum_allowed : (work : Work) (compared settled removed climbed regrafted focused changes events : ℕ)
    → compared ≤ work.named + 1
    → settled ≤ work.children + 1
    → removed ≤ 2 * work.removed + work.named
    → climbed ≤ work.depths
    → regrafted ≤ work.named
    → focused ≤ 4 * work.known + 2
    → changes ≤ 4 * work.named + work.children + 2 * work.removed + 2
    → events ≤ 2 * work.named + work.children + work.removed + 4
    → compared + settled + removed + climbed + regrafted + focused + 2 * changes + 2 * events ≤ allowance work
sum_allowed work compared settled removed climbed regrafted focused changes events a b c d e f g h = omega arith
