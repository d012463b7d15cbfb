-- An update that says what a state has changes nothing.
use Rattle.std.proofs.Common.{◌≡◌, ◌≢◌, ℕ, option_map, Bool, true, false, cond, List, [], ◌∷◌, Option, Some, None, IsSome, ◌⊎◌, inl, inr, ⊎_elim, refl, sym, ap, ◌∙◌, subst, map}
use Rattle.std.specs.Option.{option_map_or}
use Rattle.std.specs.Prelude.{Contains}
use Rattle.std.specs.Cmp.{nat_cmp_total}
use Rattle.std.specs.Ordering.{eq_by_cmp}
use Rattle.std.specs.FinMap.{FinMap, get, insert, same_map, nat_cmp-IsAntisymmetric, get-insert}
use Rattle.std.proofs.lemmas.Bool.{cases_eq}
use Rattle.std.proofs.lemmas.Map.Views.{tells_apart}
use Rattle.schema.specs.NodeData.{NodeData}
use Rattle.schema.specs.declared.NodeId.{NodeId}
use Rattle.model.specs.declared.FullNodeId.{FullNodeId}
use Rattle.model.specs.FullIds.{full_cmp, full_total, exact_full}
use Rattle.model.specs.World.{ROOT_NAME, World, Tree, IsNode, index_of, in_tree, root_of, root_named, graft_name, Place, Kept}
use Rattle.model.specs.World as world
use Rattle.model.specs.Update.{UpdateData, InfoData, Fault, MissingTreeInfo, NotRootTree, MissingData, NotReached, NamedTwice, ListedTwice, RootTreeGrafted, GraftWithChildren, GraftedTwice, NoGraft, NoFirstTreeInfo, FocusMissing, FocusOnEmptyGraft, IndexesUsedUp, StandsApart, Stands, IsListedAt, IsNamed, IsRebuild, IsAccepted, index_for, overwritten_nodes, merged_world}
use Rattle.model.specs.State.{IsState}
use Rattle.model.specs.Repeats.{Repeats}
use Rattle.model.specs.Events.{NodeUpdated, seen_in}
use Rattle.model.specs.Differences.{Updated, AreDifferences, told_root}
use Rattle.model.specs.Run.{ToUpdate, Accepted, Does}
use Rattle.model.proofs.Focus.FocusIsThere.{focus_exists}
use Rattle.model.proofs.Differences.SameWorlds.{nothing_told, root_to_tell}
use Rattle.model.proofs.Worlds.Names.{index_of-known, index_of_once}
use Rattle.model.proofs.State.StatePlaces.{IsSome_is, root_named_parts}
use Rattle.model.proofs.Update.Merges.{tree_named, tree_elsewhere, known_stays}
use Rattle.model.proofs.Update.UpdateLeavesState.{not_first}
use Rattle.model.proofs.Update.StateIsItsOwnRebuild.{own_rebuild}
use Rattle.model.proofs.Members.{contains_cases, contains_first, contains_later, contains_none}

no_some : {A : Type 0} (o : Option A) → o ≡ None → IsSome o → ⊥
no_some o e there = cc

-- ---- the merged world is the same

module _ (nodes : FinMap full_cmp NodeData) (index : ℕ) where
  by_test : (id k : FullNodeId) (d : NodeData) (o : Option NodeData) (b : Bool) → eq_by_cmp full_cmp id k ≡ b → get nodes k ≡ Some d → o ≡ get nodes id → cond b (Some d) o ≡ get nodes id
  by_test id k d o true e has same = sym has ∙ ap (get nodes) (sym (tells_apart exact_full id k e))
  by_test id k d o false e has same = same

  overwritten_same : (es : List (NodeId × NodeData)) (m : FinMap full_cmp NodeData) → ((id : FullNodeId) → get m id ≡ get nodes id) → ((e : NodeId × NodeData) → Contains es e → get nodes (in_tree index e.0) ≡ Some e.1) → (id : FullNodeId) → get (overwritten_nodes m index es) id ≡ get nodes id
  overwritten_same [] m same has id = same id
  overwritten_same (e ∷ es) m same has id =
      overwritten_same es (insert m (in_tree index e.0) e.1)
      (λ x. get-insert full_total m (in_tree index e.0) e.1 x ∙ by_test x (in_tree index e.0) e.1 (get m x) _ refl (has e (contains_first e es)) (same x))
      (λ d c. has d (contains_later e d es c)) id

named_entry : (u : List (NodeId × NodeData)) (n : NodeId) → Contains (map (λ e. e.0) u) n → (entry : NodeId × NodeData) × Contains u entry × (entry.0 ≡ n)
named_entry [] n c = absurd (contains_none n c)
named_entry (e ∷ es) n c = elim (contains_cases e.0 n (map (λ x. x.0) es) c) [ inl same ↦ (e, contains_first e es, same) | inr g ↦ let rest = named_entry es n g in (rest.0, contains_later e rest.0 es rest.1, rest.2) ]

module _ (w : World) (u : UpdateData) (s : IsState w) (r : Repeats w u) where
  index_is : index_for w u.name ≡ r.index
  index_is = rw r.known

  tree_is : Tree
  tree_is = r.tree

  same_tree : (index : ℕ) → get (merged_world w u).trees index ≡ get w.trees index
  same_tree index = go (cases_eq index (index_for w u.name))
    where
      as_it_was : Some (record { root = r.tree.root; focus = u.focus }) ≡ Some r.tree
      as_it_was = ap (λ f. let t : Tree = record { root = r.tree.root; focus = f } in Some t) r.focus

      go : (index ≡ index_for w u.name) ⊎ (index ≡ index_for w u.name → ⊥) → get (merged_world w u).trees index ≡ get w.trees index
      go (inl same) = ap (get (merged_world w u).trees) same ∙ tree_named w u r.tree.root r.root ∙ as_it_was ∙ sym r.present ∙ ap (get w.trees) (sym index_is ∙ sym same)
      go (inr other) = tree_elsewhere w u index other

  same_nodes : (id : FullNodeId) → get (merged_world w u).nodes id ≡ get w.nodes id
  same_nodes id = overwritten_same w.nodes (index_for w u.name) u.nodes w.nodes (λ x. refl) (λ e c. ap (λ i. get w.nodes (in_tree i e.0)) index_is ∙ r.nodes e c) id

  pub merged_same : merged_world w u ≡ w
  merged_same =
      let known : (merged_world w u).known ≡ w.known = known_stays w u r.index r.known in
      let trees : (merged_world w u).trees ≡ w.trees = same_map nat_cmp_total nat_cmp-IsAntisymmetric (merged_world w u).trees w.trees same_tree in
      let nodes : (merged_world w u).nodes ≡ w.nodes = same_map full_total exact_full (merged_world w u).nodes w.nodes same_nodes in
      let toolkit : (merged_world w u).toolkit ≡ w.toolkit = r.toolkit in
      λ i. record { known = known i; trees = trees i; nodes = nodes i; toolkit = toolkit i; host_focused = w.host_focused }

  -- ---- no fault stands

  again : IsState (merged_world w u)
  again = subst IsState (sym merged_same) s

  named_is_node : (id : FullNodeId) → IsNamed w u id → IsNode (merged_world w u) id
  named_is_node id h =
      let entry = named_entry u.nodes id.node h.1 in
      let tree : r.index ≡ id.tree = sym index_is ∙ sym h.0 in
      let name : entry.0.0 ≡ id.node = entry.2 in
      let same : in_tree r.index entry.0.0 ≡ id = λ i. record { tree = tree i; node = name i } in
      subst (λ x. IsNode x id) (sym merged_same) (subst (IsNode w) same (IsSome_is entry.0.1 (r.nodes entry.0 entry.1)))

  -- a present tree but the root tree is grafted
  grafted_there : (index : ℕ) → Kept w index → index ≡ r.index → u.name ≢ ROOT_NAME → (id : FullNodeId) × (graft_name w id ≡ Some u.name)
  grafted_there index world.Kept.root same other = absurd (other (index_of_once w u.name ROOT_NAME 0 (r.known ∙ ap Some (sym same)) (index_of-known w ROOT_NAME 0 s.known_once s.known_first)))
  grafted_there index (world.Kept.grafted graft inner name kept reached grafts named) same other =
      let parts = root_named_parts w name inner named in
      let one : name ≡ u.name = index_of_once w name u.name r.index (parts.0 ∙ ap Some same) r.known in
      (graft, grafts ∙ ap Some one)

  none_apart : (f : Fault) → ¬ (StandsApart w u f)
  none_apart MissingTreeInfo h = not_first w s h.0
  none_apart NotRootTree h = not_first w s h.0
  none_apart (MissingData n) h = h.2 (⊎_elim (λ root. again.root_is_node (index_for w u.name) h.0 root) (λ (l : (p : Place) × IsListedAt w u p h.0). again.listed_is_node l.0 h.0 l.1.1) h.3)
  none_apart (NotReached n) h = h.3 (again.node_reached h.0 (named_is_node h.0 h.2))
  none_apart (NamedTwice n) h = h.2 (r.once h.0 h.1 n h.3 h.4)
  none_apart (ListedTwice n) h = ⊎_elim (λ (q : (q : Place) × (h.2 ≢ q) × IsListedAt w u q h.0). q.1 (again.listed_once h.2 q.0 h.0 h.3.1 q.2.1)) (λ root. again.root_unlisted h.2 h.0.tree h.0 root h.3.1) h.4
  none_apart (RootTreeGrafted n) h = again.root_ungrafted h.0 h.2.1
  none_apart (GraftWithChildren n) h = h.4 (again.graft_childless h.0 h.2 h.3.1)
  none_apart (GraftedTwice name) h = h.2 (again.grafted_once h.0 h.1 name h.3.1 h.4.1)
  none_apart (NoGraft name) h =
      let there = grafted_there r.index (s.present_kept r.index (IsSome_is r.tree r.present)) refl (λ e. h.2 (sym h.1 ∙ e)) in
      h.3 there.0 (there.1 ∙ ap Some h.1)
  none_apart (NoFirstTreeInfo name) h = no_some (get w.trees r.index) (ap (get w.trees) (sym index_is) ∙ ap (λ n. get w.trees (index_for w n)) h.1 ∙ h.2) (IsSome_is r.tree r.present)
  none_apart (FocusMissing n) h = h
  none_apart (FocusOnEmptyGraft name) h = h
  none_apart IndexesUsedUp h = no_some (index_of w u.name) h.1 (IsSome_is r.index r.known)

  none_stands : (f : Fault) → ¬ (Stands w u f)
  none_stands (FocusMissing n) h = h.5 (again.node_reached h.2 (again.focus_is_node h.2 h.4))
  none_stands (FocusOnEmptyGraft name) h = let at = h.1 in no_some (root_named (merged_world w u) name) at.5 (again.focus_goes_on at.0 name at.1 at.4)
  none_stands f h = none_apart f h

  pub repeat_accepted : IsAccepted w u w
  repeat_accepted = (none_stands, subst (λ x. IsRebuild x w) (sym merged_same) (own_rebuild w s))

no_root_told : (index : ℕ) (info : Option InfoData) → (info ≡ None) ⊎ (index ≡ 0) → told_root index info ≡ None
no_root_told index info (inl none) = ap (told_root index) none
no_root_told index None (inr root) = refl
no_root_told index (Some info) (inr root) = ap (λ i. told_root i (Some info)) root

pub repeat_tells_nothing : (w : World) (u : UpdateData) → IsState w → Repeats w u → (u.info ≡ None) ⊎ (index_for w u.name ≡ 0) → Does w (ToUpdate u) w [] Accepted
repeat_tells_nothing w u s r h =
    let focus = focus_exists s in
    (repeat_accepted w u s r, [], subst (λ x. AreDifferences w w x []) (sym (no_root_told (index_for w u.name) u.info h)) (nothing_told w focus.0 focus.1), refl)

pub repeat_tells_root : (w : World) (u : UpdateData) (info : InfoData) → IsState w → Repeats w u → u.info ≡ Some info → index_for w u.name ≢ 0 → Does w (ToUpdate u) w (NodeUpdated (seen_in w (in_tree (index_for w u.name) info.root)) (seen_in w (in_tree (index_for w u.name) info.root)) ∷ []) Accepted
repeat_tells_root w u info s r is other =
    let focus = focus_exists s in
    let root : Some info.root ≡ Some r.tree.root = ap (λ o. option_map_or (λ i. Some i.root) o (option_map (λ t. t.root) (get w.trees (index_for w u.name)))) (sym is) ∙ r.root in
    let same : in_tree r.index r.tree.root ≡ in_tree (index_for w u.name) info.root = same_root root (index_is w u s r) in
    let there : IsNode w (in_tree (index_for w u.name) info.root) = subst (IsNode w) same (s.root_is_node r.index (in_tree r.index r.tree.root) (ap (option_map (λ t. in_tree r.index t.root)) r.present)) in
    (repeat_accepted w u s r, Updated (in_tree (index_for w u.name) info.root) ∷ [], subst (λ i. AreDifferences w w (told_root (index_for w u.name) i) (Updated (in_tree (index_for w u.name) info.root) ∷ [])) (sym is) (root_to_tell focus.0 w (index_for w u.name) info focus.1 other there), refl)
  where
    same_root : {a b : NodeId} {i j : ℕ} → Some a ≡ Some b → j ≡ i → in_tree i b ≡ in_tree j a
    same_root {a} {b} {i} {j} e f = let g : a ≡ b = cc in λ k. record { tree = sym f k; node = sym g k }
