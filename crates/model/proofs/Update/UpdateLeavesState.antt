-- The world that an accepted update leaves is a state.
use Rattle.std.proofs.Common.{Bool, ◌≡◌, ◌≢◌, ℕ, ◌-◌, ◌^◌, ◌<◌, ◌≤◌, List, [], ◌∷◌, length, slice_get, Option, Some, None, IsSome, option_map, inl, inr, ⊎_elim, refl, sym, ap, ◌∙◌, subst, arith}
use Rattle.std.specs.FinMap.{get, get-empty}
use Rattle.std.specs.Ordering.{nat_cmp}
use Rattle.std.proofs.lemmas.Bool.{cases_eq, cases_lt}
use Rattle.schema.specs.declared.TreeId.{TreeId}
use Rattle.model.specs.declared.FullNodeId.{FullNodeId}
use Rattle.model.specs.World.{ROOT_NAME, World, Tree, IsNode, data_of, in_tree, index_of, listed_ids, graft_name, root_of, root_named, Place, Reached, Kept}
use Rattle.model.specs.World as world
use Rattle.model.specs.Focus.{OnChain}
use Rattle.model.specs.Update.{UpdateData, InfoData, Fault, MissingTreeInfo, NotRootTree, MissingData, NotReached, NamedTwice, ListedTwice, RootTreeGrafted, GraftWithChildren, GraftedTwice, NoGraft, NoFirstTreeInfo, FocusMissing, FocusOnEmptyGraft, IndexesUsedUp, StandsApart, Stands, IsJudged, IsListedAt, IsGraftOf, IsFirst, IsRebuild, IsAccepted, index_for, merged_world}
use Rattle.model.specs.State.{empty_world, IsState, Lists}
use Rattle.model.proofs.Worlds.Names.{IsKnownOnce, cases_id, cases_place, cases_name, cases_some, certain}
use Rattle.model.proofs.State.StatePlaces.{IsSome_is, root_of_parts, root_of-tree, lister_is_node, graft_is_node, listed_tree}
use Rattle.model.proofs.Update.RebuildKeeps.{reached_present, chain_kept, node_kept, node_new, tree_kept, tree_same, listed_same, lists_old, grafts_old, root_of_old, root_named_new, reached_new, kept_new, chain_old}
use Rattle.model.proofs.Update.Merges.{root_comes, named_present, data_elsewhere, tree_elsewhere, tree_stays, tree_before, known_once_after, name_stays, length_stays, index_for_known, length_fits}

-- where no fault stands, none stands apart from those of the focus
pub none_apart : (old : World) (u : UpdateData) → ((f : Fault) → ¬ (Stands old u f)) → (f : Fault) → ¬ (StandsApart old u f)
none_apart old u none MissingTreeInfo h = none MissingTreeInfo h
none_apart old u none NotRootTree h = none NotRootTree h
none_apart old u none (MissingData n) h = none (MissingData n) h
none_apart old u none (NotReached n) h = none (NotReached n) h
none_apart old u none (NamedTwice n) h = none (NamedTwice n) h
none_apart old u none (ListedTwice n) h = none (ListedTwice n) h
none_apart old u none (RootTreeGrafted n) h = none (RootTreeGrafted n) h
none_apart old u none (GraftWithChildren n) h = none (GraftWithChildren n) h
none_apart old u none (GraftedTwice n) h = none (GraftedTwice n) h
none_apart old u none (NoGraft n) h = none (NoGraft n) h
none_apart old u none (NoFirstTreeInfo n) h = none (NoFirstTreeInfo n) h
none_apart old u none (FocusMissing n) h = h
none_apart old u none (FocusOnEmptyGraft n) h = h
none_apart old u none IndexesUsedUp h = none IndexesUsedUp h

-- the world before an update is a state or has no name
pub not_first : (w : World) → IsState w → ¬ (IsFirst w)
not_first w s first = let at : slice_get [] 0 ≡ Some ROOT_NAME = subst (λ k. slice_get k 0 ≡ Some ROOT_NAME) first s.known_first in cc

pub no_empty : {A : Type 0} (xs : List A) → (xs ≢ [] → ⊥) → xs ≡ []
no_empty [] h = refl
no_empty (x ∷ xs) h = absurd (h (λ e. cc))

-- what the old world gives to the merged one
pub record IsSound (m : World) : Type 0 where
  pub known_first : slice_get m.known 0 ≡ Some ROOT_NAME
  pub known_once : IsKnownOnce m.known
  pub known_fit : length m.known < 2 ^ 32
  pub root_present : IsSome (get m.trees 0)
  pub present_known : (index : ℕ) → IsSome (get m.trees index) → index < length m.known
  pub root_is_node : (index : ℕ) (id : FullNodeId) → root_of m index ≡ Some id → IsNode m id

module _ (old : World) (u : UpdateData) (none : (f : Fault) → ¬ (Stands old u f)) where
  named_root_is_node : (id : FullNodeId) → root_of (merged_world old u) (index_for old u.name) ≡ Some id → IsNode (merged_world old u) id
  named_root_is_node id is = certain (cases_some (data_of (merged_world old u) id)) (λ absent. none (MissingData id.node) (id, refl, absent, inl is))

  sound_after : IsState old → IsSound (merged_world old u)
  sound_after s = record {
    known_first = name_stays old u 0 ROOT_NAME s.known_first;
    known_once = known_once_after old u s.known_once;
    known_fit =
        let first : ¬ (IsFirst old) = not_first old s in
        let left : (index_of old u.name ≡ None) → length old.known < 2 ^ 32 - 1 = λ new. ⊎_elim (λ h. h) (λ h. absurd (none IndexesUsedUp (first, new, h))) (cases_lt (length old.known) (2 ^ 32 - 1)) in
        let fits : length (merged_world old u).known ≤ 2 ^ 32 - 1 = length_fits old u (2 ^ 32 - 1) (omega (arith, s.known_fit)) left in
        omega arith;
    root_present = tree_stays old u 0 s.root_present;
    present_known = λ index there. ⊎_elim (λ h. let k = s.present_known index h.0 in omega (arith, length_stays old u)) (λ same. subst (λ k. k < length (merged_world old u).known) (sym same) (index_for_known old u)) (tree_before old u index there);
    root_is_node = λ index id is. ⊎_elim
        (λ same. named_root_is_node id (subst (λ k. root_of (merged_world old u) k ≡ Some id) same is))
        (λ other.
        let was : root_of old index ≡ Some id = ap (option_map (λ t. in_tree index t.root)) (sym (tree_elsewhere old u index other)) ∙ is in
        let tree : index ≡ id.tree = root_of-tree (merged_world old u) index id is in
        subst IsSome (sym (data_elsewhere old u id (λ e. other (tree ∙ e)))) (s.root_is_node index id was))
        (cases_eq index (index_for old u.name));
  }

nothing_in : {A : Type 0} (o : Option A) → o ≡ None → IsSome o → ⊥
nothing_in o e there = cc

no_tree : (host : Bool) (index : ℕ) → IsSome (get (empty_world host).trees index) → ⊥
no_tree host index there = nothing_in (get (empty_world host).trees index) (get-empty nat_cmp index) there

module _ (host : Bool) (u : UpdateData) (none : (f : Fault) → ¬ (Stands (empty_world host) u f)) where
  sound_first : IsSound (merged_world (empty_world host) u)
  sound_first = record {
    known_first = ap Some (certain (cases_name u.name ROOT_NAME) (λ other. none NotRootTree (refl, other)));
    known_once = known_once_after (empty_world host) u (λ i j name at_i at_j. cc);
    known_fit = omega arith;
    root_present = named_present (empty_world host) u (root_comes (empty_world host) u (certain (cases_some u.info) (λ absent. none MissingTreeInfo (refl, missing u.info absent))));
    present_known = λ index there. ⊎_elim (λ h. absurd (no_tree host index h.0)) (λ same. subst (λ k. k < length (merged_world (empty_world host) u).known) (sym same) (index_for_known (empty_world host) u)) (tree_before (empty_world host) u index there);
    root_is_node = λ index id is. ⊎_elim
        (λ same. named_root_is_node (empty_world host) u none id (subst (λ k. root_of (merged_world (empty_world host) u) k ≡ Some id) same is))
        (λ other. let t = root_of_parts (merged_world (empty_world host) u) index id is in absurd (no_tree host index (IsSome_is t.0 (sym (tree_elsewhere (empty_world host) u index other) ∙ t.1))))
        (cases_eq index (index_for (empty_world host) u.name));
  }
    where
      missing : (o : Option InfoData) → (IsSome o → ⊥) → o ≡ None
      missing None absent = refl
      missing (Some x) absent = absurd (absent refl)

module _ (old : World) (u : UpdateData) (none : (f : Fault) → ¬ (Stands old u f)) (sound : IsSound (merged_world old u)) (new : World) (r : IsRebuild (merged_world old u) new) where
  counts : (id : FullNodeId) → IsNode new id → IsJudged old u id
  counts id there = inr (node_kept r id there)

  listed_there : (p : Place) (child : FullNodeId) → IsListedAt old u p child → IsNode (merged_world old u) child
  listed_there p child at = certain (cases_some (data_of (merged_world old u) child)) (λ absent. none (MissingData child.node) (child, refl, absent, inr (p, at)))

  -- a reached node of a kept tree has data
  reached_there : (id : FullNodeId) → Kept (merged_world old u) id.tree → Reached (merged_world old u) id → IsNode (merged_world old u) id
  reached_there id kept (world.Reached.root index t is) = sound.root_is_node index id (ap (option_map (λ t. in_tree index t.root)) is)
  reached_there id kept (world.Reached.child parent id' index reached at) = listed_there (parent, index) id (inr (subst (Kept (merged_world old u)) (listed_tree (merged_world old u) (parent, index) id at) kept, reached), at)

  listed_at : (p : Place) (child : FullNodeId) → Lists new p child → IsListedAt old u p child
  listed_at p child at = let there = lister_is_node new p child at in (counts p.0 there, lists_old r p child there at)

  graft_of : (id : FullNodeId) (name : TreeId) → graft_name new id ≡ Some name → IsGraftOf old u id name
  graft_of id name grafts = let there = graft_is_node new id name grafts in (counts id there, grafts_old r id name there grafts)

  -- the chain of the focus meets nodes alone
  chain_there : (id : FullNodeId) → OnChain new id → IsNode new id
  chain_there id on = certain (cases_some (data_of new id)) (λ absent. none (FocusMissing id.node) (none_apart old u none, (λ name empty. none (FocusOnEmptyGraft name) (none_apart old u none, empty)), id, refl, before, λ reached. absent (node_new r id kept reached (reached_there id kept reached))))
    where
      before : OnChain (merged_world old u) id
      before = chain_old r id on

      kept : Kept (merged_world old u) id.tree
      kept = chain_kept (merged_world old u) id before

  goes_on_there : (id : FullNodeId) (name : TreeId) → OnChain new id → graft_name new id ≡ Some name → IsSome (root_named new name)
  goes_on_there id name on grafts = go (root_named (merged_world old u) name) refl
    where
      there : IsNode new id
      there = graft_is_node new id name grafts

      k : Kept (merged_world old u) id.tree × Reached (merged_world old u) id
      k = node_kept r id there

      before : graft_name (merged_world old u) id ≡ Some name
      before = grafts_old r id name there grafts

      go : (o : Option FullNodeId) → root_named (merged_world old u) name ≡ o → IsSome (root_named new name)
      go None e = absurd (none (FocusOnEmptyGraft name) (none_apart old u none, (id, chain_old r id on, k.0, k.1, before, e)))
      go (Some inner) e = IsSome_is inner (root_named_new r name inner (world.Kept.grafted id inner name k.0 k.1 before e) e)

  pub state_after : IsState new
  state_after = record {
    known_first = rw (r.known) (sound.known_first);
    known_once = rw (r.known) (sound.known_once);
    known_fit = rw (r.known) (sound.known_fit);
    root_present = subst IsSome (sym (tree_same r 0 world.Kept.root)) sound.root_present;
    present_known = λ index there. rw (r.known) (sound.present_known index (subst IsSome (tree_same r index (tree_kept r index there)) there));
    present_kept = λ index there. kept_new r index (tree_kept r index there);
    node_present = λ id there. let k = node_kept r id there in subst IsSome (sym (tree_same r id.tree k.0)) (reached_present (merged_world old u) id k.1);
    node_reached = λ id there. let k = node_kept r id there in reached_new r id k.1 k.0;
    root_is_node = λ index id is.
        let was : root_of (merged_world old u) index ≡ Some id = root_of_old r index id is in
        let t = root_of_parts new index id is in
        let kept : Kept (merged_world old u) index = tree_kept r index (IsSome_is t.0 t.1) in
        let old_t = root_of_parts (merged_world old u) index id was in
        subst (IsNode new) old_t.2 (node_new r (in_tree index old_t.0.root) kept (world.Reached.root index old_t.0 old_t.1) (sound.root_is_node index (in_tree index old_t.0.root) (was ∙ ap Some (sym old_t.2))));
    listed_is_node = λ p child at.
        let there = lister_is_node new p child at in
        let k = node_kept r p.0 there in
        let was = lists_old r p child there at in
        node_new r child (subst (Kept (merged_world old u)) (sym (listed_tree (merged_world old u) p child was)) k.0) (world.Reached.child p.0 child p.1 k.1 was) (listed_there p child (listed_at p child at));
    listed_once = λ p q child at_p at_q. certain (cases_place p q) (λ other. none (ListedTwice child.node) (child, refl, p, listed_at p child at_p, inl (q, other, listed_at q child at_q)));
    root_unlisted = λ p index id is at.
        let was : root_of (merged_world old u) index ≡ Some id = root_of_old r index id is in
        none (ListedTwice id.node) (id, refl, p, listed_at p id at, inr (subst (λ k. root_of (merged_world old u) k ≡ Some id) (root_of-tree (merged_world old u) index id was) was));
    graft_childless = λ id name grafts.
        let there = graft_is_node new id name grafts in
        let k = node_kept r id there in
        listed_same r id k.0 k.1 ∙ no_empty (listed_ids (merged_world old u) id) (λ lists. none (GraftWithChildren id.node) (id, refl, name, graft_of id name grafts, lists));
    root_ungrafted = λ id grafts. none (RootTreeGrafted id.node) (id, refl, graft_of id ROOT_NAME grafts);
    grafted_once = λ id other name p q. certain (cases_id id other) (λ apart. none (GraftedTwice name) (id, other, apart, graft_of id name p, graft_of other name q));
    focus_is_node = chain_there;
    focus_goes_on = goes_on_there;
  }

-- an accepted update of a state leaves a state
pub update_leaves_state : (old : World) (u : UpdateData) (new : World) → IsState old → IsAccepted old u new → IsState new
update_leaves_state old u new s a = state_after old u a.0 (sound_after old u a.0 s) new a.1

-- so does a first update
pub first_leaves_state : (host : Bool) (u : UpdateData) (new : World) → IsAccepted (empty_world host) u new → IsState new
first_leaves_state host u new a = state_after (empty_world host) u a.0 (sound_first host u a.0) new a.1
