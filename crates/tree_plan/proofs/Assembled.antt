-- What is written is the decision on the update.
use Rattle.std.proofs.Common.{Contains, ◌≡◌, ◌≢◌, ℕ, ◌<◌, Bool, true, false, List, [], ◌∷◌, ◌++◌, map, length, slice_get, get_or, Option, Some, None, IsSome, option_map, option_and_then, ◌⊎◌, inl, inr, ⊎_elim, ◌↔◌, refl, sym, ap, ◌∙◌, subst}
use Rattle.std.specs.Prelude.{AllPairs, is_some, if◌then◌else◌, ◌||◌}
use Rattle.std.specs.Option.{option_map_or}
use Rattle.std.specs.Cmp.{nat_cmp_total}
use Rattle.std.specs.FinMap.{get, same_map, nat_cmp-IsAntisymmetric}
use Rattle.std.specs.List.Sorted.{IsStrictlySortedBy}
use Rattle.std.proofs.lemmas.Option.{same_Some, slice_get-get_or}
use Rattle.schema.specs.NodeData.{NodeData}
use Rattle.schema.specs.declared.TreeId.{TreeId}
use Rattle.model.specs.declared.FullNodeId.{FullNodeId}
use Rattle.model.specs.FullIds.{full_cmp, full_total, exact_full}
use Rattle.model.specs.World.{ROOT_NAME, World, Tree, Place, IsNode, StandsAt, data_of, index_of, graft_name}
use Rattle.model.specs.Forest.{place_of}
use Rattle.model.specs.Focus.{IsFocus, IsEffectiveFocus, Resolves}
use Rattle.model.specs.Surgery.{IsOld}
use Rattle.model.specs.Update.{IsFirst, IsAccepted, IsRebuild, KeepsRules, index_for, merged_world}
use Rattle.model.specs.State.{IsState}
use Rattle.model.specs.Differences.{IsAdded, IsInBoth, IsUpdated, IsAscendingListOf, IsToldForFocus, AreOfFocus, told_root}
use Rattle.model.specs.declared.events.PlanEvent.{PlanEvent}
use Rattle.model.specs.declared.events.PlanEvent.TheVariants as told
use Rattle.model.specs.Run.{AreToldBy}
use Rattle.model.proofs.Worlds.Names.{index_of-known}
use Rattle.model.proofs.Update.Merges.{name_stays}
use Rattle.model.proofs.Forest.PlaceOf.{stands_at_place, place_is}
use Rattle.model.proofs.Forest.Rooted.{state_formed}
use Rattle.model.proofs.State.StatePlaces.{IsSome_is, value_of, child_is_node}
use Rattle.model.proofs.Surgery.OldWorlds.{old_state}
use Rattle.model.proofs.Closure.{IsDecided}
use Rattle.model.proofs.Members.{contains_none, contains_head, contains_later, contains_cases}
use Rattle.model.proofs.Update.RulesOrFault.{decide_grafted, rules_or_fault}
use Rattle.model.proofs.Surgery.OldUpdates.{old_leaves_state}
use Rattle.tree_changes.specs.declared.look_ups.TreeRecord.{TreeRecord}
use Rattle.tree_changes.specs.declared.decision.NodeChange.{NodeChange}
use Rattle.tree_changes.specs.declared.decision.NodeChange.TheVariants.{Put, Gone}
use Rattle.tree_changes.specs.declared.decision.Decision.{Decision}
use Rattle.tree_changes.specs.LookUps.{IsTreeRecord, tree_named}
use Rattle.tree_changes.specs.Changes.{change_at, put_all, put_trees, tree_from, if_kept, tree_after, tree_change, overlaid_world}
use Rattle.tree_changes.specs.Decisions.{IsChangeOf, Differs, TreeDiffers, listed_nodes, names_of, IsDecision}
use Rattle.tree_changes.proofs.Overlays.{effect, get-put_all, get-put_trees, tree_at, tree_at_same, tree_at_some, find_index, tree_change_in}
use Rattle.values_by_id.specs.Rows.{Ascends}
use Rattle.tree_plan.specs.declared.verdicts.Verdict.{Verdict}
use Rattle.tree_plan.specs.declared.verdicts.Verdict.TheVariants.{Added, Renewed, Moved, Told, Removed}
use Rattle.tree_plan.specs.declared.writing.Group.{Group}
use Rattle.tree_plan.specs.declared.writing.Group.TheVariants as group
use Rattle.tree_plan.specs.Passes.{at, IsOfName}
use Rattle.tree_plan.specs.Verdicts.{Transition, Becomes, Verdicts}
use Rattle.tree_plan.specs.Writing.{change_of, untold_updates, IsMove}
use Rattle.tree_plan.proofs.Adding.{is_among, has_entry}
use Rattle.tree_plan.proofs.Becoming.{standing_is_node, no_other}
use Rattle.tree_plan.proofs.Trees.{KnownAlike, AreAfter}
use Rattle.tree_plan.proofs.Listed.{Entries, ids_where, is_in, has_change, sorted_where, where_passes, passes_where, changes_in, changed_ids, change_at-in}

-- ---- one node

module _ (s : Transition) (id : FullNodeId) where
  data_after : (o : Option Verdict) → Becomes s id o → effect s.update.nodes (option_and_then change_of o) (data_of s.old id) ≡ data_of s.new id
  data_after None b = b.0.0
  data_after (Some (Added place entry)) b = b.1.1
  data_after (Some (Renewed place entry)) b = b.1.1
  data_after (Some (Moved place)) b = b.1.1
  data_after (Some Told) b = b.1.0
  data_after (Some Removed) b = sym (absent (data_of s.new id) b.1)
    where
      absent : (x : Option NodeData) → (IsSome x → ⊥) → x ≡ None
      absent None h = refl
      absent (Some d) h = absurd (h refl)

  -- without a change it stands where it stood
  unchanged_place : (o : Option Verdict) → Becomes s id o → option_and_then change_of o ≡ None → place_of s.old id ≡ place_of s.new id
  unchanged_place None b e = b.0.1
  unchanged_place (Some (Added place entry)) b e = cc
  unchanged_place (Some (Renewed place entry)) b e = cc
  unchanged_place (Some (Moved place)) b e = cc
  unchanged_place (Some Told) b e = b.1.1
  unchanged_place (Some Removed) b e = cc

  change_is : IsState s.new → (o : Option Verdict) (c : NodeChange) → Becomes s id o → option_and_then change_of o ≡ Some c → IsChangeOf s.old s.update s.new id c
  change_is t None c b e = cc
  change_is t (Some (Added place entry)) c b e = subst (IsChangeOf s.old s.update s.new id) (same_Some (Put place (Some entry)) c e) b.1.0
  change_is t (Some (Renewed place entry)) c b e = subst (IsChangeOf s.old s.update s.new id) (same_Some (Put place (Some entry)) c e) b.1.0
  change_is t (Some (Moved place)) c b e = subst (IsChangeOf s.old s.update s.new id) (same_Some (Put place None) c e) b.1.0
  change_is t (Some Told) c b e = cc
  change_is t (Some Removed) c b e = subst (IsChangeOf s.old s.update s.new id) (same_Some Gone c e) (record {
    place = no_other id s.new (λ p at. b.1 (child_is_node t p id at));
    data_found = b.0;
    differs = inl (λ same. b.1 (subst IsSome same b.0));
    given = λ some same. cc;
  })

  -- which group it is told with
  pub is_added : (v : Verdict) → Becomes s id (Some v) → is_in group.Added v ≡ true → IsAdded s.old s.new id
  is_added (Added place entry) b e = b.0
  is_added (Renewed place entry) b e = cc
  is_added (Moved place) b e = cc
  is_added Told b e = cc
  is_added Removed b e = cc

  added_in : (o : Option Verdict) → Becomes s id o → IsAdded s.old s.new id → (v : Verdict) × (o ≡ Some v) × (is_in group.Added v ≡ true)
  added_in None b a = absurd (a.1 (subst IsSome (sym b.0.0) a.0))
  added_in (Some (Added place entry)) b a = (Added place entry, refl, refl)
  added_in (Some (Renewed place entry)) b a = absurd (a.1 b.0.0)
  added_in (Some (Moved place)) b a = absurd (a.1 b.0.0)
  added_in (Some Told) b a = absurd (a.1 b.0.0)
  added_in (Some Removed) b a = absurd (a.1 b.0)

  abbrev root : Option FullNodeId
  root = told_root (index_for s.old s.update.name) s.update.info

  pub is_updated : (v : Verdict) → Becomes s id (Some v) → is_in group.Updated v ≡ true → IsUpdated s.old s.new root id
  is_updated (Added place entry) b e = cc
  is_updated (Renewed place entry) b e = (b.0, ⊎_elim (λ d. inl d) (λ p. inr (inl p)) b.1.0.differs)
  is_updated (Moved place) b e = (b.0, ⊎_elim (λ d. inl d) (λ p. inr (inl p)) b.1.0.differs)
  is_updated Told b e = (b.0, inr (inr b.2))
  is_updated Removed b e = cc

  updated_in : (o : Option Verdict) → Becomes s id o → IsUpdated s.old s.new root id → (v : Verdict) × (o ≡ Some v) × (is_in group.Updated v ≡ true)
  updated_in None b u = absurd (nothing u.1)
    where
      nothing : (data_of s.old id ≢ data_of s.new id) ⊎ (place_of s.old id ≢ place_of s.new id) ⊎ (root ≡ Some id) → ⊥
      nothing (inl d) = d b.0.0
      nothing (inr (inl p)) = p b.0.1
      nothing (inr (inr t)) = b.1 t
  updated_in (Some (Added place entry)) b u = absurd (b.0.1 u.0.0)
  updated_in (Some (Renewed place entry)) b u = (Renewed place entry, refl, refl)
  updated_in (Some (Moved place)) b u = (Moved place, refl, refl)
  updated_in (Some Told) b u = (Told, refl, refl)
  updated_in (Some Removed) b u = absurd (b.1 u.0.1)

  is_removed : (v : Verdict) → Becomes s id (Some v) → is_in group.Removed v ≡ true → IsAdded s.new s.old id
  is_removed (Added place entry) b e = cc
  is_removed (Renewed place entry) b e = cc
  is_removed (Moved place) b e = cc
  is_removed Told b e = cc
  is_removed Removed b e = b

  removed_in : (o : Option Verdict) → Becomes s id o → IsAdded s.new s.old id → (v : Verdict) × (o ≡ Some v) × (is_in group.Removed v ≡ true)
  removed_in None b a = absurd (a.1 (subst IsSome b.0.0 a.0))
  removed_in (Some (Added place entry)) b a = absurd (a.1 b.0.0)
  removed_in (Some (Renewed place entry)) b a = absurd (a.1 b.0.1)
  removed_in (Some (Moved place)) b a = absurd (a.1 b.0.1)
  removed_in (Some Told) b a = absurd (a.1 b.0.1)
  removed_in (Some Removed) b a = (Removed, refl, refl)

  -- a node of one of the worlds with no verdict is in both
  in_both : Becomes s id None → IsNode s.old id ⊎ IsNode s.new id → IsInBoth s.old s.new id
  in_both b (inl there) = (there, subst IsSome b.0.0 there)
  in_both b (inr there) = (subst IsSome (sym b.0.0) there, there)

  -- one in both with a verdict is told as updated
  both_updated : (v : Verdict) → Becomes s id (Some v) → IsInBoth s.old s.new id → is_in group.Updated v ≡ true
  both_updated (Added place entry) b h = absurd (b.0.1 h.0)
  both_updated (Renewed place entry) b h = refl
  both_updated (Moved place) b h = refl
  both_updated Told b h = refl
  both_updated Removed b h = absurd (b.1 h.1)

-- ---- all of them

focus_there : (v : World) (id : FullNodeId) → IsFocus v (Some id) → IsNode v id
focus_there v id f = ⊎_elim (λ (x : Resolves v f.1 id). x.4) (λ x. subst (IsNode v) (sym x.0) (IsSome_is f.2.1 f.2.2)) f.3

module _ (s : Transition) (vs : Verdicts) (sorted : Ascends vs) (becomes : (id : FullNodeId) → Becomes s id (at vs id)) where
  abbrev es : Entries
  es = vs

  listed : (g : Group) (P : FullNodeId → Type 0)
      → ((id : FullNodeId) (v : Verdict) → Becomes s id (Some v) → is_in g v ≡ true → P id)
      → ((id : FullNodeId) (o : Option Verdict) → Becomes s id o → P id → (v : Verdict) × (o ≡ Some v) × (is_in g v ≡ true))
      → IsAscendingListOf P (ids_where (is_in g) es)
  listed g P to from = record {
    ascending = sorted_where (is_in g) es sorted;
    members = λ id. (
      λ c. let v = where_passes (is_in g) es sorted id c in to id v.0 (subst (Becomes s id) v.1 (becomes id)) v.2,
      λ p. let v = from id (at vs id) (becomes id) p in passes_where (is_in g) es id v.0 v.1 v.2,
    );
  }

  pub added_listed : IsAscendingListOf (IsAdded s.old s.new) (ids_where (is_in group.Added) es)
  added_listed = listed group.Added (IsAdded s.old s.new) (λ id. is_added s id) (λ id. added_in s id)

  pub updated_listed : IsAscendingListOf (IsUpdated s.old s.new (told_root (index_for s.old s.update.name) s.update.info)) (ids_where (is_in group.Updated) es)
  updated_listed = listed group.Updated (IsUpdated s.old s.new (told_root (index_for s.old s.update.name) s.update.info)) (λ id. is_updated s id) (λ id. updated_in s id)

  pub removed_listed : IsAscendingListOf (IsAdded s.new s.old) (ids_where (is_in group.Removed) es)
  removed_listed = listed group.Removed (IsAdded s.new s.old) (λ id. is_removed s id) (λ id. removed_in s id)

  -- the focuses that are told as updated
  focus_ids : Option FullNodeId → List FullNodeId
  focus_ids None = []
  focus_ids (Some id) = if is_some (at vs id) then [] else (id ∷ [])

  focus_events : (o : Option FullNodeId) → untold_updates (at vs) o ≡ map told.Updated (focus_ids o)
  unfolding focus_ids
  focus_events None = refl
  focus_events (Some id) = go (is_some (at vs id))
    where
      go : (b : Bool) → (if b then [] else (told.Updated id ∷ [])) ≡ map told.Updated (if b then [] else (id ∷ []))
      go true = refl
      go false = refl

  focus_alone : (o : Option FullNodeId) → ((id : FullNodeId) → o ≡ Some id → IsNode s.old id ⊎ IsNode s.new id) → IsToldForFocus s.old s.new (ids_where (is_in group.Updated) es) o (focus_ids o)
  unfolding focus_ids
  focus_alone None there = refl
  focus_alone (Some id) there = go (at vs id) refl
    where
      go : (o : Option Verdict) → at vs id ≡ o → IsToldForFocus s.old s.new (ids_where (is_in group.Updated) es) (Some id) (if is_some (at vs id) then [] else (id ∷ []))
      go None e = inl (
        (in_both s id (subst (Becomes s id) e (becomes id)) (there id refl), λ c. let v = where_passes (is_in group.Updated) es sorted id c in let clash : None ≡ Some v.0 = sym e ∙ v.1 in cc),
        ap (λ (o : Option Verdict). if is_some o then [] else (id ∷ [])) e,
      )
      go (Some v) e = inr (
        λ h. h.1 (passes_where (is_in group.Updated) es id v e (both_updated s id v (subst (Becomes s id) e (becomes id)) h.0)),
        ap (λ (o : Option Verdict). if is_some o then [] else (id ∷ [])) e,
      )

  pub move_told : (before after : Option FullNodeId) (moved : List PlanEvent) → IsFocus s.old before → IsFocus s.new after → IsMove (at vs) before after moved → AreOfFocus s.old s.new (ids_where (is_in group.Updated) es) moved
  move_told before after moved a b (inl x) = (before, after, a, b, inl (x.0, x.1))
  move_told before after moved a b (inr x) = (
    before,
    after,
    a,
    b,
    inr (
      x.0,
      focus_ids before,
      focus_ids after,
      focus_alone before (λ id e. inl (focus_there s.old id (subst (IsFocus s.old) e a))),
      focus_alone after (λ id e. inr (focus_there s.new id (subst (IsFocus s.new) e b))),
      x.1 ∙ ap (λ xs. xs ++ untold_updates (at vs) after ++ told.FocusMoved before after ∷ []) (focus_events before) ∙ ap (λ xs. map told.Updated (focus_ids before) ++ xs ++ told.FocusMoved before after ∷ []) (focus_events after),
    ),
  )

  pub all_told : (before after : Option FullNodeId) (moved events : List PlanEvent) → IsFocus s.old before → IsFocus s.new after → IsMove (at vs) before after moved
      → events ≡ map told.Added (ids_where (is_in group.Added) es) ++ map told.Updated (ids_where (is_in group.Updated) es) ++ moved ++ map told.Removed (ids_where (is_in group.Removed) es)
      → AreToldBy s.old s.update s.new events
  all_told before after moved events a b is all = record {
    added = ids_where (is_in group.Added) es;
    updated = ids_where (is_in group.Updated) es;
    of_focus = moved;
    removed = ids_where (is_in group.Removed) es;
    are_added = added_listed;
    are_updated = updated_listed;
    are_of_focus = move_told before after moved a b is;
    are_removed = removed_listed;
    all = all;
  }

-- ---- the trees

module _ (new : World) (name : TreeId) (t : TreeRecord) (is : IsOfName new name t) where
  untree : index_of new name ≡ None → tree_named new name ≡ None
  untree e = ap (option_and_then (λ i. get new.trees i)) e

  with_record : IsTreeRecord new name (Some t) → (b : Bool) → b ≡ true → IsTreeRecord new name (if b then Some t else None)
  with_record h true e = h
  with_record h false e = cc

  some_record : IsSome t.index ⊎ IsSome t.graft → IsTreeRecord new name (Some t)
  some_record there = record {
    id = λ x e. subst (λ y. y.id ≡ name) (same_Some t x e) is.id;
    there = λ x e. subst (λ y. IsSome y.index ⊎ IsSome y.graft) (same_Some t x e) there;
    index = is.index;
    graft = is.graft;
    root = is.root;
    focus = is.focus;
  }

  no_record : t.index ≡ None → t.graft ≡ None → IsTreeRecord new name None
  no_record a b = record {
    id = λ x e. cc;
    there = λ x e. cc;
    index = sym a ∙ is.index;
    graft = λ g. (λ e. cc, λ e. let f : t.graft ≡ Some g = (is.graft g).1 e in let no : None ≡ Some g = sym b ∙ f in cc);
    root = sym (ap (option_map (λ t. t.root)) (untree (sym is.index ∙ a)));
    focus = sym (ap (option_map (λ t. t.focus)) (untree (sym is.index ∙ a)));
  }

  -- the record of a name where it is known or grafted
  pub kept_record : IsTreeRecord new name (if_kept t)
  kept_record = go t.index refl t.graft refl
    where
      go : (x : Option ℕ) → t.index ≡ x → (y : Option FullNodeId) → t.graft ≡ y → IsTreeRecord new name (if_kept t)
      go (Some i) e y f = with_record (some_record (inl (IsSome_is i e))) (is_some t.index || is_some t.graft) (ap (λ x. is_some x || is_some t.graft) e)
      go None e (Some g) f = with_record (some_record (inr (IsSome_is g f))) (is_some t.index || is_some t.graft) (ap (λ x. is_some x || is_some t.graft) e ∙ ap is_some f)
      go None e None f =
          let none : (is_some t.index || is_some t.graft) ≡ false = ap (λ x. is_some x || is_some t.graft) e ∙ ap is_some f in
          subst (λ b. IsTreeRecord new name (if b then Some t else None)) (sym none) (no_record e f)

  present_is : (q : ℕ) → t.index ≡ Some q → tree_from t.root t.focus ≡ get new.trees q
  present_is q at = go (tree_named new name) is.root is.focus ∙ ap (option_and_then (λ i. get new.trees i)) (sym is.index ∙ at)
    where
      go : (x : Option Tree) → t.root ≡ option_map (λ t. t.root) x → t.focus ≡ option_map (λ t. t.focus) x → tree_from t.root t.focus ≡ x
      go None e f = ap (λ x. tree_from x t.focus) e
      go (Some y) e f = ap (λ x. tree_from x t.focus) e ∙ ap (tree_from (Some y.root)) f

alike_record : {w new : World} (name : TreeId) (r : Option TreeRecord) → KnownAlike w new name → IsTreeRecord w name r → IsTreeRecord new name r
alike_record name r a is = record {
  id = is.id;
  there = is.there;
  index = is.index ∙ a.index;
  graft = λ g. let x = is.graft g in let y = a.graft g in (λ e. y.0 (x.0 e), λ e. x.1 (y.1 e));
  root = is.root ∙ ap (option_map (λ t. t.root)) a.tree;
  focus = is.focus ∙ ap (option_map (λ t. t.focus)) a.tree;
}

-- each name has a record, or none
module _ (w : World) (o : IsOld w) where
  pub record_of : (name : TreeId) → (r : Option TreeRecord) × IsTreeRecord w name r
  record_of name = go (decide_grafted w name)
    where
      with_graft : (g : Option FullNodeId) → ((x : FullNodeId) → (g ≡ Some x) ↔ (graft_name w x ≡ Some name)) → (r : Option TreeRecord) × IsTreeRecord w name r
      with_graft g is =
          let t : TreeRecord = record { id = name; index = index_of w name; graft = g; root = option_map (λ t. t.root) (tree_named w name); focus = option_map (λ t. t.focus) (tree_named w name) } in
          (if_kept t, kept_record w name t (record { id = refl; index = refl; graft = is; root = refl; focus = refl }))

      go : IsDecided ((g : FullNodeId) × (graft_name w g ≡ Some name)) → (r : Option TreeRecord) × IsTreeRecord w name r
      go (inl g) = with_graft (Some g.0) (λ x. (λ e. subst (λ y. graft_name w y ≡ Some name) (same_Some g.0 x e) g.1, λ e. ap Some (o.grafted_once g.0 x name g.1 e)))
      go (inr none) = with_graft None (λ x. (λ e. cc, λ e. absurd (none (x, e))))

not_there : {A : Type 0} (o : Option A) → (IsSome o → ⊥) → o ≡ None
not_there None h = refl
not_there (Some x) h = absurd (h refl)

-- an update that keeps the rules
pub record IsKept (s : Transition) : Type 0 where
  pub old : IsOld s.old
  pub kept : KeepsRules s.old s.update
  pub rebuilt : IsRebuild (merged_world s.old s.update) s.new

module _ (s : Transition) (h : IsKept s) (rs : List TreeRecord) (after : AreAfter s.old s.update h.old h.kept s.new h.rebuilt rs) where
  state : IsState s.new
  state = old_leaves_state s.old s.update h.old h.kept s.new h.rebuilt

  pub records_after : (name : TreeId) (r : Option TreeRecord) → IsTreeRecord s.old name r → IsTreeRecord s.new name (tree_after rs name r)
  records_after name r is = go (tree_change rs name) refl
    where
      go : (x : Option TreeRecord) → tree_change rs name ≡ x → IsTreeRecord s.new name (option_map_or if_kept (tree_change rs name) r)
      go None e = subst (λ x. IsTreeRecord s.new name (option_map_or if_kept x r)) (sym e) (alike_record name r (after.others name e) is)
      go (Some t) e =
          let c = tree_change_in rs name t e in
          subst (λ x. IsTreeRecord s.new name (option_map_or if_kept x r)) (sym e) (kept_record s.new name t (subst (λ n. IsOfName s.new n t) c.1 (after.each t c.0)))

  -- where no record has this index, the tree with it stays
  tree_stays : (q : ℕ) → ((t : TreeRecord) → Contains rs t → t.index ≢ Some q) → get s.old.trees q ≡ get s.new.trees q
  tree_stays q none = go (slice_get s.new.known q) refl
    where
      named : (name : TreeId) → index_of s.new name ≡ Some q → get s.old.trees q ≡ get s.new.trees q
      named name is =
          let out : tree_change rs name ≡ None = not_there (tree_change rs name) (λ there.
          let t = value_of (tree_change rs name) there in
          let c = tree_change_in rs name t.0 t.1 in
          none t.0 c.0 ((after.each t.0 c.0).index ∙ ap (index_of s.new) c.1 ∙ is)) in
          let a = after.others name out in
          sym (ap (option_and_then (λ i. get s.old.trees i)) (a.index ∙ is)) ∙ a.tree ∙ ap (option_and_then (λ i. get s.new.trees i)) is

      go : (x : Option TreeId) → slice_get s.new.known q ≡ x → get s.old.trees q ≡ get s.new.trees q
      go (Some name) e = named name (index_of-known s.new name q state.known_once e)
      go None e = old_none ∙ sym new_none
        where
          out : (xs : List TreeId) → slice_get xs q ≡ None → q < length xs → ⊥
          out xs none within = let at : slice_get xs q ≡ Some (get_or xs q ROOT_NAME) = slice_get-get_or xs q ROOT_NAME within in let clash : None ≡ Some (get_or xs q ROOT_NAME) = sym none ∙ at in cc

          new_none : get s.new.trees q ≡ None
          new_none = not_there (get s.new.trees q) (λ there. out s.new.known e (state.present_known q there))

          old_none : get s.old.trees q ≡ None
          old_none = not_there (get s.old.trees q) (λ there.
              let at : slice_get s.old.known q ≡ Some (get_or s.old.known q ROOT_NAME) = slice_get-get_or s.old.known q ROOT_NAME (h.old.present_known q there) in
              let stays : slice_get (merged_world s.old s.update).known q ≡ Some (get_or s.old.known q ROOT_NAME) = name_stays s.old s.update q (get_or s.old.known q ROOT_NAME) at in
              let clash : None ≡ Some (get_or s.old.known q ROOT_NAME) = sym e ∙ ap (λ k. slice_get k q) h.rebuilt.known ∙ stays in cc)

  pub trees_after : (q : ℕ) → get (put_trees s.old.trees rs) q ≡ get s.new.trees q
  trees_after q = get-put_trees s.old.trees rs q ∙ go (find_index rs q)
    where
      same : (t : TreeRecord) → Contains rs t → t.index ≡ Some q → tree_from t.root t.focus ≡ get s.new.trees q
      same t c is = present_is s.new t.id t (after.each t c) q is

      go : ((r : TreeRecord) × Contains rs r × (r.index ≡ Some q)) ⊎ ((r : TreeRecord) → Contains rs r → r.index ≢ Some q) → tree_at rs q (get s.old.trees q) ≡ get s.new.trees q
      go (inl x) = tree_at_some q (get s.new.trees q) rs (get s.old.trees q) x.0 same x.1 x.2
      go (inr none) = tree_at_same q (get s.new.trees q) rs (get s.old.trees q) same (tree_stays q none)

-- ---- the decision

-- the names of records
names_listed : (rs : List TreeRecord) (name : TreeId) → Contains (names_of rs) name → (t : TreeRecord) × Contains rs t × (t.id ≡ name)
names_listed [] name c = absurd (contains_none name c)
names_listed (r ∷ rs) name c = ⊎_elim
    (λ same. (r, contains_head r r rs refl, same))
    (λ d. let f = names_listed rs name d in (f.0, contains_later r f.0 rs f.1, f.2))
    (contains_cases r.id name (names_of rs) c)

listed_names : (rs : List TreeRecord) (t : TreeRecord) → Contains rs t → Contains (names_of rs) t.id
listed_names [] t c = absurd (contains_none t c)
listed_names (r ∷ rs) t c = ⊎_elim
    (λ same. contains_head r.id t.id (names_of rs) (ap (λ y. y.id) same))
    (λ d. contains_later r.id t.id (names_of rs) (listed_names rs t d))
    (contains_cases r t rs c)

-- the world without a change of places: a node stands where it stood
module _ (s : Transition) (h : IsKept s) (vs : Verdicts) (sorted : Ascends vs) (becomes : (id : FullNodeId) → Becomes s id (at vs id)) (rs : List TreeRecord) (after : AreAfter s.old s.update h.old h.kept s.new h.rebuilt rs) where
  state_new : IsState s.new
  state_new = old_leaves_state s.old s.update h.old h.kept s.new h.rebuilt

  change_by : (id : FullNodeId) → change_at (changes_in vs) id ≡ option_and_then change_of (at vs id)
  change_by id = change_at-in vs sorted id

  nodes_after : (id : FullNodeId) → get (put_all s.update.nodes s.old.nodes (changes_in vs)) id ≡ get s.new.nodes id
  nodes_after id =
      get-put_all s.update.nodes s.old.nodes (changes_in vs) id
      ∙ ap (λ c. effect s.update.nodes c (data_of s.old id)) (change_by id)
      ∙ data_after s id (at vs id) (becomes id)

  stays_there : (id : FullNodeId) (p : Place) → change_at (changes_in vs) id ≡ None → StandsAt s.old p id → StandsAt s.new p id
  stays_there id p none stands =
      let place : place_of s.old id ≡ Some p = (place_is s.old (state_formed (old_state h.old id (standing_is_node h.old p id stands))) id p).1 stands in
      let same : place_of s.old id ≡ place_of s.new id = unchanged_place s id (at vs id) (becomes id) (sym (change_by id) ∙ none) in
      stands_at_place s.new id p (sym same ∙ place)

  stood_there : (id : FullNodeId) (p : Place) → change_at (changes_in vs) id ≡ None → StandsAt s.new p id → StandsAt s.old p id
  stood_there id p none stands =
      let place : place_of s.new id ≡ Some p = (place_is s.new (state_formed state_new) id p).1 stands in
      let same : place_of s.old id ≡ place_of s.new id = unchanged_place s id (at vs id) (becomes id) (sym (change_by id) ∙ none) in
      stands_at_place s.old id p (same ∙ place)

  -- the nodes with a change are those that differ
  changed_differ : (id : FullNodeId) → Contains (map (λ e. e.0) (changes_in vs)) id ↔ Differs s.old s.new id
  changed_differ id = (
    λ c. let e = has_entry (changes_in vs) id c in (change_is s id state_new (at vs id) e.0 (becomes id) (sym (change_by id) ∙ e.1)).differs,
    λ differs. go differs (change_at (changes_in vs) id) refl,
  )
    where
      go : Differs s.old s.new id → (x : Option NodeChange) → change_at (changes_in vs) id ≡ x → Contains (map (λ e. e.0) (changes_in vs)) id
      go differs (Some c) e = is_among (changes_in vs) id c e
      go differs None e =
          let none : option_and_then change_of (at vs id) ≡ None = sym (change_by id) ∙ e in
          let same_data : data_of s.old id ≡ data_of s.new id = ap (λ c. effect s.update.nodes c (data_of s.old id)) (sym none) ∙ data_after s id (at vs id) (becomes id) in
          let same_place : place_of s.old id ≡ place_of s.new id = unchanged_place s id (at vs id) (becomes id) none in
          absurd (⊎_elim (λ other. other same_data) (λ other. other same_place) differs)

  -- and so it is of the trees
  named_differ : (name : TreeId) → Contains (names_of rs) name ↔ TreeDiffers s.old s.new name
  named_differ name = (
    λ c. let t = names_listed rs name c in subst (TreeDiffers s.old s.new) t.2 (after.differ t.0 t.1),
    λ differs. go differs (tree_change rs name) refl,
  )
    where
      go : TreeDiffers s.old s.new name → (x : Option TreeRecord) → tree_change rs name ≡ x → Contains (names_of rs) name
      go differs (Some t) e = let c = tree_change_in rs name t e in subst (Contains (names_of rs)) c.1 (listed_names rs t c.0)
      go differs None e = let r = record_of s.old h.old name in absurd (differs r.0 r.1 (alike_record name r.0 (after.others name e) r.1))

  module _ (d : Decision) (nodes : d.nodes.items ≡ changes_in vs) (trees : d.trees.items ≡ rs) where
    pub overlaid_is : overlaid_world s.old s.update d ≡ s.new
    overlaid_is =
        let known : (overlaid_world s.old s.update d).known ≡ s.new.known = sym h.rebuilt.known in
        let trees : (overlaid_world s.old s.update d).trees ≡ s.new.trees = same_map nat_cmp_total nat_cmp-IsAntisymmetric (put_trees s.old.trees d.trees.items) s.new.trees
        (λ q. ap (λ xs. get (put_trees s.old.trees xs) q) trees ∙ trees_after s h rs after q) in
        let nodes : (overlaid_world s.old s.update d).nodes ≡ s.new.nodes = same_map full_total exact_full (put_all s.update.nodes s.old.nodes d.nodes.items) s.new.nodes
        (λ id. ap (λ xs. get (put_all s.update.nodes s.old.nodes xs) id) nodes ∙ nodes_after id) in
        let toolkit : (overlaid_world s.old s.update d).toolkit ≡ s.new.toolkit = sym h.rebuilt.toolkit in
        let host : (overlaid_world s.old s.update d).host_focused ≡ s.new.host_focused = sym h.rebuilt.host in
        λ i. record { known = known i; trees = trees i; nodes = nodes i; toolkit = toolkit i; host_focused = host i }

    by_new : (P : World → Type 0) → P s.new → P (overlaid_world s.old s.update d)
    by_new P x = subst P (sym overlaid_is) x

    pub decision_is : IsEffectiveFocus s.new d.focus
        → AllPairs (λ a b. a.id ≢ b.id) d.trees.items
        → (¬ (IsFirst s.old) → AreToldBy s.old s.update s.new d.events.items) → (IsFirst s.old → d.events.items ≡ []) → IsDecision s.old s.update d
    decision_is focus once told quiet = record {
      accepted = by_new (IsAccepted s.old s.update) ((rules_or_fault s.old s.update).0 h.kept, h.rebuilt);
      ascending = subst (IsStrictlySortedBy full_cmp) (sym (ap (map (λ (c : FullNodeId × NodeChange). c.0)) nodes ∙ changed_ids vs)) (sorted_where has_change vs sorted);
      nodes_listed = λ id. by_new (λ v. Contains (listed_nodes d) id ↔ Differs s.old v id)
          (subst (λ xs. Contains (map (λ (c : FullNodeId × NodeChange). c.0) xs) id ↔ Differs s.old s.new id) (sym nodes) (changed_differ id));
      changes = λ id c e. by_new (λ v. IsChangeOf s.old s.update v id c)
          (change_is s id state_new (at vs id) c (becomes id) (sym (ap (λ xs. change_at xs id) nodes ∙ change_by id) ∙ e));
      others = λ id p e stands. by_new (λ v. StandsAt v p id) (stays_there id p (sym (ap (λ xs. change_at xs id) nodes) ∙ e) stands);
      others_back = λ id p e stands. stood_there id p (sym (ap (λ xs. change_at xs id) nodes) ∙ e) (subst (λ v. StandsAt v p id) overlaid_is stands);
      trees = λ name r is. by_new (λ v. IsTreeRecord v name (tree_after d.trees.items name r))
          (subst (λ xs. IsTreeRecord s.new name (tree_after xs name r)) (sym trees) (records_after s h rs after name r is));
      trees_once = once;
      trees_listed = λ name. by_new (λ v. Contains (names_of d.trees.items) name ↔ TreeDiffers s.old v name)
          (subst (λ xs. Contains (names_of xs) name ↔ TreeDiffers s.old s.new name) (sym trees) (named_differ name));
      focus = by_new (λ v. IsEffectiveFocus v d.focus) focus;
      told = λ later. by_new (λ v. AreToldBy s.old s.update v d.events.items) (told later);
      quiet = quiet;
    }
