-- The lengths of a decision's lists.
use Rattle.std.proofs.Common.{Contains, ◌≡◌, ◌+◌, ◌*◌, ◌≤◌, Bool, true, false, not, List, [], ◌∷◌, ◌++◌, length, Option, Some, None, ◌⊎◌, inl, inr, ⊎_elim, refl, sym, ap, ◌∙◌, subst, arith, length-append}
use Rattle.std.specs.Prelude.{is_some, if◌then◌else◌}
use Rattle.std.specs.List.{flat_map}
use Rattle.std.specs.List.Sorted.{IsStrictlySortedBy}
use Rattle.std.specs.Map.{keys_of}
use Rattle.values_by_id.specs.Rows.{Ascends}
use Rattle.std.proofs.lemmas.List.{length-map}
use Rattle.std.proofs.lemmas.Option.{same_Some}
use Rattle.std.proofs.lemmas.List.Elements.{Contains-append_left, Contains-append_right}
use Rattle.model.specs.declared.FullNodeId.{FullNodeId}
use Rattle.model.specs.declared.events.PlanEvent.{PlanEvent}
use Rattle.model.specs.declared.events.PlanEvent.TheVariants as told
use Rattle.model.specs.FullIds.{full_cmp}
use Rattle.model.specs.World.{root_of}
use Rattle.model.specs.Update.{IsNamed, index_for, merged_world}
use Rattle.model.specs.Differences.{told_root}
use Rattle.model.specs.Work.{Work, IsWorkOf}
use Rattle.model.specs.Surgery.{Seat, Entered, HasEntered, IsMovedIn, IsPassed}
use Rattle.model.proofs.Members.{contains_head}
use Rattle.model.proofs.Surgery.Spots.{entered_tree, root_here}
use Rattle.model.proofs.Surgery.WhatIsTold.{added_iff, updated_iff}
use Rattle.model.proofs.Surgery.Counts.{no_more, entered_is_child, gone_counted, verdicts_counted}
use Rattle.model.proofs.Surgery.RulesArePassed.{rules_passed}
use Rattle.tree_plan.specs.declared.passes.Focused.{Focused}
use Rattle.tree_plan.specs.declared.verdicts.Verdict.{Verdict}
use Rattle.tree_plan.specs.declared.verdicts.Verdict.TheVariants.{Added, Renewed, Moved, Told, Removed}
use Rattle.tree_plan.specs.declared.verdicts.Found.{Found}
use Rattle.tree_plan.specs.declared.writing.Group.TheVariants as group
use Rattle.tree_plan.specs.Passes.{at}
use Rattle.tree_plan.specs.Verdicts.{Transition, IsFound, Becomes, Verdicts}
use Rattle.tree_plan.specs.Writing.{event_of, told_of, untold_updates, IsMove, AreEvents}
use Rattle.tree_plan.proofs.Adding.{has_entry, has_member}
use Rattle.tree_plan.proofs.Arrived.{arrived}
use Rattle.tree_plan.proofs.Listed.{ids_where, is_in, sorted_where, where_passes, told-where, three_groups, length-both, changes_in, length-changes}
use Rattle.tree_plan.proofs.Assembled.{is_updated, removed_listed}

module _ (s : Transition) (f : Found) (h : IsFound s f) (work : Work) (is : IsWorkOf s.old s.update s.new work) where
  passed : IsPassed s.old s.update
  passed = rules_passed s.old s.update h.old h.kept

  -- what entered: children of named nodes, and the root
  pub entered_small : Ascends f.compared.entered → length f.compared.entered ≤ work.children + 1
  entered_small sorted =
      let some : length (keys_of f.compared.entered) ≤ length (is.children ++ root.0 ∷ []) = no_more (keys_of f.compared.entered) (is.children ++ root.0 ∷ []) sorted (λ id has. let e = has_entry f.compared.entered id has in among id e.0.spot (arrived s.old s.update f.compared h.comparison id e.0 e.1)) in
      let a : length (is.children ++ root.0 ∷ []) ≡ length is.children + 1 = length-append is.children (root.0 ∷ []) in
      let b : work.children ≡ length is.children = is.count_children in
      let c : length (keys_of f.compared.entered) ≡ length f.compared.entered = length-map f.compared.entered (λ e. e.0) in
      omega arith
    where
      root : (root : FullNodeId) × (root_of (merged_world s.old s.update) (index_for s.old s.update.name) ≡ Some root)
      root = root_here s.old s.update h.old passed.climbed.refined.removed.settled.compared.opened

      among : (id : FullNodeId) (spot : Seat) → Entered s.old s.update spot id → Contains (is.children ++ root.0 ∷ []) id
      among id (Some p) e = Contains-append_left is.children (root.0 ∷ []) id ((is.are_children.members id).1 (entered_is_child s.old s.update h.old passed h.rebuilt work is p id e))
      among id None e =
          let here : root_of (merged_world s.old s.update) (index_for s.old s.update.name) ≡ Some id = subst (λ k. root_of (merged_world s.old s.update) k ≡ Some id) (entered_tree s.old s.update None id e) e.0 in
          Contains-append_right is.children (root.0 ∷ []) id (contains_head root.0 id [] (same_Some root.0 id (sym root.1 ∙ here)))

  pub gone_small : IsStrictlySortedBy full_cmp f.removed.gone.keys → length f.removed.gone.keys ≤ work.removed
  gone_small sorted = gone_counted s.old s.update h.old passed h.rebuilt work is f.removed.gone.keys sorted (λ id has. (h.removal.gone id).0 (has_member f.removed.gone.keys id has))

  module _ (vs : Verdicts) (sorted : Ascends vs) (becomes : (id : FullNodeId) → Becomes s id (at vs id)) where
    gone_verdicts : length (ids_where (is_in group.Removed) vs) ≤ work.removed
    gone_verdicts =
        let some : length (ids_where (is_in group.Removed) vs) ≤ length is.removed = no_more (ids_where (is_in group.Removed) vs) is.removed (sorted_where (is_in group.Removed) vs sorted)
        (λ id has. (is.are_removed.members id).1 (((removed_listed s vs sorted becomes).members id).0 has)) in
        let count : work.removed ≡ length is.removed = is.count_removed in
        omega arith

    abbrev Touched : FullNodeId → Type 0
    Touched id = IsNamed s.old s.update id ⊎ (HasEntered s.old s.update id ⊎ (IsMovedIn s.old s.update id ⊎ (told_root (index_for s.old s.update.name) s.update.info ≡ Some id)))

    touched : (id : FullNodeId) (v : Verdict) → Becomes s id (Some v) → not (is_in group.Removed v) ≡ true → Touched id
    touched id (Added place entry) b e = inl ((added_iff s.old s.update h.old passed h.kept h.rebuilt id).0 b.0).0
    touched id (Renewed place entry) b e = ⊎_elim (λ n. inl n.0) (λ x. inr x) ((updated_iff s.old s.update h.old passed h.kept h.rebuilt (told_root (index_for s.old s.update.name) s.update.info) id).0 (is_updated s id (Renewed place entry) b refl)).1
    touched id (Moved place) b e = ⊎_elim (λ n. inl n.0) (λ x. inr x) ((updated_iff s.old s.update h.old passed h.kept h.rebuilt (told_root (index_for s.old s.update.name) s.update.info) id).0 (is_updated s id (Moved place) b refl)).1
    touched id Told b e = inr (inr (inr b.2))
    touched id Removed b e = cc

    other_verdicts : length (ids_where (λ v. not (is_in group.Removed v)) vs) ≤ 2 * work.named + work.children + 1
    other_verdicts =
        verdicts_counted s.old s.update h.old passed h.rebuilt work is (ids_where (λ v. not (is_in group.Removed v)) vs) (sorted_where (λ v. not (is_in group.Removed v)) vs sorted)
        (λ id has. let v = where_passes (λ v. not (is_in group.Removed v)) vs sorted id has in touched id v.0 (subst (Becomes s id) v.1 (becomes id)) v.2)

    pub verdicts_small : length vs ≤ 2 * work.named + work.children + work.removed + 1
    verdicts_small =
        let a = gone_verdicts in
        let b = other_verdicts in
        let both = length-both (is_in group.Removed) vs in
        omega arith

    pub changes_small : length (changes_in vs) ≤ 2 * work.named + work.children + work.removed + 1
    changes_small = let a = verdicts_small in let b = length-changes vs in omega arith

    untold_small : (o : Option FullNodeId) → length (untold_updates (at vs) o) ≤ 1
    untold_small None = omega arith
    untold_small (Some id) = go (is_some (at vs id))
      where
        go : (b : Bool) → length (if b then [] else (told.Updated id ∷ [])) ≤ 1
        go true = omega arith
        go false = omega arith

    move_small : (before after : Option FullNodeId) (moved : List PlanEvent) → IsMove (at vs) before after moved → length moved ≤ 3
    move_small before after moved (inl x) = let e : length moved ≡ 0 = ap length x.1 in omega arith
    move_small before after moved (inr x) =
        let e = ap length x.1 in
        let a = length-append (untold_updates (at vs) before ++ untold_updates (at vs) after) (told.FocusMoved before after ∷ []) in
        let b = length-append (untold_updates (at vs) before) (untold_updates (at vs) after) in
        let c = untold_small before in
        let d = untold_small after in
        omega arith

    pub events_small : (focused : Focused) (events : List PlanEvent) → AreEvents vs focused events → length events ≤ 2 * work.named + work.children + work.removed + 4
    events_small focused events all =
        let added = flat_map (told_of group.Added) vs in
        let updated = flat_map (told_of group.Updated) vs in
        let removed = flat_map (told_of group.Removed) vs in
        let e = ap length all.all in
        let a = length-append (added ++ updated ++ all.moved) removed in
        let b = length-append (added ++ updated) all.moved in
        let c = length-append added updated in
        let x = ap length (told-where group.Added vs) ∙ length-map (ids_where (is_in group.Added) vs) (event_of group.Added) in
        let y = ap length (told-where group.Updated vs) ∙ length-map (ids_where (is_in group.Updated) vs) (event_of group.Updated) in
        let z = ap length (told-where group.Removed vs) ∙ length-map (ids_where (is_in group.Removed) vs) (event_of group.Removed) in
        let m = move_small focused.before focused.after all.moved all.is_move in
        let t = three_groups vs in
        let v = verdicts_small in
        omega arith
