-- Changes that give nodes other data, which keep the forest, are the decision on the update.
use Rattle.std.proofs.Common.{Contains, ◌≡◌, ◌≢◌, ℕ, Bool, true, false, cond, List, [], ◌∷◌, ◌++◌, map, length, slice_get, Option, Some, None, option_map, inl, inr, ⊎_elim, ◌↔◌, refl, sym, ap, ◌∙◌, subst, arith}
use Rattle.std.specs.Prelude.{AllPairs}
use Rattle.std.specs.Map.{keys_of}
use Rattle.std.specs.BTreeMap.{is_at}
use Rattle.std.specs.List.Sorted.{IsStrictlySortedBy}
use Rattle.std.proofs.lemmas.Option.{slice_get-map, slice_get_within}
use Rattle.values_by_id.specs.Rows.{Ascends, row_at}
use Rattle.schema.specs.NodeData.{NodeData}
use Rattle.schema.specs.declared.NodeId.{NodeId}
use Rattle.model.specs.declared.FullNodeId.{FullNodeId}
use Rattle.model.specs.FullIds.{full_cmp}
use Rattle.model.specs.declared.events.PlanEvent.{PlanEvent}
use Rattle.model.specs.declared.events.PlanEvent.TheVariants as told
use Rattle.model.specs.World.{World, HasData, data_of, in_tree}
use Rattle.model.specs.Focus.{IsEffectiveFocus}
use Rattle.model.specs.Surgery.{IsOld}
use Rattle.model.specs.Differences.{told_root}
use Rattle.model.specs.Run.{AreToldBy}
use Rattle.model.specs.Update.{UpdateData, IsNamed, index_for, merged_world}
use Rattle.model.proofs.Worlds.Names.{same_id}
use Rattle.model.proofs.Closure.{IsDecided}
use Rattle.model.proofs.Members.{contains_head, contains_later}
use Rattle.model.proofs.State.StatePlaces.{IsSome_is, map_some}
use Rattle.model.proofs.Focus.FocusIsThere.{focus_exists}
use Rattle.model.proofs.Update.AcceptedOrFault.{decide_named}
use Rattle.model.proofs.Surgery.Spots.{unnamed_data}
use Rattle.tree_changes.specs.declared.decision.NodeChange.{NodeChange}
use Rattle.tree_changes.specs.declared.decision.NodeChange.TheVariants.{Put, Gone}
use Rattle.tree_changes.specs.declared.decision.Decision.{Decision}
use Rattle.tree_changes.specs.Changes.{NodeChanges, entry_data}
use Rattle.tree_changes.specs.Decisions.{IsDecision}
use Rattle.tree_plan.specs.declared.passes.Opened.{Opened}
use Rattle.tree_plan.specs.declared.verdicts.Verdict.{Verdict}
use Rattle.tree_plan.specs.declared.verdicts.Verdict.TheVariants.{Renewed, Moved, Removed}
use Rattle.tree_plan.specs.declared.writing.Group.TheVariants as group
use Rattle.tree_plan.specs.Passes.{at, HoldsOpened}
use Rattle.tree_plan.specs.Verdicts.{Transition, Becomes, Verdicts}
use Rattle.tree_plan.specs.Writing.{own_record, change_entry}
use Rattle.tree_plan.specs.News.{AllKeep, IsNewsOf, AreNews, IsNamedOnce}
use Rattle.tree_plan.proofs.Entries.{entry_named}
use Rattle.tree_plan.proofs.IdMaps.{at_contains, contains_at, read_here}
use Rattle.tree_plan.proofs.Listed.{ids_where, is_in, changes_in}
use Rattle.tree_plan.proofs.Assembled.{IsKept, all_told, decision_is}
use Rattle.tree_plan.proofs.SameTrees.{later}
use Rattle.tree_plan.proofs.OtherData.{named_data, rules, rebuilt, state_before, place_same, place_now, none_after, effective_now, focus_now}

-- ---- changes as verdicts

abbrev pub verdict_of : NodeChange → Verdict
verdict_of (Put place (Some k)) = Renewed place k
verdict_of (Put place None) = Moved place
verdict_of Gone = Removed

abbrev pub verdicts_of : NodeChanges → Verdicts
verdicts_of cs = map (λ c. (c.0, verdict_of c.1)) cs

pub changes_back : (cs : NodeChanges) → changes_in (verdicts_of cs) ≡ cs
changes_back [] = refl
changes_back (c ∷ cs) = one c.0 c.1 (changes_in (verdicts_of cs)) ∙ ap (λ xs. c ∷ xs) (changes_back cs)
  where
    one : (id : FullNodeId) (c : NodeChange) (rest : NodeChanges) → change_entry (id, verdict_of c) ++ rest ≡ (id, c) ∷ rest
    one id (Put place (Some k)) rest = refl
    one id (Put place None) rest = refl
    one id Gone rest = refl

pub keys_same : (cs : NodeChanges) → keys_of (verdicts_of cs) ≡ keys_of cs
keys_same [] = refl
keys_same (c ∷ cs) = ap (λ ks. c.0 ∷ ks) (keys_same cs)

pub at_of : (cs : NodeChanges) (id : FullNodeId) → at (verdicts_of cs) id ≡ option_map verdict_of (row_at cs id)
at_of [] id = refl
at_of (c ∷ cs) id = go (is_at (full_cmp id) c.0) (at_of cs id)
  where
    go : (b : Bool) → at (verdicts_of cs) id ≡ option_map verdict_of (row_at cs id) → cond b (Some (verdict_of c.1)) (at (verdicts_of cs) id) ≡ option_map verdict_of (cond b (Some c.1) (row_at cs id))
    go true rest = refl
    go false rest = rest

-- each change gives data
abbrev pub AllPut : NodeChanges → Type 0
AllPut cs = (id : FullNodeId) (c : NodeChange) → Contains cs (id, c) → is_in group.Updated (verdict_of c) ≡ true

all_put_rest : (c : FullNodeId × NodeChange) (cs : NodeChanges) → AllPut (c ∷ cs) → AllPut cs
all_put_rest c cs h id d within = h id d (contains_later c (id, d) cs within)

all_put_first : (c : FullNodeId × NodeChange) (cs : NodeChanges) → AllPut (c ∷ cs) → is_in group.Updated (verdict_of c.1) ≡ true
all_put_first c cs h = h c.0 c.1 (contains_head c c cs refl)

one_group : (v : Verdict) → is_in group.Updated v ≡ true → (is_in group.Added v ≡ false) × (is_in group.Removed v ≡ false)
one_group (Renewed place k) e = (refl, refl)
one_group (Moved place) e = (refl, refl)
one_group _ e = (cc, cc)

updated_ids : (cs : NodeChanges) → AllPut cs → ids_where (is_in group.Updated) (verdicts_of cs) ≡ keys_of cs
updated_ids [] h = refl
updated_ids (c ∷ cs) h =
    ap (λ b. cond b (c.0 ∷ ids_where (is_in group.Updated) (verdicts_of cs)) (ids_where (is_in group.Updated) (verdicts_of cs))) (all_put_first c cs h)
    ∙ ap (λ ks. c.0 ∷ ks) (updated_ids cs (all_put_rest c cs h))

added_ids : (cs : NodeChanges) → AllPut cs → ids_where (is_in group.Added) (verdicts_of cs) ≡ []
added_ids [] h = refl
added_ids (c ∷ cs) h =
    ap (λ b. cond b (c.0 ∷ ids_where (is_in group.Added) (verdicts_of cs)) (ids_where (is_in group.Added) (verdicts_of cs))) (one_group (verdict_of c.1) (all_put_first c cs h)).0
    ∙ added_ids cs (all_put_rest c cs h)

removed_ids : (cs : NodeChanges) → AllPut cs → ids_where (is_in group.Removed) (verdicts_of cs) ≡ []
removed_ids [] h = refl
removed_ids (c ∷ cs) h =
    ap (λ b. cond b (c.0 ∷ ids_where (is_in group.Removed) (verdicts_of cs)) (ids_where (is_in group.Removed) (verdicts_of cs))) (one_group (verdict_of c.1) (all_put_first c cs h)).1
    ∙ removed_ids cs (all_put_rest c cs h)

told_keys : (cs : NodeChanges) → map (λ (c : FullNodeId × NodeChange). told.Updated c.0) cs ≡ map told.Updated (keys_of cs) ++ []
told_keys [] = refl
told_keys (c ∷ cs) = ap (λ xs. told.Updated c.0 ∷ xs) (told_keys cs)

pub all_events : (cs : NodeChanges) → AllPut cs → map (λ (c : FullNodeId × NodeChange). told.Updated c.0) cs
    ≡ map told.Added (ids_where (is_in group.Added) (verdicts_of cs)) ++ map told.Updated (ids_where (is_in group.Updated) (verdicts_of cs)) ++ [] ++ map told.Removed (ids_where (is_in group.Removed) (verdicts_of cs))
all_events cs h =
    let tail : (xs : List PlanEvent) → xs ++ [] ≡ xs = append_none in
    rw (added_ids cs h, updated_ids cs h, removed_ids cs h) (told_keys cs ∙ sym (tail (map told.Updated (keys_of cs) ++ [])))
  where
    append_none : (xs : List PlanEvent) → xs ++ [] ≡ xs
    append_none [] = refl
    append_none (x ∷ xs) = ap (λ ys. x ∷ ys) (append_none xs)

-- ---- the decision

module _ (w : World) (u : UpdateData) (o : IsOld w) (op : Opened) (opening : HoldsOpened w u op) (same : own_record u.name u.focus op ≡ op.record) (once : IsNamedOnce u)
    (list rows : NodeChanges) (news : AreNews w u (length u.nodes) list) (sorted : Ascends rows) (reads : (id : FullNodeId) (c : NodeChange) → (row_at rows id ≡ Some c) ↔ Contains list (id, c))
    (untold : told_root (index_for w u.name) u.info ≡ None) where
  abbrev m : World
  m = merged_world w u

  abbrev i : ℕ
  i = index_for w u.name

  keep : AllKeep w u
  keep k e at = news.keep k e (slice_get_within u.nodes k e at) at

  abbrev s : Transition
  s = record { old = w; update = u; new = m }

  -- a node without a change has the data that it had
  data_stays : (id : FullNodeId) → row_at rows id ≡ None → data_of w id ≡ data_of m id
  data_stays id none = go (decide_named w u id)
    where
      go : IsDecided (IsNamed w u id) → data_of w id ≡ data_of m id
      go (inr other) = sym (unnamed_data w u id other)
      go (inl named) =
          let k = at_contains (map (λ (e : NodeId × NodeData). e.0) u.nodes) id.node named.1 in
          let e = map_some (λ (e : NodeId × NodeData). e.0) (slice_get u.nodes k.0) id.node (sym (slice_get-map (λ (e : NodeId × NodeData). e.0) u.nodes k.0) ∙ k.1) in
          let here : in_tree i e.0.0 ≡ id = same_id (in_tree i e.0.0) id (sym named.0) e.2 in
          let now : data_of m id ≡ Some e.0.1 = entry_named w u id k.0 once named.0 k.1 ∙ ap (option_map (λ (e : NodeId × NodeData). e.1)) e.1 in
          ⊎_elim
          (λ has. subst (λ x. HasData w x e.0.1) here has ∙ sym now)
          (λ c. let at : row_at rows id ≡ Some c.0 = (reads id c.0).1 (subst (λ x. Contains list (x, c.0)) here c.1) in let clash : None ≡ Some c.0 = sym none ∙ at in cc)
          (news.each k.0 e.0 (slice_get_within u.nodes k.0 e.0 e.1) e.1)

  -- one with a change has other data at the place where it stood
  renewed : (id : FullNodeId) (c : NodeChange) → IsNewsOf w u id c → Becomes s id (Some (verdict_of c))
  renewed id c n =
      let named : IsNamed w u id = (n.tree, contains_at (map (λ (e : NodeId × NodeData). e.0) u.nodes) n.entry id.node n.named) in
      let d = named_data w u o op opening same once keep id named in
      let now : data_of m id ≡ entry_data u.nodes n.entry = entry_named w u id n.entry once n.tree n.named in
      let other : data_of w id ≢ data_of m id = λ e. n.news (e ∙ now) in
      subst (λ x. Becomes s id (Some (verdict_of x))) (sym n.is) (
        (IsSome_is d.0 d.2, IsSome_is d.1 d.3),
        (
          record {
            place = place_now w u o op opening same once keep id n.place n.stands;
            data_found = (n.tree, n.named);
            differs = inl other;
            given = λ some. other;
          },
          sym now,
        ),
      )

  becomes : (id : FullNodeId) → Becomes s id (at (verdicts_of rows) id)
  becomes id = subst (Becomes s id) (sym (at_of rows id)) (go (row_at rows id) refl)
    where
      go : (x : Option NodeChange) → row_at rows id ≡ x → Becomes s id (option_map verdict_of x)
      go None e = ((data_stays id e, place_same w u o op opening same once keep id), λ t. let clash : None ≡ Some id = sym untold ∙ t in cc)
      go (Some c) e = renewed id c (news.found id c ((reads id c).0 e))

  all_put : AllPut rows
  all_put id c within =
      let k = at_contains rows (id, c) within in
      let n = news.found id c ((reads id c).0 (read_here rows sorted k.0 (id, c) k.1)) in
      subst (λ y. is_in group.Updated (verdict_of y) ≡ true) (sym n.is) refl

  ascends : Ascends (verdicts_of rows)
  ascends = subst (IsStrictlySortedBy full_cmp) (sym (keys_same rows)) sorted

  abbrev kept : IsKept s
  kept = record { old = o; kept = rules w u o op opening same once keep; rebuilt = rebuilt w u o op opening same once keep }

  module _ (d : Decision) (nodes : d.nodes.items ≡ rows) (trees : d.trees.items ≡ []) (events : d.events.items ≡ map (λ c. told.Updated c.0) rows) (focus : IsEffectiveFocus w d.focus) where
    differences : AreToldBy w u m d.events.items
    differences =
        let f = focus_exists (state_before w u o op opening same once keep) in
        all_told s (verdicts_of rows) ascends becomes f.0 f.0 [] d.events.items f.1 (focus_now w u o op opening same once keep f.0 f.1) (inl (refl, refl)) (events ∙ all_events rows all_put)

    pub news_decision : IsDecision w u d
    news_decision =
        decision_is s kept (verdicts_of rows) ascends becomes [] (none_after w u o op opening same once keep) d (nodes ∙ sym (changes_back rows)) trees
        (effective_now w u o op opening same once keep d.focus focus)
        (subst (AllPairs (λ a b. a.id ≢ b.id)) (sym trees) (λ i j d below within. absurd (omega arith)))
        (λ _. differences)
        (λ first. absurd (later w u op opening same first))
