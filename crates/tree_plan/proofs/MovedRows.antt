-- Changes that give nodes other data, and move nodes that keep theirs, are the decision on the update.
use Rattle.std.proofs.Common.{Contains, ◌≡◌, ◌≢◌, ℕ, true, [], map, length, Option, Some, None, option_map, inl, inr, ⊎_elim, ◌↔◌, refl, sym, ap, ◌∙◌, subst, arith}
use Rattle.std.specs.Prelude.{AllPairs}
use Rattle.std.specs.List.Sorted.{IsStrictlySortedBy}
use Rattle.std.proofs.lemmas.Option.{same_Some}
use Rattle.values_by_id.specs.Rows.{Ascends, row_at}
use Rattle.model.specs.declared.FullNodeId.{FullNodeId}
use Rattle.model.specs.FullIds.{full_cmp}
use Rattle.model.specs.declared.events.PlanEvent.TheVariants as told
use Rattle.model.specs.World.{World, Place, IsNode, data_of, in_tree}
use Rattle.model.specs.Forest.{place_of}
use Rattle.model.specs.Focus.{IsEffectiveFocus}
use Rattle.model.specs.Surgery.{IsOld, HasEntered}
use Rattle.model.specs.Differences.{told_root}
use Rattle.model.specs.Run.{AreToldBy}
use Rattle.model.specs.Update.{UpdateData, IsNamed, index_for, merged_world}
use Rattle.model.proofs.Worlds.Names.{certain}
use Rattle.model.proofs.State.StatePlaces.{IsSome_is}
use Rattle.model.proofs.Focus.FocusIsThere.{focus_exists}
use Rattle.model.proofs.Update.AcceptedOrFault.{decide_named}
use Rattle.model.proofs.Surgery.Spots.{unnamed_data}
use Rattle.tree_changes.specs.declared.decision.NodeChange.{NodeChange}
use Rattle.tree_changes.specs.declared.decision.NodeChange.TheVariants.{Put}
use Rattle.tree_changes.specs.declared.decision.Decision.{Decision}
use Rattle.tree_changes.specs.LookUps.{IsPlaceOf}
use Rattle.tree_changes.specs.Changes.{NodeChanges}
use Rattle.tree_changes.specs.Decisions.{IsDecision}
use Rattle.tree_plan.specs.declared.passes.Opened.{Opened}
use Rattle.tree_plan.specs.declared.moves.Moving.{Moving}
use Rattle.tree_plan.specs.declared.writing.Group.TheVariants as group
use Rattle.tree_plan.specs.Passes.{at, HoldsOpened}
use Rattle.tree_plan.specs.Verdicts.{Transition, Becomes}
use Rattle.tree_plan.specs.Writing.{own_record}
use Rattle.tree_plan.specs.News.{IsNamedOnce}
use Rattle.tree_plan.specs.Moves.{IsRenewedBefore, IsMovedBefore, AreMoves, HaveWays, HaveMoved}
use Rattle.tree_plan.proofs.IdMaps.{at_contains, read_here}
use Rattle.tree_plan.proofs.Entries.{entry_named}
use Rattle.tree_plan.proofs.Listed.{is_in}
use Rattle.tree_plan.proofs.NamedNodes.{all_named}
use Rattle.tree_plan.proofs.Becoming.{old_place, is_place, decide_data, entered_place, unmoved_place}
use Rattle.tree_plan.proofs.Assembled.{IsKept, all_told, decision_is}
use Rattle.tree_plan.proofs.SameTrees.{later}
use Rattle.tree_plan.proofs.Renewed.{verdict_of, verdicts_of, changes_back, keys_same, at_of, AllPut, all_events}
use Rattle.tree_plan.proofs.FewMoves.{named_keeps, node_then, gone_none, renewed_unentered, unlisted_unentered, rules, rebuilt, state_before, state_after, none_after, effective_now, focus_now, unmoved_in}

module _ (w : World) (u : UpdateData) (o : IsOld w) (op : Opened) (opening : HoldsOpened w u op) (same : own_record u.name u.focus op ≡ op.record) (once : IsNamedOnce u)
    (mv : Moving) (moves : AreMoves w u (length u.nodes) mv) (rows : NodeChanges) (sorted : Ascends rows) (reads : (id : FullNodeId) (c : NodeChange) → (row_at rows id ≡ Some c) ↔ Contains mv.changes (id, c))
    (moved : HaveMoved rows mv.left.items) (ways : HaveWays w rows mv.left.items (in_tree op.index op.root)) (untold : told_root (index_for w u.name) u.info ≡ None) where
  abbrev m : World
  m = merged_world w u

  abbrev s : Transition
  s = record { old = w; update = u; new = m }

  -- a node without a change of its data has the data that it had
  data_stays : (id : FullNodeId) → ((place : Option Place) (k : ℕ) → at rows id ≢ Some (Put place (Some k))) → data_of w id ≡ data_of m id
  data_stays id none = certain (decide_data (data_of w id) (data_of m id)) (λ other.
      let named : IsNamed w u id = certain (decide_named w u id) (λ out. other (sym (unnamed_data w u id out))) in
      let k = (all_named w u o id).1 named in
      let place : Option Place = place_of w id in
      let stands : IsPlaceOf w id place = is_place (state_before w u o op opening same once mv moves rows reads moved ways) id place refl in
      none place k.1 ((reads id (Put place (Some k.1))).1 ((moves.changes id (Put place (Some k.1))).1 (inl (k.1, k.2, k.3, k.0, other, place, stands, refl)))))

  place_stays : (id : FullNodeId) → ¬ (HasEntered w u id) → place_of w id ≡ place_of m id
  place_stays id none =
      unmoved_place w u o (rules w u o op opening same once mv moves rows reads moved ways) m (rebuilt w u o op opening same once mv moves rows reads moved ways) id none
      (gone_none w u o op opening same once mv moves rows reads moved ways id) (unmoved_in w u o op opening same once mv moves rows reads moved ways id)

  renewed : (id : FullNodeId) (c : NodeChange) → at rows id ≡ Some c → IsRenewedBefore w u (length u.nodes) id c → Becomes s id (Some (verdict_of c))
  renewed id c is r =
      let named : IsNamed w u id = (all_named w u o id).0 (r.3, r.0, r.1, r.2) in
      let d = named_keeps w u o op opening same once mv moves rows reads moved ways id named in
      let now = entry_named w u id r.0 once r.3 r.2 in
      let put : at rows id ≡ Some (Put r.5 (Some r.0)) = is ∙ ap Some r.7 in
      let place : place_of m id ≡ r.5 = sym (place_stays id (renewed_unentered w u o op opening same once mv moves rows reads moved ways id r.5 r.0 put)) ∙ old_place o id r.5 r.6 in
      subst (λ x. Becomes s id (Some (verdict_of x))) (sym r.7) (
        (IsSome_is d.0 d.2, IsSome_is d.1 d.3),
        (
          record {
            place = is_place (state_after w u o op opening same once mv moves rows reads moved ways) id r.5 place;
            data_found = (r.3, r.2);
            differs = inl r.4;
            given = λ some. r.4;
          },
          sym now,
        ),
      )

  came : (id : FullNodeId) (c : NodeChange) → at rows id ≡ Some c → IsMovedBefore w u (length u.nodes) id c → Becomes s id (Some (verdict_of c))
  came id c is f =
      let put : at rows id ≡ Some (Put (Some f.0) None) = is ∙ ap Some f.3 in
      let place = entered_place w u o (rules w u o op opening same once mv moves rows reads moved ways) m (rebuilt w u o op opening same once mv moves rows reads moved ways) id f.0 f.2 in
      let there : IsNode w id = node_then w u o op opening same once mv moves rows reads moved ways id place.0 in
      subst (λ x. Becomes s id (Some (verdict_of x))) (sym f.3) (
        (there, place.0),
        (
          record {
            place = place.1;
            data_found = there;
            differs = inr (place.2 there);
            given = λ some. cc;
          },
          data_stays id (λ p k other. let e : Put (Some f.0) None ≡ Put p (Some k) = same_Some (Put (Some f.0) None) (Put p (Some k)) (sym put ∙ other) in cc),
        ),
      )

  becomes : (id : FullNodeId) → Becomes s id (at (verdicts_of rows) id)
  becomes id = subst (Becomes s id) (sym (at_of rows id)) (go (row_at rows id) refl)
    where
      go : (x : Option NodeChange) → row_at rows id ≡ x → Becomes s id (option_map verdict_of x)
      go None e = (
        (data_stays id (λ p k other. let clash : None ≡ Some (Put p (Some k)) = sym e ∙ other in cc), place_stays id (unlisted_unentered w u o op opening same once mv moves rows reads moved ways id e)),
        λ t. let clash : None ≡ Some id = sym untold ∙ t in cc,
      )
      go (Some c) e = ⊎_elim (renewed id c e) (came id c e) ((moves.changes id c).0 ((reads id c).0 e))

  all_put : AllPut rows
  all_put id c within =
      let k = at_contains rows (id, c) within in
      let P : NodeChange → Type 0 = λ y. is_in group.Updated (verdict_of y) ≡ true in
      ⊎_elim
      (λ r. subst P (sym r.7) refl)
      (λ f. subst P (sym f.3) refl)
      ((moves.changes id c).0 ((reads id c).0 (read_here rows sorted k.0 (id, c) k.1)))

  ascends : Ascends (verdicts_of rows)
  ascends = subst (IsStrictlySortedBy full_cmp) (sym (keys_same rows)) sorted

  abbrev kept : IsKept s
  kept = record { old = o; kept = rules w u o op opening same once mv moves rows reads moved ways; rebuilt = rebuilt w u o op opening same once mv moves rows reads moved ways }

  module _ (d : Decision) (nodes : d.nodes.items ≡ rows) (trees : d.trees.items ≡ []) (events : d.events.items ≡ map (λ c. told.Updated c.0) rows) (focus : IsEffectiveFocus w d.focus) where
    differences : AreToldBy w u m d.events.items
    differences =
        let f = focus_exists (state_before w u o op opening same once mv moves rows reads moved ways) in
        all_told s (verdicts_of rows) ascends becomes f.0 f.0 [] d.events.items f.1 (focus_now w u o op opening same once mv moves rows reads moved ways f.0 f.1) (inl (refl, refl)) (events ∙ all_events rows all_put)

    pub moves_decision : IsDecision w u d
    moves_decision =
        decision_is s kept (verdicts_of rows) ascends becomes [] (none_after w u o op opening same once mv moves rows reads moved ways) d (nodes ∙ sym (changes_back rows)) trees
        (effective_now w u o op opening same once mv moves rows reads moved ways d.focus focus)
        (subst (AllPairs (λ a b. a.id ≢ b.id)) (sym trees) (λ i j d below within. absurd (omega arith)))
        (λ _. differences)
        (λ first. absurd (later w u op opening same first))
