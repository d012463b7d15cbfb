-- What becomes of a node, by what the passes found.
use Rattle.std.proofs.Common.{◌≡◌, ◌≢◌, ℕ, Bool, true, false, Option, Some, None, IsSome, ◌↔◌, option_map, unwrap_or, ◌⊎◌, inl, inr, ⊎_elim, refl, sym, ap, ◌∙◌, subst}
use Rattle.std.specs.Prelude.{IsTrue}
use Rattle.std.proofs.lemmas.Option.{same_Some}
use Rattle.schema.specs.NodeData.{NodeData}
use Rattle.schema.specs.Same.{same_node, same_node-decides}
use Rattle.schema.specs.declared.TreeId.{TreeId}
use Rattle.model.specs.declared.FullNodeId.{FullNodeId}
use Rattle.model.specs.World.{ROOT_NAME, World, IsNode, data_of, in_tree, root_of, root_named, Place, StandsAt, Kept}
use Rattle.model.specs.World as world
use Rattle.model.specs.Forest.{place_of}
use Rattle.model.specs.Update.{UpdateData, IsNamed, IsRebuild, KeepsRules, index_for, merged_world}
use Rattle.model.specs.State.{IsState}
use Rattle.model.specs.Differences.{told_root}
use Rattle.model.specs.Surgery.{IsOld, Entered, HasEntered, Gone, IsLive, IsMovedIn, IsPassed}
use Rattle.model.proofs.Worlds.Names.{cases_some, cases_name, certain}
use Rattle.model.proofs.State.StatePlaces.{value_of, root_of-tree, root_named_parts, by_place, root_has_no_place, place_unique, child_is_node}
use Rattle.model.proofs.Forest.PlaceOf.{stands_at_place, place_is}
use Rattle.model.proofs.Forest.Rooted.{state_formed}
use Rattle.model.proofs.Update.RebuildKeeps.{data_same, tree_same, node_new}
use Rattle.model.proofs.Surgery.Spots.{entered_tree, index_zero, root_reached}
use Rattle.model.proofs.Surgery.LiveAndGone.{named_kept, named_live, reached_node}
use Rattle.model.proofs.Surgery.OldWorlds.{old_state}
use Rattle.model.proofs.Surgery.ChangesAreTheRebuild.{rebuild_changed, stays_same, entered_stands, named_root_stands}
use Rattle.model.proofs.Surgery.WhatIsTold.{node_iff, removed_iff, place_stays, entered_elsewhere, moved_in_stands, moved_in_elsewhere}
use Rattle.model.proofs.Surgery.Counts.{told_is_root}
use Rattle.model.proofs.Surgery.RulesArePassed.{rules_passed}
use Rattle.model.proofs.Surgery.OldUpdates.{old_leaves_state}
use Rattle.tree_changes.specs.declared.look_ups.TreeRecord.{TreeRecord}
use Rattle.tree_changes.specs.declared.decision.NodeChange.TheVariants.{Put}
use Rattle.tree_changes.specs.LookUps.{IsPlaceOf}
use Rattle.tree_plan.specs.declared.passes.Named.{Named}
use Rattle.tree_plan.specs.Passes.{at, entered_at, has, IsOfName, IsNamedAs, GainsGraft}
use Rattle.tree_plan.specs.declared.verdicts.Found.{Found}
use Rattle.tree_plan.specs.declared.verdicts.Verdict.TheVariants.{Added, Renewed, Moved, Told, Removed}
use Rattle.tree_plan.specs.Verdicts.{Transition, IsFound, Makes, Moves, Becomes}
use Rattle.tree_plan.proofs.Arrived.{not_arrived}
use Rattle.tree_plan.proofs.Entries.{entry_named}

-- ---- places

-- a node that stands nowhere has no place
pub nowhere : (v : World) (id : FullNodeId) → ((p : Place) → ¬ (StandsAt v p id)) → place_of v id ≡ None
nowhere v id none = go (place_of v id) refl
  where
    go : (x : Option Place) → place_of v id ≡ x → place_of v id ≡ None
    go None e = e
    go (Some p) e = absurd (none p (stands_at_place v id p e))

-- in a world to which updates come only nodes stand somewhere
pub standing_is_node : {w : World} → IsOld w → (p : Place) (id : FullNodeId) → StandsAt w p id → IsNode w id
standing_is_node {w} o p id at = ⊎_elim (λ l. o.listed_is_node p id l.1) (λ g. o.root_is_node id.tree id (root_named_parts w g.0 id g.2).1) (by_place w p id at)

pub no_other : (id : FullNodeId) (v : World) → ((p : Place) → ¬ (StandsAt v p id)) → IsPlaceOf v id None
no_other id v none p = (λ e. cc, λ at. absurd (none p at))

placed : {v : World} → IsState v → (q : Place) (id : FullNodeId) → StandsAt v q id → IsPlaceOf v id (Some q)
placed {v} s q id at p = (λ e. subst (λ x. StandsAt v x id) (same_Some q p e) at, λ at'. ap Some (place_unique s q p id at at'))

-- the place of a node is the one that place_of finds
pub old_place : {w : World} → IsOld w → (id : FullNodeId) (place : Option Place) → IsPlaceOf w id place → place_of w id ≡ place
old_place {w} o id None is = nowhere w id (λ p at. let e : None ≡ Some p = (is p).1 at in cc)
old_place {w} o id (Some p) is =
    let at : StandsAt w p id = (is p).0 refl in
    (place_is w (state_formed (old_state o id (standing_is_node o p id at))) id p).1 at

pub is_place : {v : World} → IsState v → (id : FullNodeId) (place : Option Place) → place_of v id ≡ place → IsPlaceOf v id place
is_place {v} s id place same p = let at = place_is v (state_formed s) id p in (λ e. at.0 (same ∙ e), λ x. sym same ∙ at.1 x)

-- whether two data are one
pub decide_data : (a b : Option NodeData) → (a ≡ b) ⊎ (a ≡ b → ⊥)
decide_data None None = inl refl
decide_data None (Some b) = inr (λ e. cc)
decide_data (Some a) None = inr (λ e. cc)
decide_data (Some a) (Some b) = go (same_node a b) refl
  where
    go : (x : Bool) → same_node a b ≡ x → (Some a ≡ Some b) ⊎ (Some a ≡ Some b → ⊥)
    go true e = inl (ap Some ((same_node-decides a b).0 e))
    go false e = inr (λ same. let yes : same_node a b ≡ true = (same_node-decides a b).1 (same_Some a b same) in let clash : false ≡ true = sym e ∙ yes in cc)

module _ (w : World) (u : UpdateData) (o : IsOld w) (k : KeepsRules w u) (new : World) (r : IsRebuild (merged_world w u) new) where
  abbrev m : World
  m = merged_world w u

  abbrev i : ℕ
  i = index_for w u.name

  passed : IsPassed w u
  passed = rules_passed w u o k

  state : IsState new
  state = old_leaves_state w u o k new r

  abbrev s : Transition
  s = record { old = w; update = u; new = new }

  pub to_place : (id : FullNodeId) (p : Place) → StandsAt new p id → (IsNode w id → place_of w id ≢ place_of new id) → Moves s id (Some (Some p))
  to_place id p at elsewhere = (child_is_node state p id at, placed state p id at, elsewhere)

  -- what entered a place comes to it
  pub entered_place : (id : FullNodeId) (p : Place) → Entered w u (Some p) id → Moves s id (Some (Some p))
  entered_place id p e = to_place id p (entered_stands w u o passed.climbed r p id e) (λ there. entered_elsewhere w u o passed k r id there (Some p, e))

  -- the root of the named tree comes to the graft of the tree, and that of the root tree to none
  pub entered_root : (id : FullNodeId) (t : TreeRecord) → IsOfName w u.name t → Entered w u None id → Moves s id (Some (option_map (λ g. (g, 0)) t.graft))
  entered_root id t of e = go (cases_name u.name ROOT_NAME)
    where
      is_root : root_of m i ≡ Some id
      is_root = subst (λ j. root_of m j ≡ Some id) (entered_tree w u None id e) e.0

      live : IsLive w u id
      live = (subst (Kept m) (sym (entered_tree w u None id e)) (named_kept w u o passed.climbed.refined.removed.settled.compared.opened), root_reached m i id is_root)

      there : IsNode new id
      there = node_new r id live.0 live.1 (reached_node w u o passed.climbed.refined.removed.settled id live.1)

      elsewhere : IsNode w id → place_of w id ≢ place_of new id
      elsewhere was = entered_elsewhere w u o passed k r id was (None, e)

      ungrafted : u.name ≡ ROOT_NAME → (x : Option FullNodeId) → t.graft ≡ x → x ≡ None
      ungrafted top None at = refl
      ungrafted top (Some g) at = absurd (o.root_ungrafted g ((of.graft g).0 at ∙ ap Some top))

      top_root : u.name ≡ ROOT_NAME → root_of new 0 ≡ Some id
      top_root top = ap (option_map (λ t. in_tree 0 t.root)) (tree_same r 0 world.Kept.root) ∙ subst (λ j. root_of m j ≡ Some id) (index_zero w u o top) is_root

      go : (u.name ≡ ROOT_NAME) ⊎ (u.name ≢ ROOT_NAME) → Moves s id (Some (option_map (λ g. (g, 0)) t.graft))
      go (inl top) = subst (λ (x : Option FullNodeId). Moves s id (Some (option_map (λ g. (g, 0)) x))) (sym (ungrafted top t.graft refl))
          (there, no_other id new (λ p at. root_has_no_place state p id (top_root top) at), elsewhere)
      go (inr other) =
          let g = named_root_stands w u o passed.climbed r id other is_root in
          subst (λ (x : Option FullNodeId). Moves s id (Some (option_map (λ g. (g, 0)) x))) (sym ((of.graft g.0).1 g.1)) (there, placed state (g.0, 0) id g.2, elsewhere)

  -- the root of a tree that a named node gains comes to that node
  pub moved_in_place : (id n : FullNodeId) (name : TreeId) → GainsGraft w u n name → root_named w name ≡ Some id → Moves s id (Some (Some (n, 0)))
  moved_in_place id n name gains is =
      to_place id (n, 0) (moved_in_stands w u o passed k r n id name gains.0 gains.1 gains.2 is) (λ there. moved_in_elsewhere w u o passed k r id (n, name, gains.0, gains.1, gains.2, is))

  -- what neither entered, nor goes, nor was moved in stays where it was
  pub unmoved_place : (id : FullNodeId) → ¬ (HasEntered w u id) → ¬ (Gone w u id) → ¬ (IsMovedIn w u id) → Moves s id None
  unmoved_place id none stays unmoved = go (cases_some (data_of w id))
    where
      absent : ¬ (IsNode w id) → ¬ (IsNode new id)
      absent out there = ⊎_elim (λ named. none (passed.climbed.refined.new_entered id named out)) (λ h. out h.0) ((node_iff w u o passed k r id).0 there)

      go : IsNode w id ⊎ (IsNode w id → ⊥) → Moves s id None
      go (inl there) = place_stays w u o passed k r id there none stays unmoved
      go (inr out) = nowhere w id (λ p at. out (standing_is_node o p id at)) ∙ sym (nowhere new id (λ p at. absent out (child_is_node state p id at)))

  -- the place afterwards, from the one before and the one to which the node comes
  pub place_after : (id : FullNodeId) (was : Option Place) (moved : Option (Option Place)) → IsPlaceOf w id was → Moves s id moved → IsPlaceOf new id (unwrap_or moved was)
  place_after id was (Some place) before moves = moves.1
  place_after id was None before moves = is_place state id was (sym moves ∙ old_place o id was before)

  -- ---- data

  named_data : (id : FullNodeId) → IsNamed w u id → data_of new id ≡ data_of m id
  named_data id named = let live = named_live w u o passed.climbed id named in data_same r id live.0 live.1

  named_there : (id : FullNodeId) → IsNamed w u id → IsNode new id
  named_there id named = (node_iff w u o passed k r id).1 (inl named)

  -- what isn't named and doesn't go has the data that it had
  pub unnamed_same : (id : FullNodeId) → ¬ (IsNamed w u id) → ¬ (Gone w u id) → data_of w id ≡ data_of new id
  unnamed_same id other stays = sym (stays_same w u o passed.climbed new (rebuild_changed w u o passed.climbed new r) id other stays)

  -- so has what is named with them
  pub old_same : (id : FullNodeId) (n : Named) → IsNamedAs w u id n → n.is_news ≡ false → data_of w id ≡ data_of new id
  old_same id n is no_news = certain (decide_data (data_of w id) (data_of m id)) (λ other. let yes : n.is_news ≡ true = is.news.1 other in cc) ∙ sym (named_data id is.named)

  -- ---- verdicts

  pub gone_becomes : (id : FullNodeId) → Gone w u id → Becomes s id (Some Removed)
  gone_becomes id gone = (removed_iff w u o passed k r id).1 gone

  -- a node that is there and named with these data
  entry_makes : (id : FullNodeId) (n : Named) (place : Option Place) → IsNamedAs w u id n → IsPlaceOf new id place → data_of w id ≢ data_of new id → Makes s id (Put place (Some n.entry))
  entry_makes id n place is at other = (
    record { place = at; data_found = (is.named.0, is.entry); differs = inl other; given = λ some. other },
    sym (named_data id is.named ∙ entry_named w u id n.entry passed.climbed.refined.removed.settled.compared.named_once is.named.0 is.entry),
  )

  pub new_becomes : (id : FullNodeId) (n : Named) (moved : Option (Option Place)) → IsNamedAs w u id n → n.was ≡ None → Moves s id moved → Becomes s id (Some (Added (unwrap_or moved None) n.entry))
  new_becomes id n moved is new_one moves =
      let out : ¬ (IsNode w id) = is.new new_one in
      let there : IsNode new id = named_there id is.named in
      let before : IsPlaceOf w id None = no_other id w (λ p at. out (standing_is_node o p id at)) in
      ((there, out), entry_makes id n (unwrap_or moved None) is (place_after id None moved before moves) (λ e. out (subst IsSome (sym e) there)))

  pub news_becomes : (id : FullNodeId) (n : Named) (was : Option Place) (moved : Option (Option Place)) → IsNamedAs w u id n → n.was ≡ Some was → n.is_news ≡ true → Moves s id moved → Becomes s id (Some (Renewed (unwrap_or moved was) n.entry))
  news_becomes id n was moved is old news moves =
      let before = is.old was old in
      ((before.0, named_there id is.named), entry_makes id n (unwrap_or moved was) is (place_after id was moved before.1 moves) (λ e. is.news.0 news (e ∙ named_data id is.named)))

  pub moved_becomes : (id : FullNodeId) (place : Option Place) → data_of w id ≡ data_of new id → Moves s id (Some place) → Becomes s id (Some (Moved place))
  moved_becomes id place same moves =
      let was : IsNode w id = subst IsSome (sym same) moves.0 in
      ((was, moves.0), (record { place = moves.1; data_found = was; differs = inr (moves.2 was); given = λ some other. cc }, same))

  pub told_becomes : (id : FullNodeId) → told_root i u.info ≡ Some id → data_of w id ≡ data_of new id → Moves s id None → Becomes s id (Some Told)
  told_becomes id told same moves =
      let is_root : root_of m i ≡ Some id = told_is_root w u id told in
      let tree : i ≡ id.tree = root_of-tree m i id is_root in
      let kept : Kept m id.tree = subst (Kept m) tree (named_kept w u o passed.climbed.refined.removed.settled.compared.opened) in
      let reached = root_reached m i id is_root in
      let there : IsNode new id = node_new r id kept reached (reached_node w u o passed.climbed.refined.removed.settled id reached) in
      ((subst IsSome (sym same) there, there), (same, moves), told)

-- ---- by the maps

nothing_at : {A : Type 0} (o : Option A) (x : A) → o ≡ None → o ≡ Some x → ⊥
nothing_at o x none some = cc

module _ (s : Transition) (f : Found) (h : IsFound s f) where
  abbrev w : World
  w = s.old

  abbrev u : UpdateData
  u = s.update

  pub by_spot : (id : FullNodeId) (p : Place) → entered_at f.compared id ≡ Some (Some p) → Moves s id (Some (Some p))
  by_spot id p at_id = entered_place w u h.old h.kept s.new h.rebuilt id p ((h.comparison.entered id (Some p)).0 at_id)

  pub by_root : (id : FullNodeId) (place : Option Place) → place ≡ option_map (λ g. (g, 0)) f.opened.record.graft → entered_at f.compared id ≡ Some None → Moves s id (Some place)
  by_root id place same at_id =
      subst (λ x. Moves s id (Some x)) (sym same) (entered_root w u h.old h.kept s.new h.rebuilt id f.opened.record h.opening.record_of ((h.comparison.entered id None).0 at_id))

  pub by_graft : (id g : FullNodeId) → at f.regrafted.moved_in.entries id ≡ Some g → Moves s id (Some (Some (g, 0)))
  by_graft id g at_id = let m = (h.regrafting.moved_in id g).0 at_id in moved_in_place w u h.old h.kept s.new h.rebuilt id g m.0 m.1 m.2

  unentered : (id : FullNodeId) → at f.compared.entered id ≡ None → ¬ (HasEntered w u id)
  unentered = not_arrived w u f.compared h.comparison

  unmoved : (id : FullNodeId) → at f.regrafted.moved_in.entries id ≡ None → ¬ (IsMovedIn w u id)
  unmoved id none m = nothing_at (at f.regrafted.moved_in.entries id) m.0 none ((h.regrafting.moved_in id m.0).1 (m.1, (m.2, m.3, m.4), m.5))

  pub by_none : (id : FullNodeId) → ¬ (Gone w u id) → at f.compared.entered id ≡ None → at f.regrafted.moved_in.entries id ≡ None → Moves s id None
  by_none id stays none none' = unmoved_place w u h.old h.kept s.new h.rebuilt id (unentered id none) stays (unmoved id none')

  pub unnamed_by : (id : FullNodeId) → at f.compared.named id ≡ None → ¬ (IsNamed w u id)
  unnamed_by id none named = let n = value_of (at f.compared.named id) (h.comparison.has_named id named) in nothing_at (at f.compared.named id) n.0 none n.1

  pub told_by : (id : FullNodeId) (moved : Option (Option Place)) → f.told ≡ Some id → data_of w id ≡ data_of s.new id → Moves s id moved → moved ≡ None → Becomes s id (Some Told)
  told_by id moved told same moves none = told_becomes w u h.old h.kept s.new h.rebuilt id (sym h.told ∙ told) same (subst (Moves s id) none moves)

  pub untold_by : (id : FullNodeId) (moved : Option (Option Place)) → f.told ≢ Some id → data_of w id ≡ data_of s.new id → Moves s id moved → moved ≡ None → Becomes s id None
  untold_by id moved other same moves none = ((same, subst (Moves s id) none moves), λ told. other (h.told ∙ told))

  -- what is in none of the maps, and isn't told, is as it was
  pub untouched : (id : FullNodeId) → ¬ (has f.removed.gone id) → at f.compared.named id ≡ None → at f.compared.entered id ≡ None → at f.regrafted.moved_in.entries id ≡ None → f.told ≢ Some id → Becomes s id None
  untouched id stays unnamed none none' other =
      let stays' : ¬ (Gone w u id) = λ gone. stays ((h.removal.gone id).1 gone) in
      untold_by id None other (unnamed_same w u h.old h.kept s.new h.rebuilt id (unnamed_by id unnamed) stays') (by_none id stays' none none') refl

  -- a new node: one that is named and wasn't there
  pub new_by : (id : FullNodeId) (n : Named) (moved : Option (Option Place)) → at f.compared.named id ≡ Some n → n.was ≡ None → Moves s id moved → Becomes s id (Some (Added (unwrap_or moved None) n.entry))
  new_by id n moved at_id new_one moves = new_becomes w u h.old h.kept s.new h.rebuilt id n moved (h.comparison.is_named id n at_id) new_one moves

  -- an old node that is named with other data
  pub news_by : (id : FullNodeId) (n : Named) (was : Option Place) (moved : Option (Option Place)) → at f.compared.named id ≡ Some n → n.was ≡ Some was → n.is_news ≡ true → Moves s id moved → Becomes s id (Some (Renewed (unwrap_or moved was) n.entry))
  news_by id n was moved at_id old news moves = news_becomes w u h.old h.kept s.new h.rebuilt id n was moved (h.comparison.is_named id n at_id) old news moves

  -- what is named with the data that it has, or isn't named, has them afterwards
  pub same_by : (id : FullNodeId) (n : Named) → at f.compared.named id ≡ Some n → n.is_news ≡ false → data_of w id ≡ data_of s.new id
  same_by id n at_id no_news = old_same w u h.old h.kept s.new h.rebuilt id n (h.comparison.is_named id n at_id) no_news

  pub unnamed_same_by : (id : FullNodeId) → ¬ (Gone w u id) → at f.compared.named id ≡ None → data_of w id ≡ data_of s.new id
  unnamed_same_by id stays none = unnamed_same w u h.old h.kept s.new h.rebuilt id (unnamed_by id none) stays

  pub gone_by : (id : FullNodeId) → Gone w u id → Becomes s id (Some Removed)
  gone_by id gone = gone_becomes w u h.old h.kept s.new h.rebuilt id gone

  pub stays_if : (b : Bool) {id : FullNodeId} → IsTrue b ↔ Gone w u id → b ≡ false → ¬ (Gone w u id)
  stays_if b is out gone = let yes : b ≡ true = is.1 gone in cc

  -- what moves, and what is named, doesn't go
  pub moving_stays : (id : FullNodeId) (moved : Option (Option Place)) → (IsSome moved → Moves s id moved) → IsSome moved → ¬ (Gone w u id)
  moving_stays id (Some place) moves some gone = (gone_by id gone).1 (moves refl).0
  moving_stays id None moves some gone = cc

  pub named_stays_by : (id : FullNodeId) (named : Option Named) → named ≡ at f.compared.named id → IsSome named → ¬ (Gone w u id)
  named_stays_by id named is some gone =
      let n = value_of (at f.compared.named id) (subst IsSome is some) in
      h.removal.removed.named_stays id (h.comparison.is_named id n.0 n.1).named gone

  pub goes_by : (id : FullNodeId) → has f.removed.gone id ↔ Gone w u id
  goes_by id = h.removal.gone id

  pub moved_by : (id : FullNodeId) (place : Option Place) (moved : Option (Option Place)) → data_of w id ≡ data_of s.new id → Moves s id moved → moved ≡ Some place → Becomes s id (Some (Moved place))
  moved_by id place moved same moves e = moved_becomes w u h.old h.kept s.new h.rebuilt id place same (subst (Moves s id) e moves)
