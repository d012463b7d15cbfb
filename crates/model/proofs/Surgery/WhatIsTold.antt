-- What is told of an accepted update, told by what it changes.
use Rattle.std.proofs.Common.{Contains, ◌++◌, map, ◌≡◌, ◌≢◌, ℕ, List, [], ◌∷◌, slice_get, Option, Some, None, option_map, ◌↔◌, ◌⊎◌, inl, inr, ⊎_elim, refl, sym, ap, ◌∙◌, subst}
use Rattle.std.proofs.lemmas.Option.{same_Some}
use Rattle.schema.specs.declared.TreeId.{TreeId}
use Rattle.model.specs.declared.FullNodeId.{FullNodeId}
use Rattle.model.specs.World.{ROOT_NAME, World, Tree, IsNode, data_of, in_tree, index_of, listed_ids, graft_name, root_of, root_named, Place, StandsAt, Reached, Kept}
use Rattle.model.specs.World as world
use Rattle.model.specs.Forest.{place_of}
use Rattle.model.specs.Update.{UpdateData, IsNamed, IsRebuild, KeepsRules, index_for, merged_world}
use Rattle.model.specs.State.{IsState, Lists}
use Rattle.model.specs.Focus.{IsFocus, Resolves}
use Rattle.model.specs.Differences.{Updated, FocusMoved, AreOfFocus, IsAloneIf, IsToldForFocus, IsAdded, IsInBoth, IsUpdated}
use Rattle.model.specs.Surgery.{IsOld, Seat, IsAt, Entered, HasEntered, Gone, IsLive, IsMovedIn, IsOpened, IsClimbed, IsPassed}
use Rattle.model.specs.Surgery as surgery
use Rattle.model.proofs.Worlds.Names.{cases_some, certain, known-index_of, index_of_once}
use Rattle.model.proofs.State.StatePlaces.{IsSome_is, root_of-tree, root_named_parts, by_place, stands_listed, listed_tree, root_has_no_place, graft_place, place_exists, child_is_node}
use Rattle.model.proofs.Forest.PlaceOf.{stands_at_place, place_is}
use Rattle.model.proofs.Forest.Rooted.{state_formed}
use Rattle.model.proofs.Update.RulesOrFault.{rules_or_fault}
use Rattle.model.proofs.Update.UpdateLeavesState.{update_leaves_state}
use Rattle.model.proofs.Closure.{IsDecided}
use Rattle.model.proofs.Update.AcceptedOrFault.{decide_named, decide_id}
use Rattle.model.proofs.Update.RebuildKeeps.{data_same, node_kept, node_new, tree_same}
use Rattle.model.proofs.Surgery.Spots.{root_at, unnamed_data, entered_tree, at_is_node, index_stays, name_here, root_named_stays}
use Rattle.model.proofs.Surgery.OldWorlds.{state_old, old_state, no_own_graft}
use Rattle.model.proofs.Surgery.LiveAndGone.{IsItsGraft, named_kept, graft_live, spot_stays, gone_unlive, live_iff, reached_node}
use Rattle.model.proofs.Surgery.RulesKept.{root_ungrafted}
use Rattle.model.proofs.Surgery.WhatIsDecided.{decide_entered, decide_gone, decide_moved_in}
use Rattle.model.proofs.Surgery.ChangesAreTheRebuild.{entered_stands, regrafted_stands, unmoved_stands}

-- what goes was there
pub gone_was : {w : World} {u : UpdateData} → IsOld w → (id : FullNodeId) → Gone w u id → IsNode w id
gone_was {w} {u} o id (surgery.Gone.left s id' l none) = at_is_node w u o s id l.0
gone_was o id (surgery.Gone.child p id' gone at none) = o.listed_is_node p id at
gone_was {w} o id (surgery.Gone.under g id' name gone grafts other named none) = o.root_is_node id.tree id (root_named_parts w name id named).1
gone_was {w} o id (surgery.Gone.cut g id' name is grafts other named none) = o.root_is_node id.tree id (root_named_parts w name id named).1

one_parent : (a b : FullNodeId) → ◌≡◌ {A = Option Place} (Some (a, 0)) (Some (b, 0)) → a ≡ b
one_parent a b e = ap (λ (p : Place). p.0) (same_Some (a, 0) (b, 0) e)

-- where a node stands in a state, or that it stands nowhere, place_of says
module _ {v : World} (s : IsState v) where
  found_at : (p : Place) (id : FullNodeId) → StandsAt v p id → place_of v id ≡ Some p
  found_at p id at = (place_is v (state_formed s) id p).1 at

  not_found : (id : FullNodeId) → ((p : Place) → ¬ (StandsAt v p id)) → place_of v id ≡ None
  not_found id nowhere = go (place_of v id) refl
    where
      go : (x : Option Place) → place_of v id ≡ x → place_of v id ≡ None
      go None e = e
      go (Some p) e = absurd (nowhere p (stands_at_place v id p e))

module _ (w : World) (u : UpdateData) (o : IsOld w) (c : IsPassed w u) (k : KeepsRules w u) {new : World} (r : IsRebuild (merged_world w u) new) where
  abbrev m : World
  m = merged_world w u

  abbrev i : ℕ
  i = index_for w u.name

  -- ---- which nodes are in the new world

  live_new : (id : FullNodeId) → IsLive w u id → IsNode new id
  live_new id live = node_new r id live.0 live.1 (reached_node w u o c.climbed.refined.removed.settled id live.1)

  new_live : (id : FullNodeId) → IsNode new id → IsLive w u id
  new_live id there = node_kept r id there

  pub node_iff : (id : FullNodeId) → IsNode new id ↔ (IsNamed w u id ⊎ (IsNode w id × ¬ (Gone w u id)))
  node_iff id = (λ there. (live_iff w u o c.climbed id).0 (new_live id there), λ h. live_new id ((live_iff w u o c.climbed id).1 h))

  pub added_iff : (id : FullNodeId) → IsAdded w new id ↔ (IsNamed w u id × ¬ (IsNode w id))
  added_iff id = (λ a. (⊎_elim (λ n. n) (λ h. absurd (a.1 h.0)) ((node_iff id).0 a.0), a.1), λ h. ((node_iff id).1 (inl h.0), h.1))

  pub removed_iff : (id : FullNodeId) → IsAdded new w id ↔ Gone w u id
  removed_iff id = (λ a. certain (decide_gone w u o id) (λ stays. a.1 ((node_iff id).1 (inr (a.0, stays)))), λ gone. (gone_was o id gone, λ there. gone_unlive w u o id (new_live id there) gone))

  -- a node of one of the worlds that neither goes nor is new is in both
  pub in_both : (id : FullNodeId) → IsNode w id ⊎ IsNode new id → ¬ (Gone w u id) → ¬ (IsNamed w u id × ¬ (IsNode w id)) → IsInBoth w new id
  in_both id (inl there) stays old = (there, (node_iff id).1 (inr (there, stays)))
  in_both id (inr there) stays old = (⊎_elim (λ named. certain (cases_some (data_of w id)) (λ absent. old (named, absent))) (λ h. h.0) ((node_iff id).0 there), there)

  -- which focuses are told as updated: those that have no verdict
  pub untold_iff : (told : List FullNodeId) (id : FullNodeId) → IsNode w id ⊎ IsNode new id → (IsInBoth w new id × ¬ (Contains told id)) ↔ (¬ (Gone w u id) × ¬ (IsNamed w u id × ¬ (IsNode w id)) × ¬ (Contains told id))
  untold_iff told id there =
      (λ h. (λ gone. gone_unlive w u o id (new_live id h.0.1) gone, λ new. new.1 h.0.0, h.1), λ h. (in_both id there h.0 h.1, h.2))

  -- ---- which nodes stand elsewhere

  new_state : (id : FullNodeId) → IsNode w id → IsState new
  new_state id there = update_leaves_state w u new (old_state o id there) ((rules_or_fault w u).0 k, r)

  -- the root of the named tree, in the new world
  root_new : (id : FullNodeId) (index : ℕ) → Kept m index → root_of m index ≡ Some id → root_of new index ≡ Some id
  root_new id index kept is = ap (option_map (λ t. in_tree index t.root)) (tree_same r index kept) ∙ is

  -- what neither entered, nor goes, nor was moved in stands where it stood, or nowhere as before
  pub place_stays : (id : FullNodeId) → IsNode w id → ¬ (HasEntered w u id) → ¬ (Gone w u id) → ¬ (IsMovedIn w u id) → place_of w id ≡ place_of new id
  place_stays id there none stays unmoved = go (decide_id (root_of w 0) id)
    where
      s : IsState w
      s = old_state o id there

      go : IsDecided (root_of w 0 ≡ Some id) → place_of w id ≡ place_of new id
      go (inl root) =
          let tree : 0 ≡ id.tree = root_of-tree w 0 id root in
          let after : root_of m id.tree ≡ Some id = (spot_stays w u o None id (root_at w 0 id root) none stays).0 in
          let root' : root_of new 0 ≡ Some id = root_new id 0 world.Kept.root (subst (λ j. root_of m j ≡ Some id) (sym tree) after) in
          not_found s id (λ p at. root_has_no_place s p id root at) ∙ sym (not_found (new_state id there) id (λ p at. root_has_no_place (new_state id there) p id root' at))
      go (inr other) =
          let p = place_exists s id there other in
          found_at s p.0 id p.1 ∙ sym (found_at (new_state id there) p.0 id (unmoved_stands w u o c.climbed r p.0 id p.1 none stays unmoved))

  -- what entered stands elsewhere
  pub entered_elsewhere : (id : FullNodeId) → IsNode w id → HasEntered w u id → place_of w id ≢ place_of new id
  entered_elsewhere id there e = go e.0 e.1
    where
      kept : Kept w id.tree
      kept = o.present_kept id.tree (o.node_present id there)

      placed : (p : Place) → Entered w u (Some p) id → StandsAt w p id → ⊥
      placed p e at = by_place' (by_place w p id at)
        where
          by_place' : ((graft_name w p.0 ≡ None) × Lists w p id) ⊎ ((name : TreeId) × (graft_name w p.0 ≡ Some name) × (root_named w name ≡ Some id) × (p.1 ≡ 0)) → ⊥
          by_place' (inl x) = e.1 x.1
          by_place' (inr x) = no_own_graft o id.tree kept p.0 x.0 (sym (listed_tree m p id e.0)) x.1 (root_named_parts w x.0 id x.2).0

      -- a root that was listed
      rooted : (q : Place) → root_of m i ≡ Some id → Lists w q id → StandsAt new q id → ⊥
      rooted q is was at = by_place' (by_place new q id at)
        where
          n : IsState new
          n = new_state id there

          tree : i ≡ id.tree
          tree = root_of-tree m i id is

          root' : root_of new i ≡ Some id
          root' = root_new id i (named_kept w u o c.climbed.refined.removed.settled.compared.opened) is

          by_place' : ((graft_name new q.0 ≡ None) × Lists new q id) ⊎ ((name : TreeId) × (graft_name new q.0 ≡ Some name) × (root_named new name ≡ Some id) × (q.1 ≡ 0)) → ⊥
          by_place' (inl x) = n.root_unlisted q i id root' x.1
          by_place' (inr x) =
              let there' : IsNode new id = child_is_node n q id at in
              no_own_graft (state_old n) id.tree (n.present_kept id.tree (n.node_present id there')) q.0 x.0 (sym (listed_tree w q id was)) x.1 (root_named_parts new x.0 id x.2).0

      listed_at : (id : FullNodeId) → Reached w id → ¬ (root_of w id.tree ≡ Some id) → (q : Place) × Lists w q id
      listed_at id (world.Reached.root j t is) other = absurd (other (ap (option_map (λ t. in_tree j t.root)) is))
      listed_at id (world.Reached.child parent id' j reached at) other = ((parent, j), at)

      no_graft : (q : Place) → Lists w q id → StandsAt w q id
      no_graft q was = by_name (graft_name w q.0) refl
        where
          no_child : (xs : List FullNodeId) → xs ≡ [] → slice_get xs q.1 ≡ Some id → ⊥
          no_child [] e at = cc
          no_child (x ∷ xs) e at = cc

          by_name : (x : Option TreeId) → graft_name w q.0 ≡ x → StandsAt w q id
          by_name None e = stands_listed w q id e was
          by_name (Some name) e = absurd (no_child (listed_ids w q.0) (o.graft_childless q.0 name e) was)

      go : (s : Seat) → Entered w u s id → place_of w id ≢ place_of new id
      go (Some p) e same = placed p e (stands_at_place w id p (same ∙ found_at (new_state id there) p id (entered_stands w u o c.climbed r p id e)))
      go None e same =
          let tree : id.tree ≡ i = entered_tree w u None id e in
          let q = listed_at id (o.node_reached id there) e.1 in
          rooted q.0 (subst (λ j. root_of m j ≡ Some id) tree e.0) q.1 (stands_at_place new id q.0 (sym same ∙ found_at (old_state o id there) q.0 id (no_graft q.0 q.1)))

  -- and so does what was moved in, which is the root of another tree
  pub moved_in_tree : (id : FullNodeId) → IsMovedIn w u id → id.tree ≢ i
  moved_in_tree id (n, name, named, grafts, gained, is) same = by_rival (c.rival_gone n g.0 name named grafts gained (g.1.0 ∙ ap Some (sym its)))
    where
      its : name ≡ u.name
      its = name_here w u o name (index_stays w u o name i ((root_named_parts w name id is).0 ∙ ap Some same))

      g : (g : FullNodeId) × IsItsGraft w u g
      g = graft_live w u o c.climbed.refined.removed.settled.compared.opened (λ e. root_ungrafted w u o c.climbed.refined.removed.settled.compared n (grafts ∙ ap Some (its ∙ e)))

      by_rival : Gone w u g.0 ⊎ IsNamed w u g.0 → ⊥
      by_rival (inl gone) = gone_unlive w u o g.0 (g.1.2, g.1.3) gone
      by_rival (inr x) = g.1.1 x.0

  -- it stands at the graft
  pub moved_in_stands : (n id : FullNodeId) (name : TreeId) → IsNamed w u n → graft_name m n ≡ Some name → graft_name w n ≢ Some name → root_named w name ≡ Some id → StandsAt new (n, 0) id
  moved_in_stands n id name named grafts gained is =
      regrafted_stands w u o c.climbed r n id name named grafts (root_named_stays w u o name id (moved_in_tree id (n, name, named, grafts, gained, is)) is)

  pub moved_in_elsewhere : (id : FullNodeId) → IsMovedIn w u id → place_of w id ≢ place_of new id
  moved_in_elsewhere id h same = elsewhere h.0 h.1 h.2 h.3 h.4 h.5
    where
      elsewhere : (n : FullNodeId) (name : TreeId) → IsNamed w u n → graft_name m n ≡ Some name → graft_name w n ≢ Some name → root_named w name ≡ Some id → ⊥
      elsewhere n name named grafts gained is =
          let parts = root_named_parts w name id is in
          let there : IsNode w id = o.root_is_node id.tree id parts.1 in
          let s : IsState w = old_state o id there in
          let top : id.tree ≢ 0 = λ e. root_ungrafted w u o c.climbed.refined.removed.settled.compared n (grafts ∙ ap Some (o.known_first name (known-index_of w name 0 (parts.0 ∙ ap Some e)))) in
          let g = graft_place s id.tree id top parts.1 in
          let names : g.1 ≡ name = index_of_once w g.1 name id.tree g.3 parts.0 in
          let after : root_named m name ≡ Some id = root_named_stays w u o name id (moved_in_tree id h) is in
          let now : place_of new id ≡ Some (n, 0) = found_at (new_state id there) (n, 0) id (regrafted_stands w u o c.climbed r n id name named grafts after) in
          let before : place_of w id ≡ Some (g.0, 0) = found_at s (g.0, 0) id g.4 in
          gained (subst (λ x. graft_name w x ≡ Some name) (one_parent g.0 n (sym before ∙ same ∙ now)) (g.2 ∙ ap Some names))

  -- ---- what is told

  -- what has other data is named, with other data in the merged world
  data_changed : (id : FullNodeId) → IsNode new id → data_of w id ≢ data_of new id → IsNamed w u id × (data_of w id ≢ data_of m id)
  data_changed id there other =
      let live = new_live id there in
      let same : data_of new id ≡ data_of m id = data_same r id live.0 live.1 in
      (certain (decide_named w u id) (λ n. other (sym (unnamed_data w u id n) ∙ sym same)), λ e. other (e ∙ sym same))

  -- told as updated: what was there and is named with other data, what was there and entered, what was moved in, and the told root
  pub updated_iff : (root : Option FullNodeId) (id : FullNodeId) → IsUpdated w new root id ↔ (IsInBoth w new id × ((IsNamed w u id × (data_of w id ≢ data_of m id)) ⊎ (HasEntered w u id ⊎ (IsMovedIn w u id ⊎ (root ≡ Some id)))))
  updated_iff root id = (λ h. (h.0, to h.0 h.1 (decide_entered w u id) (decide_moved_in w u id)), λ h. (h.0, from h.0 h.1))
    where
      Told : Type 0
      Told = (IsNamed w u id × (data_of w id ≢ data_of m id)) ⊎ (HasEntered w u id ⊎ (IsMovedIn w u id ⊎ (root ≡ Some id)))

      to : IsInBoth w new id → data_of w id ≢ data_of new id ⊎ place_of w id ≢ place_of new id ⊎ root ≡ Some id → IsDecided (HasEntered w u id) → IsDecided (IsMovedIn w u id) → Told
      to b (inl x) e h = inl (data_changed id b.1 x)
      to b (inr (inr x)) e h = inr (inr (inr x))
      to b (inr (inl x)) (inl e) h = inr (inl e)
      to b (inr (inl x)) (inr e) (inl h) = inr (inr (inl h))
      to b (inr (inl x)) (inr e) (inr h) = absurd (x (place_stays id b.0 e (gone_unlive w u o id (new_live id b.1)) h))

      from : IsInBoth w new id → Told → data_of w id ≢ data_of new id ⊎ place_of w id ≢ place_of new id ⊎ root ≡ Some id
      from b (inl x) = let live = new_live id b.1 in inl (λ e. x.1 (e ∙ data_same r id live.0 live.1))
      from b (inr (inl e)) = inr (inl (entered_elsewhere id b.0 e))
      from b (inr (inr (inl h))) = inr (inl (moved_in_elsewhere id h))
      from b (inr (inr (inr x))) = inr (inr x)

  -- ---- the focus

  -- a focus is told as updated where it has no verdict
  abbrev pub IsToldWithoutVerdict : List FullNodeId → Option FullNodeId → List FullNodeId → Type 0
  IsToldWithoutVerdict told None ids = ids ≡ []
  IsToldWithoutVerdict told (Some id) ids = IsAloneIf (¬ (Gone w u id) × ¬ (IsNamed w u id × ¬ (IsNode w id)) × ¬ (Contains told id)) id ids

  focus_there : (v : World) (id : FullNodeId) → IsFocus v (Some id) → IsNode v id
  focus_there v id f = ⊎_elim (λ (x : Resolves v f.1 id). x.4) (λ x. subst (IsNode v) (sym x.0) (IsSome_is f.2.1 f.2.2)) f.3

  told_focus : (told : List FullNodeId) (x : Option FullNodeId) (ids : List FullNodeId) → ((id : FullNodeId) → x ≡ Some id → IsNode w id ⊎ IsNode new id) → IsToldWithoutVerdict told x ids → IsToldForFocus w new told x ids
  told_focus told None ids there h = h
  told_focus told (Some id) ids there h =
      let f = untold_iff told id (there id refl) in
      ⊎_elim (λ k. inl (f.1 k.0, k.1)) (λ k. inr ((λ x. k.0 (f.0 x)), k.1)) h

  pub focus_told : (told : List FullNodeId) (before after : Option FullNodeId) → IsFocus w before → IsFocus new after → before ≢ after → (left entered : List FullNodeId)
      → IsToldWithoutVerdict told before left → IsToldWithoutVerdict told after entered → AreOfFocus w new told (map Updated left ++ map Updated entered ++ FocusMoved before after ∷ [])
  focus_told told before after a b other left entered x y = (
    before,
    after,
    a,
    b,
    inr (
      other,
      left,
      entered,
      told_focus told before left (λ id e. inl (focus_there w id (subst (IsFocus w) e a))) x,
      told_focus told after entered (λ id e. inr (focus_there new id (subst (IsFocus new) e b))) y,
      refl,
    ),
  )

  pub focus_untold : (told : List FullNodeId) (focus : Option FullNodeId) → IsFocus w focus → IsFocus new focus → AreOfFocus w new told []
  focus_untold told focus a b = (focus, focus, a, b, inl (refl, refl))
