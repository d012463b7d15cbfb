-- Changes that give nodes other data, and move nodes that keep theirs, break no rule: the merged world is its own rebuild.
use Rattle.std.proofs.Common.{Contains, ◌≡◌, ◌≢◌, ℕ, ◌<◌, [], map, length, slice_get, Option, Some, None, IsSome, option_map, option_and_then, ◌⊎◌, inl, inr, ⊎_elim, ◌↔◌, refl, sym, ap, ◌∙◌, subst, arith}
use Rattle.std.specs.Option.{option_map_or}
use Rattle.std.specs.FinMap.{get}
use Rattle.std.proofs.lemmas.Option.{same_Some, slice_get_within}
use Rattle.values_by_id.specs.Rows.{row_at}
use Rattle.schema.specs.NodeData.{NodeData}
use Rattle.schema.specs.declared.NodeId.{NodeId}
use Rattle.schema.specs.declared.TreeId.{TreeId}
use Rattle.model.specs.declared.FullNodeId.{FullNodeId}
use Rattle.model.specs.World.{World, Tree, Place, IsNode, HasData, StandsAt, data_of, in_tree, index_of, listed_ids, graft_name, root_of, focus_of, focus_named, root_named, Reached, Kept}
use Rattle.model.specs.World as world
use Rattle.model.specs.Focus.{OnChain, first, next, IsFocus, IsEffectiveFocus, Resolves}
use Rattle.model.specs.Surgery.{IsOld, Seat, Left, Entered, HasEntered, Gone, IsLive, IsMovedIn, IsCompared, IsSettled, IsRefined, IsClimbed, IsPassed}
use Rattle.model.specs.State.{IsState, Lists}
use Rattle.model.specs.Update.{UpdateData, IsNamed, IsRebuild, KeepsRules, index_for, merged_world}
use Rattle.model.proofs.State.StatePlaces.{IsSome_is, by_place, root_named_parts, listed_tree}
use Rattle.model.proofs.Surgery.Spots.{node_stays, lister_named, leaver_named, at_or_left, root_reached}
use Rattle.model.proofs.Surgery.LiveAndGone.{gone_found, reached_node, live_iff}
use Rattle.model.proofs.Surgery.OldWorlds.{old_state}
use Rattle.model.proofs.Surgery.OldUpdates.{old_leaves_state}
use Rattle.model.proofs.Surgery.RulesKept.{passed_keeps}
use Rattle.tree_changes.specs.declared.decision.NodeChange.{NodeChange}
use Rattle.tree_changes.specs.declared.decision.NodeChange.TheVariants.{Put}
use Rattle.tree_changes.specs.Changes.{NodeChanges, place_in}
use Rattle.tree_plan.specs.declared.passes.Opened.{Opened}
use Rattle.tree_plan.specs.declared.moves.Moving.{Moving}
use Rattle.tree_plan.specs.Passes.{at, HoldsOpened}
use Rattle.tree_plan.specs.Writing.{own_record}
use Rattle.tree_plan.specs.News.{IsNamedOnce}
use Rattle.tree_plan.specs.Moves.{KeepsGrafts, KeepsLinks, came_to, AreMoves, IsAbove, LeadsUp, ends, goes, HaveWays, HaveMoved}
use Rattle.tree_plan.proofs.NamedData.{HasBoth, named_both}
use Rattle.tree_plan.proofs.NamedData as both
use Rattle.tree_plan.proofs.NamedNodes.{all_named}
use Rattle.tree_plan.proofs.SameTrees.{tree_before, trees_same, index_same}
use Rattle.tree_plan.proofs.Trees.{AreAfter}

pub same_links : (d : NodeData) → KeepsLinks d d
same_links d = record { graft = refl; active = refl }

-- a place is given with other data, or with none
renewal_comes_nowhere : (x : NodeChange) (place : Option Place) (k : ℕ) (p : Place) → x ≡ Put place (Some k) → came_to x ≡ Some p → ⊥
renewal_comes_nowhere x place k p is came = let e : came_to (Put place (Some k)) ≡ Some p = subst (λ y. came_to y ≡ Some p) is came in cc

entries_differ : (a b : Option Place) (k : ℕ) → Put a None ≡ Put b (Some k) → ⊥
entries_differ a b k e = cc

module _ (v w : World) (trees : (q : ℕ) → get v.trees q ≡ get w.trees q) (index : (name : TreeId) → index_of v name ≡ index_of w name) (grafts : (id : FullNodeId) → graft_name v id ≡ graft_name w id)
    (live : (id : FullNodeId) → Kept v id.tree → Reached v id → Kept w id.tree × Reached w id) where
  focus_here : (q : ℕ) → focus_of v q ≡ focus_of w q
  focus_here q = ap (option_map (λ (t : Tree). in_tree q t.focus)) (trees q)

  focus_named_here : (name : TreeId) → focus_named v name ≡ focus_named w name
  focus_named_here name = ap (option_and_then (focus_of v)) (index name) ∙ go (index_of w name)
    where
      go : (o : Option ℕ) → option_and_then (focus_of v) o ≡ option_and_then (focus_of w) o
      go None = refl
      go (Some q) = focus_here q

  -- the chain of the focus goes by trees, grafts and what is reached
  pub chain_goes : (id : FullNodeId) → OnChain v id → OnChain w id
  chain_goes id (first t is) = first t (sym (trees 0) ∙ is)
  chain_goes id (next graft id' on step) =
      let f = live graft step.kept step.reached in
      next graft id (chain_goes graft on) (record {
        kept = f.0;
        reached = f.1;
        name = step.name;
        grafts = sym (grafts graft) ∙ step.grafts;
        declared = sym (focus_named_here step.name) ∙ step.declared;
      })

module _ (w : World) (u : UpdateData) (o : IsOld w) (op : Opened) (opening : HoldsOpened w u op) (same : own_record u.name u.focus op ≡ op.record) (once : IsNamedOnce u)
    (mv : Moving) (moves : AreMoves w u (length u.nodes) mv) (rows : NodeChanges) (reads : (id : FullNodeId) (c : NodeChange) → (row_at rows id ≡ Some c) ↔ Contains mv.changes (id, c))
    (moved : HaveMoved rows mv.left.items) (ways : HaveWays w rows mv.left.items (in_tree op.index op.root)) where
  abbrev m : World
  m = merged_world w u

  abbrev i : ℕ
  i = index_for w u.name

  abbrev root : FullNodeId
  root = in_tree op.index op.root

  -- ---- the nodes

  pub named_keeps : (id : FullNodeId) → IsNamed w u id → HasBoth w u KeepsGrafts id
  named_keeps = named_both w u KeepsGrafts once (λ k e at. moves.keep k e (slice_get_within u.nodes k e at) at)

  named_links : (id : FullNodeId) → IsNamed w u id → HasBoth w u KeepsLinks id
  named_links id named = let d = named_keeps id named in (d.0, d.1, d.2, d.3, d.4.0)

  any_data : (id : FullNodeId) → (data_of m id ≡ data_of w id) ⊎ HasBoth w u KeepsLinks id
  any_data = both.any_data w u KeepsLinks same_links named_links

  data_now : (id : FullNodeId) (old : NodeData) → HasData w id old → (d : NodeData) × HasData m id d × KeepsLinks old d
  data_now = both.data_now w u KeepsLinks same_links named_links

  data_then : (id : FullNodeId) (d : NodeData) → HasData m id d → (old : NodeData) × HasData w id old × KeepsLinks old d
  data_then = both.data_then w u KeepsLinks same_links named_links

  node_now : (id : FullNodeId) → IsNode w id → IsNode m id
  node_now = node_stays w u

  pub node_then : (id : FullNodeId) → IsNode m id → IsNode w id
  node_then = both.node_then w u KeepsLinks same_links named_links

  grafts_alike : (id : FullNodeId) → graft_name m id ≡ graft_name w id
  grafts_alike id = ⊎_elim
      (λ same. ap (option_and_then (λ (d : NodeData). d.tree_id)) same)
      (λ x. ap (option_and_then (λ (d : NodeData). d.tree_id)) x.3 ∙ sym x.4.graft ∙ sym (ap (option_and_then (λ (d : NodeData). d.tree_id)) x.2))
      (any_data id)

  roots_alike : (q : ℕ) → root_of m q ≡ root_of w q
  roots_alike q = ap (option_map (λ (t : Tree). in_tree q t.root)) (trees_same w u o op opening same q)

  root_here : root_of m i ≡ Some root
  root_here = subst (λ j. root_of m j ≡ Some root) opening.index opening.root

  -- ---- the spots

  left_spot : (s : Seat) (c : FullNodeId) → Left w u s c → (p : Place) × (s ≡ Some p)
  left_spot None c l = absurd (l.1 (roots_alike c.tree ∙ l.0))
  left_spot (Some p) c l = (p, refl)

  entered_spot : (s : Seat) (c : FullNodeId) → Entered w u s c → (p : Place) × (s ≡ Some p)
  entered_spot None c e = absurd (e.1 (sym (roots_alike c.tree) ∙ e.0))
  entered_spot (Some p) c e = (p, refl)

  -- the change of a node that came to a place
  pub row_entered : (c : FullNodeId) (x : NodeChange) (p : Place) → at rows c ≡ Some x → came_to x ≡ Some p → Entered w u (Some p) c
  row_entered c x p is came = ⊎_elim
      (λ r. absurd (renewal_comes_nowhere x r.5 r.0 p r.7 came))
      (λ f. let one : f.0 ≡ p = same_Some f.0 p (sym (ap came_to f.3) ∙ came) in subst (λ y. Entered w u (Some y) c) one f.2)
      ((moves.changes c x).0 ((reads c x).0 is))

  pub entered_row : (c : FullNodeId) (p : Place) → Entered w u (Some p) c → at rows c ≡ Some (Put (Some p) None)
  entered_row c p e =
      (reads c (Put (Some p) None)).1 ((moves.changes c (Put (Some p) None)).1 (inr (p, (all_named w u o p.0).1 (lister_named w u p c e.0 e.1), e, refl)))

  left_entered : (s : Seat) (c : FullNodeId) → Left w u s c → HasEntered w u c
  left_entered s c l =
      let f = left_spot s c l in
      let l' : Left w u (Some f.0) c = subst (λ t. Left w u t c) f.1 l in
      let among : Contains mv.left.items (c, f.0.0) = (moves.left c f.0.0).1 ((all_named w u o f.0.0).1 (leaver_named w u f.0 c l'.0 l'.1), f.0.1, l') in
      let x = moved c f.0.0 among in
      (Some x.1, row_entered c x.0 x.1 x.2 x.3)

  entered_left : (p : Place) (c : FullNodeId) → Entered w u (Some p) c → (q : Place) × Left w u (Some q) c × ((q.0 ≡ p.0) ⊎ LeadsUp w rows root p.0)
  entered_left p c e =
      let f = ways c (Put (Some p) None) p (entered_row c p e) refl in
      let l = (moves.left c f.0).0 f.1 in
      ((f.0, l.1), l.2, f.2)

  entered_was : (s : Seat) (c : FullNodeId) → Entered w u s c → (q : Place) × Left w u (Some q) c
  entered_was s c e = let f = entered_spot s c e in let g = entered_left f.0 c (subst (λ t. Entered w u t c) f.1 e) in (g.0, g.1)

  entered_once : (s t : Seat) (c : FullNodeId) → Entered w u s c → Entered w u t c → s ≡ t
  entered_once s t c a b =
      let f = entered_spot s c a in
      let g = entered_spot t c b in
      let x : at rows c ≡ Some (Put (Some f.0) None) = entered_row c f.0 (subst (λ y. Entered w u y c) f.1 a) in
      let y : at rows c ≡ Some (Put (Some g.0) None) = entered_row c g.0 (subst (λ y. Entered w u y c) g.1 b) in
      let one : Put (Some f.0) None ≡ Put (Some g.0) None = same_Some (Put (Some f.0) None) (Put (Some g.0) None) (sym x ∙ y) in
      f.1 ∙ ap came_to one ∙ sym g.1

  -- ---- nothing goes

  pub gone_none : (c : FullNodeId) → ¬ (Gone w u c)
  gone_none c gone = gone_found w u o (λ _. ⊥)
      (λ s c l none. none (left_entered s c l))
      (λ p c lost at none. lost)
      (λ g c name lost grafts other is none. ⊎_elim (λ x. x) (λ named. other (g, named, grafts_alike g ∙ grafts)) lost)
      c gone

  compared : IsCompared w u
  compared = record {
    opened = opening.opened;
    named_once = once;
    named_ungrafting = λ n named grafts. o.root_ungrafted n (sym (grafts_alike n) ∙ grafts);
    named_childless = λ n name named grafts.
        let f = named_keeps n named in
        let lists : listed_ids m n ≡ map (in_tree n.tree) f.1.children = ap (λ y. option_map_or (λ (d : NodeData). map (in_tree n.tree) d.children) y []) f.3 in
        let before : listed_ids w n ≡ map (in_tree n.tree) f.0.children = ap (λ y. option_map_or (λ (d : NodeData). map (in_tree n.tree) d.children) y []) f.2 in
        let was : graft_name w n ≡ Some name = sym (grafts_alike n) ∙ grafts in
        ⊎_elim
        (λ one. lists ∙ ap (map (in_tree n.tree)) (sym one) ∙ sym before ∙ o.graft_childless n name was)
        (λ none. let is : f.1.tree_id ≡ Some name = sym (ap (option_and_then (λ (d : NodeData). d.tree_id)) f.3) ∙ grafts in let clash : None ≡ Some name = sym none ∙ is in cc)
        f.4.1;
    named_apart = λ a b name x y f g. o.grafted_once a b name (sym (grafts_alike a) ∙ f) (sym (grafts_alike b) ∙ g);
    entered_once = entered_once;
  }

  settled : IsSettled w u
  settled = record {
    compared = compared;
    root_unlisted = λ p c is e. let f = entered_was (Some p) c e in o.root_unlisted f.0 i c (sym (roots_alike i) ∙ is) f.1.0;
    entered_is_node = λ s c e. let f = entered_was s c e in node_now c (o.listed_is_node f.0 c f.1.0);
  }

  refined : IsRefined w u
  refined = record {
    removed = record { settled = settled; named_stays = λ n named. gone_none n };
    new_entered = λ n named absent. let f = named_keeps n named in absurd (absent (IsSome_is f.0 f.2));
    doubled_gone = λ s q c e was at.
        let f = entered_was s c e in
        let one : f.0 ≡ q = o.listed_once f.0 q c f.1.0 was in
        absurd (f.1.1 (subst (λ y. Lists m y c) (sym one) at));
  }

  -- ---- the ways up

  unmoved_lists : (p : Place) (id : FullNodeId) → id.tree ≡ i → id ≢ root → StandsAt w p id → ¬ (HasEntered w u id) → Lists m p id
  unmoved_lists p id tree other stands none = ⊎_elim
      (λ l. ⊎_elim (λ at. at) (λ left. absurd (none (left_entered (Some p) id left))) (at_or_left w u (Some p) id l.1))
      (λ g.
      let parts = root_named_parts w g.0 id g.2 in
      let top : root_of w i ≡ Some id = subst (λ j. root_of w j ≡ Some id) tree parts.1 in
      absurd (other (same_Some id root (sym top ∙ sym (roots_alike i) ∙ root_here))))
      (by_place w p id stands)

  pub renewed_unentered : (id : FullNodeId) (place : Option Place) (k : ℕ) → at rows id ≡ Some (Put place (Some k)) → ¬ (HasEntered w u id)
  renewed_unentered id place k is e =
      let f = entered_spot e.0 id e.1 in
      let row : at rows id ≡ Some (Put (Some f.0) None) = entered_row id f.0 (subst (λ t. Entered w u t id) f.1 e.1) in
      entries_differ (Some f.0) place k (same_Some (Put (Some f.0) None) (Put place (Some k)) (sym row ∙ is))

  pub unlisted_unentered : (id : FullNodeId) → at rows id ≡ None → ¬ (HasEntered w u id)
  unlisted_unentered id none e =
      let f = entered_spot e.0 id e.1 in
      let row : at rows id ≡ Some (Put (Some f.0) None) = entered_row id f.0 (subst (λ t. Entered w u t id) f.1 e.1) in
      let clash : None ≡ Some (Put (Some f.0) None) = sym none ∙ row in
      cc

  above_lists : (id parent : FullNodeId) → id.tree ≡ i → id ≢ root → IsAbove w rows id parent → (p : Place) × (parent ≡ p.0) × Lists m p id
  above_lists id parent tree other above = (
    above.0,
    above.1,
    ⊎_elim
        (λ f. ⊎_elim
        (λ r.
        let is : at rows id ≡ Some (Put r.5 (Some r.0)) = f.1 ∙ ap Some r.7 in
        let place : r.5 ≡ Some above.0 = sym (ap place_in r.7) ∙ f.2 in
        unmoved_lists above.0 id tree other ((r.6 above.0).0 place) (renewed_unentered id r.5 r.0 is))
        (λ e. let one : e.0 ≡ above.0 = same_Some e.0 above.0 (sym (ap place_in e.3) ∙ f.2) in subst (λ p. Lists m p id) one e.2.0)
        ((moves.changes id f.0).0 ((reads id f.0).0 f.1)))
        (λ f. unmoved_lists above.0 id tree other f.1 (unlisted_unentered id f.0))
        above.2,
  )

  climbs : (x : FullNodeId) → LeadsUp w rows root x → x.tree ≡ i → Reached m x
  climbs x ends tree = root_reached m i root root_here
  climbs x (goes id parent other above rest) tree =
      let l = above_lists id parent tree other above in
      let up : Reached m parent = climbs parent rest (ap (λ y. y.tree) l.1 ∙ sym (listed_tree m l.0 id l.2) ∙ tree) in
      world.Reached.child l.0.0 id l.0.1 (subst (Reached m) l.1 up) l.2

  climbed : IsClimbed w u
  climbed = record {
    refined = refined;
    adopter_reached = λ n named adopts.
        let f = entered_left (n, adopts.0) adopts.1 adopts.2 in
        ⊎_elim
        (λ one. let P : FullNodeId → Type 0 = λ y. Lists w (y, f.0.1) adopts.1 in absurd (adopts.3 f.0.1 (subst P one f.1.0)))
        (λ leads. climbs n leads named.0)
        f.2;
  }

  passed : IsPassed w u
  passed = record {
    climbed = climbed;
    rival_gone = λ n g name named grafts gained was. absurd (gained (sym (grafts_alike n) ∙ grafts));
  }

  -- ---- the focus

  live : (x : FullNodeId) → IsNode w x → IsLive w u x
  live x there = (live_iff w u o climbed x).1 (inr (there, gone_none x))

  was_node : (x : FullNodeId) → Reached w x → IsNode w x
  was_node x (world.Reached.root j t is) = o.root_is_node j (in_tree j t.root) (ap (option_map (λ t. in_tree j t.root)) is)
  was_node x (world.Reached.child parent x' k reached at) = o.listed_is_node (parent, k) x at

  was_live : (x : FullNodeId) → Kept m x.tree → Reached m x → Kept w x.tree × Reached w x
  was_live x kept reached =
      let there : IsNode w x = node_then x (reached_node w u o settled x reached) in
      (o.present_kept x.tree (o.node_present x there), o.node_reached x there)

  chain_then : (id : FullNodeId) → OnChain m id → OnChain w id
  chain_then = chain_goes m w (trees_same w u o op opening same) (index_same w u o op opening same) grafts_alike was_live

  chain_now : (id : FullNodeId) → OnChain w id → OnChain m id
  chain_now = chain_goes w m (λ q. sym (trees_same w u o op opening same q)) (λ name. sym (index_same w u o op opening same name)) (λ id. sym (grafts_alike id)) (λ x kept reached. live x (was_node x reached))

  root_named_alike : (name : TreeId) → root_named m name ≡ root_named w name
  root_named_alike name = ap (option_and_then (root_of m)) (index_same w u o op opening same name) ∙ go (index_of w name)
    where
      go : (x : Option ℕ) → option_and_then (root_of m) x ≡ option_and_then (root_of w) x
      go None = refl
      go (Some q) = roots_alike q

  pub rules : KeepsRules w u
  rules = passed_keeps w u o passed
      (λ id on. (live id (o.focus_is_node id (chain_then id on))).1)
      (λ id name on grafts. subst IsSome (sym (root_named_alike name)) (o.focus_goes_on id name (chain_then id on) (sym (grafts_alike id) ∙ grafts)))

  -- ---- the rebuild

  kept_now : (q : ℕ) (t : Tree) → get w.trees q ≡ Some t → Kept m q
  kept_now q t is = (live (in_tree q t.root) (o.root_is_node q (in_tree q t.root) (ap (option_map (λ (t : Tree). in_tree q t.root)) is))).0

  pub rebuilt : IsRebuild m m
  rebuilt = record {
    known = refl;
    toolkit = refl;
    host = refl;
    trees = λ q t. (λ is. (kept_now q t (sym (trees_same w u o op opening same q) ∙ is), is), λ x. x.1);
    nodes = λ id d. (λ has. let l = live id (node_then id (IsSome_is d has)) in (l.0, l.1, has), λ x. x.2);
  }

  root_there : IsNode w (in_tree i op.root)
  root_there = o.root_is_node i (in_tree i op.root) (ap (option_map (λ (t : Tree). in_tree i t.root)) (tree_before w u o op opening same))

  pub state_before : IsState w
  state_before = old_state o (in_tree i op.root) root_there

  pub state_after : IsState m
  state_after = old_leaves_state w u o rules m rebuilt

  tree_named_alike : (name : TreeId) → option_and_then (λ q. get w.trees q) (index_of w name) ≡ option_and_then (λ q. get m.trees q) (index_of m name)
  tree_named_alike name = go (index_of w name) ∙ sym (ap (option_and_then (λ q. get m.trees q)) (index_same w u o op opening same name))
    where
      go : (x : Option ℕ) → option_and_then (λ q. get w.trees q) x ≡ option_and_then (λ q. get m.trees q) x
      go None = refl
      go (Some q) = sym (trees_same w u o op opening same q)

  pub none_after : AreAfter w u o rules m rebuilt []
  none_after = record {
    each = λ t c. absurd (let lt : c.0 < 0 = c.1 in omega arith);
    differ = λ t c. absurd (let lt : c.0 < 0 = c.1 in omega arith);
    others = λ name none. record {
      index = sym (index_same w u o op opening same name);
      graft = λ g. (λ e. grafts_alike g ∙ e, λ e. sym (grafts_alike g) ∙ e);
      tree = tree_named_alike name;
    };
  }

  pub effective_now : (e : FullNodeId) → IsEffectiveFocus w e → IsEffectiveFocus m e
  effective_now e f = let d = data_now e f.1 f.2 in (chain_now e f.0, d.0, d.1, sym d.2.graft ∙ f.3)

  resolves_now : (e a : FullNodeId) → Resolves w e a → Resolves m e a
  resolves_now e a r = let d = data_now e r.0 r.1 in (d.0, d.1, sym d.2.active ∙ r.2, r.3, node_now a r.4)

  resolves_then : (e a : FullNodeId) → Resolves m e a → Resolves w e a
  resolves_then e a r = let d = data_then e r.0 r.1 in (d.0, d.1, d.2.active ∙ r.2, r.3, node_then a r.4)

  pub focus_now : (answer : Option FullNodeId) → IsFocus w answer → IsFocus m answer
  focus_now None f = f
  focus_now (Some id) f = (
    f.0,
    f.1,
    effective_now f.1 f.2,
    ⊎_elim (λ r. inl (resolves_now f.1 id r)) (λ x. inr (x.0, λ a r. x.1 a (resolves_then f.1 a r))) f.3,
  )

  pub unmoved_in : (id : FullNodeId) → ¬ (IsMovedIn w u id)
  unmoved_in id mi = mi.4 (sym (grafts_alike mi.0) ∙ mi.3)
