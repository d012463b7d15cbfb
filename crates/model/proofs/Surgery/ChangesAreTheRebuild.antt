-- The old world without what goes and with what is named is the rebuild, and each of its nodes stands where the changes put it.
use Rattle.std.proofs.Common.{◌≡◌, ◌≢◌, ℕ, List, [], ◌∷◌, slice_get, Option, Some, None, option_map, ◌↔◌, ◌⊎◌, inl, inr, refl, sym, ap, ◌∙◌, subst}
use Rattle.std.specs.FinMap.{get}
use Rattle.std.proofs.lemmas.Bool.{cases_eq}
use Rattle.schema.specs.NodeData.{NodeData}
use Rattle.schema.specs.declared.TreeId.{TreeId}
use Rattle.model.specs.declared.FullNodeId.{FullNodeId}
use Rattle.model.specs.World.{ROOT_NAME, World, Tree, IsNode, HasData, data_of, in_tree, index_of, listed_ids, graft_name, root_of, root_named, Place, child_at, StandsAt, Reached, Kept}
use Rattle.model.specs.World as world
use Rattle.model.specs.Update.{UpdateData, IsNamed, IsRebuild, index_for, merged_world}
use Rattle.model.specs.State.{Lists}
use Rattle.model.specs.Surgery.{IsOld, IsMovedIn, Seat, IsAt, Entered, HasEntered, IsGraftedByNamed, Gone, IsDropped, IsLive, IsOpened, IsClimbed, IsChanged}
use Rattle.model.specs.Surgery as surgery
use Rattle.model.proofs.Worlds.Names.{certain, index_of_once}
use Rattle.model.proofs.State.StatePlaces.{value_of, IsSome_is, root_named_parts, by_place, stands_listed, stands_grafted, lister_is_node, graft_is_node}
use Rattle.model.proofs.Closure.{IsDecided}
use Rattle.model.proofs.Update.AcceptedOrFault.{decide_name, decide_named, decide_id}
use Rattle.model.proofs.Update.RebuildKeeps.{data_same, tree_same, graft_same, listed_same, root_named_new}
use Rattle.model.proofs.Update.RebuildIsOne.{same_values}
use Rattle.model.proofs.Update.Merges.{tree_elsewhere}
use Rattle.model.proofs.Surgery.Spots.{root_named_from, unnamed_data, unnamed_graft, lister_named, root_elsewhere, index_stays, index_here}
use Rattle.model.proofs.Surgery.LiveAndGone.{named_kept, graft_live, kept_uncut, root_stays, spot_stays, gone_unlive, named_live, live_iff}
use Rattle.model.proofs.Surgery.RulesKept.{graft_childless}

module _ (w : World) (u : UpdateData) (o : IsOld w) (c : IsClimbed w u) where
  abbrev m : World
  m = merged_world w u

  abbrev i : ℕ
  i = index_for w u.name

  opened : IsOpened w u
  opened = c.refined.removed.settled.compared.opened

  -- another tree that is present is kept exactly where it isn't dropped
  pub kept_undropped : (index : ℕ) → Kept m index → ¬ (IsDropped w u index)
  kept_undropped index kept d = kept_uncut w u o index kept d.3 d.0 d.5 d.4 d.2 d.1

  pub undropped_kept : (index : ℕ) (t : Tree) → index ≢ i → get w.trees index ≡ Some t → ¬ (IsDropped w u index) → Kept m index
  undropped_kept index t other is spared = ((live_iff w u o c (in_tree index t.root)).1 (inr (o.root_is_node index (in_tree index t.root) was, stays))).0
    where
      was : root_of w index ≡ Some (in_tree index t.root)
      was = ap (option_map (λ t. in_tree index t.root)) is

      stays : ¬ (Gone w u (in_tree index t.root))
      stays = root_stays w u o (in_tree index t.root) was (root_elsewhere w u index other ∙ was) (λ g name lost grafts ungrafted known. spared (name, known, ungrafted, g, grafts, lost))

  tree_iff : (index : ℕ) (t : Tree) → index ≢ i → (Kept m index × (get m.trees index ≡ Some t)) ↔ (¬ (IsDropped w u index) × (get w.trees index ≡ Some t))
  tree_iff index t other =
      (λ k. (kept_undropped index k.0, sym (tree_elsewhere w u index other) ∙ k.1), λ k. (undropped_kept index t other k.1 k.0, tree_elsewhere w u index other ∙ k.1))

  node_iff : (id : FullNodeId) (d : NodeData) → ¬ (IsNamed w u id) → (Kept m id.tree × Reached m id × HasData m id d) ↔ (¬ (Gone w u id) × HasData w id d)
  node_iff id d other = (to, from)
    where
      to : Kept m id.tree × Reached m id × HasData m id d → ¬ (Gone w u id) × HasData w id d
      to k = (gone_unlive w u o id (k.0, k.1), sym (unnamed_data w u id other) ∙ k.2)

      from : ¬ (Gone w u id) × HasData w id d → Kept m id.tree × Reached m id × HasData m id d
      from k = let live = (live_iff w u o c id).1 (inr (IsSome_is d k.1, k.0)) in (live.0, live.1, unnamed_data w u id other ∙ k.1)

  -- (iii): the changes make the rebuild, and nothing else is one
  pub changed_rebuild : (new : World) → IsChanged w u new → IsRebuild m new
  changed_rebuild new r = record {
    known = r.known;
    toolkit = r.toolkit;
    host = r.host;
    trees = λ index t. by_index index t (cases_eq index i);
    nodes = λ id d. by_name id d (decide_named w u id);
  }
    where
      by_index : (index : ℕ) (t : Tree) → (index ≡ i) ⊎ (index ≡ i → ⊥) → (get new.trees index ≡ Some t) ↔ (Kept m index × (get m.trees index ≡ Some t))
      by_index index t (inl same) =
          let trees : get new.trees index ≡ get m.trees index = subst (λ k. get new.trees k ≡ get m.trees k) (sym same) r.named_tree in
          (λ is. (subst (Kept m) (sym same) (named_kept w u o opened), sym trees ∙ is), λ k. trees ∙ k.1)
      by_index index t (inr other) = let f = tree_iff index t other in let g = r.other_trees index t other in (λ is. f.1 (g.0 is), λ k. g.1 (f.0 k))

      by_name : (id : FullNodeId) (d : NodeData) → IsDecided (IsNamed w u id) → HasData new id d ↔ (Kept m id.tree × Reached m id × HasData m id d)
      by_name id d (inl named) = let live = named_live w u o c id named in let same = r.named_nodes id named in (λ has. (live.0, live.1, sym same ∙ has), λ k. same ∙ k.2)
      by_name id d (inr other) = let f = node_iff id d other in let g = r.other_nodes id d other in (λ has. f.1 (g.0 has), λ k. g.1 (f.0 k))

  pub rebuild_changed : (new : World) → IsRebuild m new → IsChanged w u new
  rebuild_changed new r = record {
    known = r.known;
    toolkit = r.toolkit;
    host = r.host;
    named_tree = tree_same r i (named_kept w u o opened);
    other_trees = λ index t other. let f = tree_iff index t other in let g = r.trees index t in (λ is. f.0 (g.0 is), λ k. g.1 (f.1 k));
    named_nodes = λ id named. let live = named_live w u o c id named in data_same r id live.0 live.1;
    other_nodes = λ id d other. let f = node_iff id d other in let g = r.nodes id d in (λ has. f.0 (g.0 has), λ k. g.1 (f.1 k));
  }

  -- what the new world says of a node: a named one has the data that it is named with, one that goes has none, and another has its own
  pub gone_nothing : (new : World) → IsChanged w u new → (id : FullNodeId) → Gone w u id → ¬ (IsNode new id)
  gone_nothing new r id gone there =
      let d = value_of (data_of new id) there in
      ((r.other_nodes id d.0 (λ named. gone_unlive w u o id (named_live w u o c id named) gone)).0 d.1).0 gone

  pub stays_same : (new : World) → IsChanged w u new → (id : FullNodeId) → ¬ (IsNamed w u id) → ¬ (Gone w u id) → data_of new id ≡ data_of w id
  stays_same new r id other stays = same_values (HasData w id) (data_of new id) (data_of w id)
      (λ d. (λ has. ((r.other_nodes id d other).0 has).1, λ was. (r.other_nodes id d other).1 (stays, was))) (λ d. (λ has. has, λ has. has))

  -- ---- places in the rebuild

  module _ {new : World} (r : IsRebuild m new) where
    -- what a live node lists stands there
    lists_stands : (p : Place) (id : FullNodeId) → IsLive w u p.0 → Lists m p id → StandsAt new p id
    lists_stands p id live at = stands_listed new p id (graft_same r p.0 live.0 live.1 ∙ none (graft_name m p.0) refl) (subst (λ xs. slice_get xs p.1 ≡ Some id) (sym (listed_same r p.0 live.0 live.1)) at)
      where
        no_child : (xs : List FullNodeId) → xs ≡ [] → slice_get xs p.1 ≡ Some id → ⊥
        no_child [] e at = cc
        no_child (x ∷ xs) e at = cc

        none : (x : Option TreeId) → graft_name m p.0 ≡ x → x ≡ None
        none None e = refl
        none (Some name) e = absurd (no_child (listed_ids m p.0) (graft_childless w u o c.refined.removed.settled.compared p.0 name e) at)

    -- the root of the tree that a live node grafts stands at the graft
    graft_stands : (g id : FullNodeId) (name : TreeId) → IsLive w u g → graft_name m g ≡ Some name → root_named m name ≡ Some id → StandsAt new (g, 0) id
    graft_stands g id name live grafts is =
        stands_grafted new g id name (graft_same r g live.0 live.1 ∙ grafts) (root_named_new r name id (world.Kept.grafted g id name live.0 live.1 grafts is) is)

    -- what entered a place stands there
    pub entered_stands : (p : Place) (id : FullNodeId) → Entered w u (Some p) id → StandsAt new p id
    entered_stands p id e = lists_stands p id (named_live w u o c p.0 (lister_named w u p id e.0 e.1)) e.0

    -- the root of the named tree stands at the graft of the tree
    pub named_root_stands : (id : FullNodeId) → u.name ≢ ROOT_NAME → root_of m i ≡ Some id → (g : FullNodeId) × (graft_name w g ≡ Some u.name) × StandsAt new (g, 0) id
    named_root_stands id other is =
        let g = graft_live w u o opened other in
        (g.0, g.1.0, graft_stands g.0 id u.name (g.1.2, g.1.3) (unnamed_graft w u g.0 (λ n. g.1.1 n.0) ∙ g.1.0) (root_named_from m u.name i id (index_here w u o) is))

    -- the root of a tree that a named node grafts stands at that node
    pub regrafted_stands : (n id : FullNodeId) (name : TreeId) → IsNamed w u n → graft_name m n ≡ Some name → root_named m name ≡ Some id → StandsAt new (n, 0) id
    regrafted_stands n id name named grafts is = graft_stands n id name (named_live w u o c n named) grafts is

    -- what neither entered nor goes stands where it stood, but for the root of a tree that another node grafts now
    pub stays_standing : (p : Place) (id : FullNodeId) → StandsAt w p id → ¬ (HasEntered w u id) → ¬ (Gone w u id)
        → ((n : FullNodeId) (name : TreeId) → IsNamed w u n → graft_name m n ≡ Some name → root_named w name ≡ Some id → n ≡ p.0) → StandsAt new p id
    stays_standing p id at none stays grafted = go (by_place w p id at)
      where
        below : Lists w p id → StandsAt new p id
        below was =
            let f = spot_stays w u o (Some p) id was none stays in
            lists_stands p id ((live_iff w u o c p.0).1 (inr (lister_is_node w p id was, f.1 p refl))) f.0

        at_graft : (name : TreeId) → graft_name w p.0 ≡ Some name → root_named w name ≡ Some id → p.1 ≡ 0 → StandsAt new p id
        at_graft name grafts is first = certain (decide_id (child_at new p) id) (λ out.
            let parts = root_named_parts w name id is in
            let f = spot_stays w u o None id parts.1 none stays in
            let after : root_named m name ≡ Some id = root_named_from m name id.tree id (index_stays w u o name id.tree parts.0) f.0 in
            let place : (p.0, 0) ≡ p = λ k. (p.0, sym first k) in
            let ungrafted : ¬ (IsGraftedByNamed w u name) = λ g. out (subst (λ q. StandsAt new q id) place (subst (λ x. StandsAt new (x, 0) id) (grafted g.0 name g.1 g.2 is) (regrafted_stands g.0 id name g.1 g.2 after))) in
            let unnamed : ¬ (IsNamed w u p.0) = λ n. stays (surgery.Gone.cut p.0 id name n grafts ungrafted is none) in
            let above : ¬ (Gone w u p.0) = λ gone. stays (surgery.Gone.under p.0 id name gone grafts ungrafted is none) in
            let live = (live_iff w u o c p.0).1 (inr (graft_is_node w p.0 name grafts, above)) in
            out (subst (λ q. StandsAt new q id) place (graft_stands p.0 id name live (unnamed_graft w u p.0 unnamed ∙ grafts) after)))

        go : ((graft_name w p.0 ≡ None) × Lists w p id) ⊎ ((name : TreeId) × (graft_name w p.0 ≡ Some name) × (root_named w name ≡ Some id) × (p.1 ≡ 0)) → StandsAt new p id
        go (inl x) = below x.1
        go (inr x) = at_graft x.0 x.1 x.2 x.3

    -- what neither entered, nor goes, nor was moved in stands where it stood
    pub unmoved_stands : (p : Place) (id : FullNodeId) → StandsAt w p id → ¬ (HasEntered w u id) → ¬ (Gone w u id) → ¬ (IsMovedIn w u id) → StandsAt new p id
    unmoved_stands p id at none stays unmoved = stays_standing p id at none stays (λ n name named grafts is. grafted n name named grafts is (by_place w p id at))
      where
        same_graft : (n : FullNodeId) (name name' : TreeId) → IsNamed w u n → graft_name m n ≡ Some name → root_named w name ≡ Some id → graft_name w p.0 ≡ Some name' → root_named w name' ≡ Some id → IsDecided (graft_name w n ≡ Some name) → n ≡ p.0
        same_graft n name name' named grafts is was is' (inl before) =
            let names : name' ≡ name = index_of_once w name' name id.tree (root_named_parts w name' id is').0 (root_named_parts w name id is).0 in
            o.grafted_once n p.0 name before (was ∙ ap Some names)
        same_graft n name name' named grafts is was is' (inr gained) = absurd (unmoved (n, name, named, grafts, gained, is))

        grafted : (n : FullNodeId) (name : TreeId) → IsNamed w u n → graft_name m n ≡ Some name → root_named w name ≡ Some id → ((graft_name w p.0 ≡ None) × Lists w p id) ⊎ ((name : TreeId) × (graft_name w p.0 ≡ Some name) × (root_named w name ≡ Some id) × (p.1 ≡ 0)) → n ≡ p.0
        grafted n name named grafts is (inl x) = absurd (o.root_unlisted p id.tree id (root_named_parts w name id is).1 x.1)
        grafted n name named grafts is (inr x) = same_graft n name x.0 named grafts is x.1 x.2 (decide_name (graft_name w n) name)
