-- Which nodes entered, and which go, is decided.
use Rattle.std.proofs.Common.{◌≡◌, ◌≢◌, ℕ, List, map, Option, Some, None, ◌⊎◌, inl, inr, refl, sym, ap, ◌∙◌, subst}
use Rattle.std.specs.FinMap.{entries}
use Rattle.std.proofs.lemmas.Option.{same_Some}
use Rattle.schema.specs.declared.TreeId.{TreeId}
use Rattle.model.specs.declared.FullNodeId.{FullNodeId}
use Rattle.model.specs.World.{World, listed_ids, graft_name, root_named, Place}
use Rattle.model.specs.Update.{UpdateData, IsNamed, merged_world}
use Rattle.model.specs.State.{Lists}
use Rattle.model.specs.Surgery.{IsOld, Seat, IsAt, Left, Entered, HasEntered, IsGraftedByNamed, Gone, IsMovedIn}
use Rattle.model.specs.Surgery as surgery
use Rattle.model.proofs.State.StatePlaces.{graft_is_node, lister_is_node}
use Rattle.model.proofs.Closure.{IsDecided, Path, start, step, decide_path, decide_both, decide_by}
use Rattle.model.proofs.Update.RebuildIsThere.{decide_listed, found, edge_at, edge_parts}
use Rattle.model.proofs.Update.AcceptedOrFault.{IsIn, decide_any, decide_not, decide_either, keys, is_key, places, is_place, decide_id, decide_name, decide_named}
use Rattle.model.proofs.Surgery.Spots.{decide_at, named_is_node}

module _ (w : World) (u : UpdateData) where
  abbrev m : World
  m = merged_world w u

  -- a node at some spot of a world, with what is decided of the spot
  decide_spot : (v : World) (c : FullNodeId) (Q : Seat → Type 0) → ((s : Seat) → IsDecided (Q s)) → IsDecided ((s : Seat) × IsAt v s c × Q s)
  decide_spot v c Q decide = go (decide_both (decide_at v None c) (decide None)) (decide_any Here decide_here (places v (keys v)))
    where
      Here : Place × FullNodeId → Type 0
      Here e = Lists v e.0 c × Q (Some e.0)

      decide_here : (e : Place × FullNodeId) → IsDecided (Here e)
      decide_here e = decide_both (decide_at v (Some e.0) c) (decide (Some e.0))

      at_place : ((IsAt v None c × Q None) → ⊥) → (((e : Place × FullNodeId) × IsIn e (places v (keys v)) × Here e) → ⊥) → (s : Seat) → IsAt v s c → Q s → ⊥
      at_place r d None at q = r (at, q)
      at_place r d (Some p) at q = d ((p, c), is_place v p c at, (at, q))

      go : IsDecided (IsAt v None c × Q None) → IsDecided ((e : Place × FullNodeId) × IsIn e (places v (keys v)) × Here e) → IsDecided ((s : Seat) × IsAt v s c × Q s)
      go (inl r) d = inl (None, r.0, r.1)
      go (inr r) (inl d) = inl (Some d.0.0, d.2.0, d.2.1)
      go (inr r) (inr d) = inr (λ h. at_place r d h.0 h.1 h.2)

  pub decide_entered : (c : FullNodeId) → IsDecided (HasEntered w u c)
  decide_entered c = decide_by (λ h. (h.0, (h.1, h.2))) (λ h. (h.0, h.1.0, h.1.1)) (decide_spot m c (λ s. ¬ (IsAt w s c)) (λ s. decide_not (decide_at w s c)))

  pub decide_grafted : (name : TreeId) → IsDecided (IsGraftedByNamed w u name)
  decide_grafted name = decide_by
      (λ h. (h.0, h.2.0, h.2.1))
      (λ h. (h.0, is_key m h.0 (named_is_node w u h.0 h.1), (h.1, h.2)))
      (decide_any (λ n. IsNamed w u n × (graft_name m n ≡ Some name)) (λ n. decide_both (decide_named w u n) (decide_name (graft_name m n) name)) (keys m))

  -- c is the root of the tree that g grafted, and that no named node grafts
  IsUnderOf : FullNodeId → FullNodeId → Type 0
  IsUnderOf g c = (name : TreeId) × (graft_name w g ≡ Some name) × ¬ (IsGraftedByNamed w u name) × (root_named w name ≡ Some c)

  decide_under : (g c : FullNodeId) → IsDecided (IsUnderOf g c)
  unfolding IsUnderOf
  decide_under g c = by_name (graft_name w g) refl
    where
      by_parts : (name : TreeId) → graft_name w g ≡ Some name → IsDecided (¬ (IsGraftedByNamed w u name) × (root_named w name ≡ Some c)) → IsDecided (IsUnderOf g c)
      by_parts name e (inl d) = inl (name, e, d.0, d.1)
      by_parts name e (inr d) = inr (λ h.
          let same : h.0 ≡ name = same_Some h.0 name (sym h.1 ∙ e) in
          d ((λ x. h.2 (subst (IsGraftedByNamed w u) (sym same) x)), ap (root_named w) (sym same) ∙ h.3))

      by_name : (o : Option TreeId) → graft_name w g ≡ o → IsDecided (IsUnderOf g c)
      by_name None e = inr (λ h. cc (e, h.1))
      by_name (Some name) e = by_parts name e (decide_both (decide_not (decide_grafted name)) (decide_id (root_named w name) c))

  -- where it begins: what left, and the roots of trees cut off
  Begins : FullNodeId → Type 0
  Begins c = ¬ (HasEntered w u c) × (((s : Seat) × Left w u s c) ⊎ ((g : FullNodeId) × IsNamed w u g × IsUnderOf g c))

  decide_begins : (c : FullNodeId) → IsDecided (Begins c)
  unfolding Begins IsUnderOf
  decide_begins c = decide_both (decide_not (decide_entered c)) (decide_either
      (decide_by (λ h. (h.0, (h.1, h.2))) (λ h. (h.0, h.1.0, h.1.1)) (decide_spot w c (λ s. ¬ (IsAt m s c)) (λ s. decide_not (decide_at m s c))))
      (decide_by (λ h. (h.0, h.2.0, h.2.1)) (λ h. (h.0, is_key w h.0 (graft_is_node w h.0 h.2.0 h.2.1), (h.1, h.2))) (decide_any (λ g. IsNamed w u g × IsUnderOf g c) (λ g. decide_both (decide_named w u g) (decide_under g c)) (keys w))))

  -- how it goes on: to what a node lists, and to the root of its tree
  GoesTo : FullNodeId → FullNodeId → Type 0
  GoesTo n c = ¬ (HasEntered w u c) × (((k : ℕ) × Lists w (n, k) c) ⊎ IsUnderOf n c)

  decide_goes : (n c : FullNodeId) → IsDecided (GoesTo n c)
  unfolding GoesTo
  decide_goes n c = decide_both (decide_not (decide_entered c)) (decide_either (decide_listed (listed_ids w n) c) (decide_under n c))

  abbrev nodes : List FullNodeId
  nodes = map (λ e. e.0) (entries w.nodes)

  path_from : IsOld w → (c : FullNodeId) → Gone w u c → Path (λ k. k) GoesTo nodes Begins c
  unfolding GoesTo Begins IsUnderOf
  path_from o c (surgery.Gone.left s c' l none) = start c (none, inl (s, l))
  path_from o c (surgery.Gone.cut g c' name named grafts other is none) = start c (none, inr (g, named, (name, grafts, other, is)))
  path_from o c (surgery.Gone.child p c' gone at none) =
      let d = found w p.0 (lister_is_node w p c at) in
      step p.0 c (path_from o p.0 gone) (edge_at (λ k. k) GoesTo (entries w.nodes) p.0 d.0 c d.1 (none, inl (p.1, at)))
  path_from o c (surgery.Gone.under g c' name gone grafts other is none) =
      let d = found w g (graft_is_node w g name grafts) in
      step g c (path_from o g gone) (edge_at (λ k. k) GoesTo (entries w.nodes) g d.0 c d.1 (none, inr (name, grafts, other, is)))

  path_to : (c : FullNodeId) → Path (λ k. k) GoesTo nodes Begins c → Gone w u c
  unfolding GoesTo Begins IsUnderOf
  path_to c (start c' h) = begins h.0 h.1
    where
      begins : ¬ (HasEntered w u c) → ((s : Seat) × Left w u s c) ⊎ ((g : FullNodeId) × IsNamed w u g × IsUnderOf g c) → Gone w u c
      begins none (inl l) = surgery.Gone.left l.0 c l.1 none
      begins none (inr h) = surgery.Gone.cut h.0 c h.2.0 h.1 h.2.1 h.2.2 h.2.3 none
  path_to c (step p q path edge) = let e = edge_parts (λ k. k) GoesTo nodes p c edge in goes (subst (Gone w u) (sym e.1) (path_to p path)) e.2.0 e.2.1
    where
      goes : {x : FullNodeId} → Gone w u x → ¬ (HasEntered w u c) → ((k : ℕ) × Lists w (x, k) c) ⊎ IsUnderOf x c → Gone w u c
      goes {x} gone none (inl l) = surgery.Gone.child (x, l.0) c gone l.1 none
      goes {x} gone none (inr h) = surgery.Gone.under x c h.0 gone h.1 h.2 h.3 none

  pub decide_gone : IsOld w → (c : FullNodeId) → IsDecided (Gone w u c)
  decide_gone o c = decide_by (path_to c) (path_from o c) (decide_path (λ k. k) GoesTo decide_goes nodes Begins decide_begins c)

  -- whether a tree gets another graft
  pub decide_moved_in : (c : FullNodeId) → IsDecided (IsMovedIn w u c)
  decide_moved_in c = decide_by
      (λ h. (h.0, h.2.0, h.2.1.0, h.2.1.1.0, h.2.1.1.1, h.2.1.1.2))
      (λ h. (h.0, is_key m h.0 (named_is_node w u h.0 h.2), (h.1, (h.2, (h.3, h.4, h.5)))))
      (decide_any (λ n. (name : TreeId) × (IsNamed w u n × ((graft_name m n ≡ Some name) × (graft_name w n ≢ Some name) × (root_named w name ≡ Some c)))) decide_here (keys m))
    where
      decide_here : (n : FullNodeId) → IsDecided ((name : TreeId) × (IsNamed w u n × ((graft_name m n ≡ Some name) × (graft_name w n ≢ Some name) × (root_named w name ≡ Some c))))
      decide_here n = by_name (graft_name m n) refl (decide_named w u n)
        where
          by_parts : (name : TreeId) → graft_name m n ≡ Some name → IsNamed w u n → IsDecided (graft_name w n ≢ Some name) → IsDecided (root_named w name ≡ Some c) → IsDecided ((name : TreeId) × (IsNamed w u n × ((graft_name m n ≡ Some name) × (graft_name w n ≢ Some name) × (root_named w name ≡ Some c))))
          by_parts name e named (inl gained) (inl is) = inl (name, (named, (e, gained, is)))
          by_parts name e named (inr before) d = inr (λ h. before (subst (λ k. graft_name w n ≢ Some k) (same_Some h.0 name (sym h.1.1.0 ∙ e)) h.1.1.1))
          by_parts name e named (inl gained) (inr other) = inr (λ h. other (ap (root_named w) (sym (same_Some h.0 name (sym h.1.1.0 ∙ e))) ∙ h.1.1.2))

          by_name : (x : Option TreeId) → graft_name m n ≡ x → IsDecided (IsNamed w u n) → IsDecided ((name : TreeId) × (IsNamed w u n × ((graft_name m n ≡ Some name) × (graft_name w n ≢ Some name) × (root_named w name ≡ Some c))))
          by_name x e (inr other) = inr (λ h. other h.1.0)
          by_name None e (inl named) = inr (λ h. cc (e, h.1.1.0))
          by_name (Some name) e (inl named) = by_parts name e named (decide_not (decide_name (graft_name w n) name)) (decide_id (root_named w name) c)
