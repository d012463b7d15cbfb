-- Each world has a rebuild: what is reached and kept in it is decided.
use Rattle.std.proofs.Common.{◌≡◌, ◌≢◌, ℕ, zero, suc, Bool, true, false, cond, List, [], ◌∷◌, map, slice_get, Option, Some, None, IsSome, option_map, ◌⊎◌, inl, inr, ◌↔◌, refl, sym, ap, ◌∙◌, subst, Ordering, Less, Equal, Greater}
use Rattle.std.specs.Ordering.{is_eq, eq_by_cmp}
use Rattle.std.specs.FinMap.{get, entries, find, get-entries, retain_keys, get-retain_keys, nat_cmp-IsAntisymmetric}
use Rattle.std.proofs.lemmas.Bool.{cases_eq}
use Rattle.std.proofs.lemmas.Option.{same_Some}
use Rattle.schema.specs.NodeData.{NodeData}
use Rattle.schema.specs.declared.TreeId.{TreeId}
use Rattle.model.specs.declared.FullNodeId.{FullNodeId}
use Rattle.model.specs.FullIds.{full_cmp, exact_full}
use Rattle.model.specs.World.{World, Tree, HasData, data_of, in_tree, listed_ids, graft_name, root_of, root_named, Reached, Kept}
use Rattle.model.specs.World as world
use Rattle.model.specs.Update.{IsRebuild}
use Rattle.model.proofs.Worlds.Names.{cases_id}
use Rattle.model.proofs.State.StatePlaces.{value_of, root_of_parts, lister_is_node, graft_is_node}
use Rattle.model.proofs.Closure.{IsDecided, decide_both, decide_by, IsEdge, Path, start, step, decide_path}

equal : (o : Ordering) → is_eq o ≡ true → o ≡ Equal
equal Less e = cc
equal Equal e = refl
equal Greater e = cc

module _ {A : Type 0} (source : FullNodeId → A) (Target : FullNodeId → A → Type 0) where
  -- the edges of a node that is there are among those of all nodes
  pub edge_at : (es : List (FullNodeId × NodeData)) (p : FullNodeId) (d : NodeData) (a : A) → find full_cmp p es ≡ Some d → Target p a → IsEdge source Target (map (λ e. e.0) es) (source p) a
  edge_at [] p d a is t = cc
  edge_at (e ∷ es) p d a is t = go (eq_by_cmp full_cmp p e.0) refl is (λ h. edge_at es p d a h t)
    where
      go : (b : Bool) → eq_by_cmp full_cmp p e.0 ≡ b → cond b (Some e.1) (find full_cmp p es) ≡ Some d → (find full_cmp p es ≡ Some d → IsEdge source Target (map (λ e. e.0) es) (source p) a) → IsEdge source Target (map (λ e. e.0) (e ∷ es)) (source p) a
      go true tied is later = let same : p ≡ e.0 = exact_full p e.0 (equal (full_cmp p e.0) tied) in inl (ap source (sym same), subst (λ k. Target k a) same t)
      go false other is later = inr (later is)

  pub edge_parts : (xs : List FullNodeId) (p a : A) → IsEdge source Target xs p a → (x : FullNodeId) × (source x ≡ p) × Target x a
  edge_parts [] p a edge = absurd edge
  edge_parts (x ∷ xs) p a (inl e) = (x, e.0, e.1)
  edge_parts (x ∷ xs) p a (inr e) = edge_parts xs p a e

pub decide_listed : (xs : List FullNodeId) (id : FullNodeId) → IsDecided ((i : ℕ) × (slice_get xs i ≡ Some id))
decide_listed [] id = inr (λ h. nothing h.0 h.1)
  where
    nothing : (i : ℕ) → slice_get [] i ≡ Some id → ⊥
    nothing i e = cc
decide_listed (x ∷ xs) id = go (cases_id x id) (decide_listed xs id)
  where
    out : (i : ℕ) → slice_get (x ∷ xs) i ≡ Some id → (x ≢ id) → (((i : ℕ) × (slice_get xs i ≡ Some id)) → ⊥) → ⊥
    out zero at other none = other (same_Some x id at)
    out (suc i) at other none = none (i, at)

    go : (x ≡ id) ⊎ (x ≢ id) → IsDecided ((i : ℕ) × (slice_get xs i ≡ Some id)) → IsDecided ((i : ℕ) × (slice_get (x ∷ xs) i ≡ Some id))
    go (inl e) d = inl (0, ap Some e)
    go (inr e) (inl d) = inl (suc d.0, d.1)
    go (inr e) (inr d) = inr (λ h. out h.0 h.1 e d)

module _ (w : World) where
  keys : List FullNodeId
  keys = map (λ e. e.0) (entries w.nodes)

  Child : FullNodeId → FullNodeId → Type 0
  Child p id = (i : ℕ) × (slice_get (listed_ids w p) i ≡ Some id)

  Root : FullNodeId → Type 0
  Root id = root_of w id.tree ≡ Some id

  decide_root : (id : FullNodeId) → IsDecided (Root id)
  unfolding Root
  decide_root id = go (root_of w id.tree)
    where
      go : (o : Option FullNodeId) → IsDecided (o ≡ Some id)
      go None = inr (λ e. cc)
      go (Some x) = decide_by (ap Some) (same_Some x id) (cases_id x id)

  pub found : (id : FullNodeId) → IsSome (data_of w id) → (d : NodeData) × (find full_cmp id (entries w.nodes) ≡ Some d)
  found id there = let d = value_of (data_of w id) there in (d.0, sym (get-entries w.nodes id) ∙ d.1)

  path_from : (id : FullNodeId) → Reached w id → Path (λ k. k) Child keys Root id
  unfolding keys Child Root
  path_from id (world.Reached.root index t is) = start id (ap (option_map (λ t. in_tree index t.root)) is)
  path_from id (world.Reached.child parent id' index reached at) =
      let d = found parent (lister_is_node w (parent, index) id at) in
      step parent id (path_from parent reached) (edge_at (λ k. k) Child (entries w.nodes) parent d.0 id d.1 (index, at))

  path_to : (id : FullNodeId) → Path (λ k. k) Child keys Root id → Reached w id
  unfolding keys Child Root
  path_to id (start id' is) = let t = root_of_parts w id.tree id is in subst (Reached w) t.2 (world.Reached.root id.tree t.0 t.1)
  path_to id (step p q path edge) =
      let e = edge_parts (λ k. k) Child (map (λ e. e.0) (entries w.nodes)) p id edge in
      world.Reached.child p id e.2.0 (path_to p path) (subst (λ k. slice_get (listed_ids w k) e.2.0 ≡ Some id) e.1 e.2.1)

  pub decide_reached : (id : FullNodeId) → IsDecided (Reached w id)
  unfolding Child
  decide_reached id = decide_by (path_to id) (path_from id) (decide_path (λ k. k) Child decide_child keys Root decide_root id)
    where
      decide_child : (p id : FullNodeId) → IsDecided (Child p id)
      decide_child p id = decide_listed (listed_ids w p) id

  -- the tree with this index is the one that the reached graft names
  Grafted : FullNodeId → ℕ → Type 0
  Grafted graft index = Reached w graft × (name : TreeId) × (inner : FullNodeId) × (graft_name w graft ≡ Some name) × (root_named w name ≡ Some inner) × (inner.tree ≡ index)

  decide_grafted : (graft : FullNodeId) (index : ℕ) → IsDecided (Grafted graft index)
  unfolding Grafted
  decide_grafted graft index = by_reached (decide_reached graft)
    where
      by_tree : (name : TreeId) (inner : FullNodeId) → Reached w graft → graft_name w graft ≡ Some name → root_named w name ≡ Some inner → (inner.tree ≡ index) ⊎ (inner.tree ≡ index → ⊥) → IsDecided (Grafted graft index)
      by_tree name inner reached grafts named (inl same) = inl (reached, name, inner, grafts, named, same)
      by_tree name inner reached grafts named (inr other) = inr (λ h.
          let name_is : name ≡ h.1 = same_Some name h.1 (sym grafts ∙ h.3) in
          let inner_is : inner ≡ h.2 = same_Some inner h.2 (sym named ∙ ap (root_named w) name_is ∙ h.4) in
          other (ap (λ x. x.tree) inner_is ∙ h.5))

      by_root : (name : TreeId) (o : Option FullNodeId) → Reached w graft → graft_name w graft ≡ Some name → root_named w name ≡ o → IsDecided (Grafted graft index)
      by_root name None reached grafts named = inr (λ h. let name_is : name ≡ h.1 = same_Some name h.1 (sym grafts ∙ h.3) in cc (named, ap (root_named w) name_is, h.4))
      by_root name (Some inner) reached grafts named = by_tree name inner reached grafts named (cases_eq inner.tree index)

      by_name : (o : Option TreeId) → Reached w graft → graft_name w graft ≡ o → IsDecided (Grafted graft index)
      by_name None reached grafts = inr (λ h. cc (grafts, h.3))
      by_name (Some name) reached grafts = by_root name (root_named w name) reached grafts refl

      by_reached : IsDecided (Reached w graft) → IsDecided (Grafted graft index)
      by_reached (inl reached) = by_name (graft_name w graft) reached refl
      by_reached (inr not_there) = inr (λ h. not_there h.0)

  kept_from : (index : ℕ) → Kept w index → Path (λ g. g.tree) Grafted keys (λ i. i ≡ 0) index
  unfolding keys Grafted
  kept_from index world.Kept.root = start 0 refl
  kept_from index (world.Kept.grafted graft inner name kept reached grafts named) =
      let d = found graft (graft_is_node w graft name grafts) in
      step graft.tree inner.tree (kept_from graft.tree kept) (edge_at (λ g. g.tree) Grafted (entries w.nodes) graft d.0 inner.tree d.1 (reached, name, inner, grafts, named, refl))

  kept_to : (index : ℕ) → Path (λ g. g.tree) Grafted keys (λ i. i ≡ 0) index → Kept w index
  unfolding keys Grafted
  kept_to index (start i is) = subst (Kept w) (sym is) world.Kept.root
  kept_to index (step p q path edge) =
      let e = edge_parts (λ g. g.tree) Grafted (map (λ e. e.0) (entries w.nodes)) p index edge in
      subst (Kept w) e.2.5 (world.Kept.grafted e.0 e.2.2 e.2.1 (subst (Kept w) (sym e.1) (kept_to p path)) e.2.0 e.2.3 e.2.4)

  pub decide_kept : (index : ℕ) → IsDecided (Kept w index)
  decide_kept index = decide_by (kept_to index) (kept_from index) (decide_path (λ g. g.tree) Grafted decide_grafted keys (λ i. i ≡ 0) (λ i. cases_eq i 0) index)

answer : {P : Type 0} → IsDecided P → Bool
answer (inl p) = true
answer (inr n) = false

by_answer : {P A : Type 0} (d : IsDecided P) (o : Option A) (a : A) → (cond (answer d) o None ≡ Some a) ↔ (P × (o ≡ Some a))
unfolding answer
by_answer (inl p) o a = (λ e. (p, e), λ h. h.1)
by_answer (inr n) o a = (λ e. cc, λ h. absurd (n h.0))

pub rebuild_exists : (m : World) → (new : World) × IsRebuild m new
rebuild_exists m = (new, record { known = refl; toolkit = refl; host = refl; trees = trees; nodes = nodes })
  where
    is_kept : ℕ → Bool
    is_kept index = answer (decide_kept m index)

    is_in : FullNodeId → Bool
    is_in id = answer (decide_both (decide_kept m id.tree) (decide_reached m id))

    new : World
    new = record m { trees = retain_keys m.trees is_kept; nodes = retain_keys m.nodes is_in }

    tree_is : (index : ℕ) → get new.trees index ≡ cond (is_kept index) (get m.trees index) None
    tree_is index = get-retain_keys m.trees is_kept index (λ x tied. ap is_kept (sym (nat_cmp-IsAntisymmetric index x tied)))

    node_is : (id : FullNodeId) → get new.nodes id ≡ cond (is_in id) (get m.nodes id) None
    node_is id = get-retain_keys m.nodes is_in id (λ x tied. ap is_in (sym (exact_full id x tied)))

    trees : (index : ℕ) (t : Tree) → (get new.trees index ≡ Some t) ↔ (Kept m index × (get m.trees index ≡ Some t))
    trees index t = let f = by_answer (decide_kept m index) (get m.trees index) t in (λ e. f.0 (sym (tree_is index) ∙ e), λ h. tree_is index ∙ f.1 h)

    nodes : (id : FullNodeId) (d : NodeData) → HasData new id d ↔ (Kept m id.tree × Reached m id × HasData m id d)
    nodes id d =
        let f = by_answer (decide_both (decide_kept m id.tree) (decide_reached m id)) (get m.nodes id) d in
        (λ e. (let h = f.0 (sym (node_is id) ∙ e) in (h.0.0, h.0.1, h.1)), λ h. node_is id ∙ f.1 ((h.0, h.1), h.2))
