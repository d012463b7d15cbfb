-- What is to be shown, entry by entry, for an update to be accepted and to leave a world.
use Rattle.std.proofs.Common.{◌≡◌, ◌≢◌, ℕ, zero, suc, ◌+◌, ◌<◌, ◌-◌, ◌^◌, List, [], ◌∷◌, length, map, slice_get, get_or, Option, Some, None, IsSome, option_and_then, ◌⊎◌, inl, inr, ⊎_elim, refl, sym, ap, ◌∙◌, subst, arith}
use Rattle.std.specs.Option.{option_map_or, IfSome}
use Rattle.std.specs.List.{AllByRecursion}
use Rattle.std.specs.Cmp.{nat_cmp_total}
use Rattle.std.specs.FinMap.{get, entries, nat_cmp-IsAntisymmetric}
use Rattle.std.proofs.lemmas.Option.{same_Some}
use Rattle.schema.specs.NodeData.{NodeData}
use Rattle.schema.specs.declared.NodeId.{NodeId}
use Rattle.schema.specs.declared.TreeId.{TreeId}
use Rattle.model.specs.declared.FullNodeId.{FullNodeId}
use Rattle.model.specs.FullIds.{full_total, exact_full}
use Rattle.model.specs.World.{ROOT_NAME, World, Tree, HasData, IsNode, data_of, in_tree, index_of, listed_ids, graft_name, root_of, root_named, Place, Reached, Kept}
use Rattle.model.specs.World as world
use Rattle.model.specs.Focus.{OnChain, first, next}
use Rattle.model.specs.Update.{UpdateData, Fault, MissingTreeInfo, NotRootTree, MissingData, NotReached, NamedTwice, ListedTwice, RootTreeGrafted, GraftWithChildren, GraftedTwice, NoGraft, NoFirstTreeInfo, FocusMissing, FocusOnEmptyGraft, IndexesUsedUp, StandsApart, Stands, IsJudged, IsNamed, IsFirst, named_at, IsRebuild, IsAccepted, index_for, merged_world}
use Rattle.model.specs.State.{Lists}
use Rattle.model.proofs.State.StatePlaces.{and_then_some, value_of, IsSome_is, root_of_parts, lister_is_node, listed_tree}
use Rattle.model.proofs.Update.RebuildKeeps.{listed_same, graft_same, node_kept, node_old}
use Rattle.model.proofs.Worlds.Names.{same_id}
use Rattle.model.proofs.Examples.Tools.{got, EachAt, each_at}

-- the children of a node of the new world and the grafts of it, entry by entry
abbrev pub EachListed : (Place → FullNodeId → Type 0) → List (FullNodeId × NodeData) → Type 0
EachListed P es = AllByRecursion (λ e. EachAt (λ i c. P (e.0, i) c) 0 (map (in_tree e.0.tree) e.1.children)) es

abbrev pub EachGraft : (FullNodeId → NodeData → TreeId → Type 0) → List (FullNodeId × NodeData) → Type 0
EachGraft P es = AllByRecursion (λ e. IfSome e.1.tree_id (P e.0 e.1)) es

module _ (w : World) (es : List (FullNodeId × NodeData)) (are : entries w.nodes ≡ es) where
  pub each_node : (P : FullNodeId → NodeData → Type 0) → AllByRecursion (λ e. P e.0 e.1) es → (id : FullNodeId) (d : NodeData) → HasData w id d → P id d
  each_node P each id d has = got full_total exact_full P w.nodes es are each id d has

  pub each_listed : (P : Place → FullNodeId → Type 0) → EachListed P es → (p : Place) (child : FullNodeId) → Lists w p child → P p child
  each_listed P each p child at =
      let d = value_of (data_of w p.0) (lister_is_node w p child at) in
      let here : EachAt (λ i c. P (p.0, i) c) 0 (map (in_tree p.0.tree) d.0.children) = each_node (λ id d. EachAt (λ i c. P (id, i) c) 0 (map (in_tree id.tree) d.children)) each p.0 d.0 d.1 in
      let lists : slice_get (map (in_tree p.0.tree) d.0.children) p.1 ≡ Some child = subst (λ o. slice_get (option_map_or (λ d. map (in_tree p.0.tree) d.children) o []) p.1 ≡ Some child) d.1 at in
      subst (λ i. P (p.0, i) child) (omega arith) (each_at (λ i c. P (p.0, i) c) 0 (map (in_tree p.0.tree) d.0.children) here p.1 child lists)

  pub each_graft : (P : FullNodeId → NodeData → TreeId → Type 0) → EachGraft P es → (id : FullNodeId) (name : TreeId) → graft_name w id ≡ Some name → (d : NodeData) × HasData w id d × P id d name
  each_graft P each id name grafts =
      let d = and_then_some (λ d. d.tree_id) (data_of w id) name grafts in
      let here : IfSome d.0.tree_id (P id d.0) = each_node (λ id d. IfSome d.tree_id (P id d)) each id d.0 d.1 in
      (d.0, d.1, subst (λ o. IfSome o (P id d.0)) d.2 here)

-- that new is the rebuild of m
pub record IsShownRebuild (m new : World) (ts : List (ℕ × Tree)) (es : List (FullNodeId × NodeData)) : Type 0 where
  pub ts_are : entries new.trees ≡ ts
  pub es_are : entries new.nodes ≡ es
  pub known : new.known ≡ m.known
  pub toolkit : new.toolkit ≡ m.toolkit
  pub host : new.host_focused ≡ m.host_focused
  pub trees : AllByRecursion (λ e. (get m.trees e.0 ≡ Some e.1) × Kept m e.0 × IsNode new (in_tree e.0 e.1.root)) ts
  pub nodes : AllByRecursion (λ e. HasData m e.0 e.1 × Reached m e.0 × IsSome (get new.trees e.0.tree)) es
  pub root_tree : IsSome (get new.trees 0)
  pub children : EachListed (λ p c. IsNode new c) es
  pub grafts : EachGraft (λ id d name. (inner : FullNodeId) → root_named m name ≡ Some inner → IsSome (get new.trees inner.tree)) es

module _ {m new : World} {ts : List (ℕ × Tree)} {es : List (FullNodeId × NodeData)} (s : IsShownRebuild m new ts es) where
  tree_shown : (index : ℕ) (t : Tree) → get new.trees index ≡ Some t → (get m.trees index ≡ Some t) × Kept m index × IsNode new (in_tree index t.root)
  tree_shown index t is = got nat_cmp_total nat_cmp-IsAntisymmetric (λ i t. (get m.trees i ≡ Some t) × Kept m i × IsNode new (in_tree i t.root)) new.trees ts s.ts_are s.trees index t is

  node_shown : (id : FullNodeId) (d : NodeData) → HasData new id d → HasData m id d × Reached m id × IsSome (get new.trees id.tree)
  node_shown id d has = each_node new es s.es_are (λ id d. HasData m id d × Reached m id × IsSome (get new.trees id.tree)) s.nodes id d has

  same_there : (id : FullNodeId) → IsNode new id → data_of new id ≡ data_of m id
  same_there id there = let d = value_of (data_of new id) there in d.1 ∙ sym (node_shown id d.0 d.1).0

  -- what is reached in a tree of the new world is in it
  shown_reached : (id : FullNodeId) → Reached m id → IsSome (get new.trees id.tree) → IsNode new id
  shown_reached id (world.Reached.root index t is) present =
      let u = value_of (get new.trees index) present in
      let f = tree_shown index u.0 u.1 in
      subst (λ x. IsNode new (in_tree index x.root)) (same_Some u.0 t (sym f.0 ∙ is)) f.2
  shown_reached id (world.Reached.child parent id' index reached at) present =
      let above : IsNode new parent = shown_reached parent reached (subst (λ k. IsSome (get new.trees k)) (listed_tree m (parent, index) id at) present) in
      let lists : Lists new (parent, index) id = subst (λ o. slice_get (option_map_or (λ d. map (in_tree parent.tree) d.children) o []) index ≡ Some id) (sym (same_there parent above)) at in
      each_listed new es s.es_are (λ p c. IsNode new c) s.children (parent, index) id lists

  shown_kept : (index : ℕ) → Kept m index → IsSome (get new.trees index)
  shown_kept index world.Kept.root = s.root_tree
  shown_kept index (world.Kept.grafted graft inner name kept reached grafts named) =
      let there : IsNode new graft = shown_reached graft reached (shown_kept graft.tree kept) in
      let again : graft_name new graft ≡ Some name = ap (option_and_then (λ d. d.tree_id)) (same_there graft there) ∙ grafts in
      (each_graft new es s.es_are (λ id d name. (inner : FullNodeId) → root_named m name ≡ Some inner → IsSome (get new.trees inner.tree)) s.grafts graft name again).2 inner named

  pub rebuild_shown : IsRebuild m new
  rebuild_shown = record {
    known = s.known;
    toolkit = s.toolkit;
    host = s.host;
    trees = λ index t. (
      λ is. let f = tree_shown index t is in (f.1, f.0),
      λ k.
          let u = value_of (get new.trees index) (shown_kept index k.0) in
          u.1 ∙ ap Some (same_Some u.0 t (sym (tree_shown index u.0 u.1).0 ∙ k.1)),
    );
    nodes = λ id d. (
      λ has. let f = node_shown id d has in let t = value_of (get new.trees id.tree) f.2 in ((tree_shown id.tree t.0 t.1).1, f.1, f.0),
      λ k.
          same_there id (shown_reached id k.1 (shown_kept id.tree k.0)) ∙ k.2,
    );
  }

-- what a first update needs, and what a later one does
pub record IsShownFirst (old : World) (u : UpdateData) : Type 0 where
  pub first : IsFirst old
  pub has_info : IsSome u.info
  pub for_root : u.name ≡ ROOT_NAME

pub record IsShownLater (old : World) (u : UpdateData) : Type 0 where
  pub later : ¬ (IsFirst old)
  pub grafted : (u.name ≡ ROOT_NAME) ⊎ ((id : FullNodeId) × (graft_name old id ≡ Some u.name))
  pub has_root : IsSome (get old.trees (index_for old u.name)) ⊎ IsSome u.info
  pub index_left : IsSome (index_of old u.name) ⊎ (length old.known < 2 ^ 32 - 1)

-- that no fault but one of the focus stands for an update that leaves new
pub record IsShownApart (old : World) (u : UpdateData) (new : World) (ts : List (ℕ × Tree)) (es : List (FullNodeId × NodeData)) : Type 0 where
  pub rebuilt : IsShownRebuild (merged_world old u) new ts es
  pub occasion : IsShownFirst old u ⊎ IsShownLater old u
  pub named_tree : IsSome (get new.trees (index_for old u.name))
  pub named : AllByRecursion (λ e. IsNode new (in_tree (index_for old u.name) e.0)) u.nodes
  -- the entry at which a node is named, the place at which it is listed, and the graft of a tree
  pub entry_of : NodeId → ℕ
  pub named_once : EachAt (λ i n. entry_of n ≡ i) 0 (map (λ e. e.0) u.nodes)
  pub place_of : FullNodeId → Place
  pub listed_once : EachListed (λ p c. (p ≡ place_of c) × (root_of (merged_world old u) c.tree ≢ Some c)) es
  pub graft_of : TreeId → FullNodeId
  pub grafted_once : EachGraft (λ id d name. (d.children ≡ []) × (name ≢ ROOT_NAME) × (id ≡ graft_of name)) es

-- that none stands at all
pub record IsShownAccepted (old : World) (u : UpdateData) (new : World) (ts : List (ℕ × Tree)) (es : List (FullNodeId × NodeData)) : Type 0 where
  pub apart : IsShownApart old u new ts es
  -- the root tree's declared focus is a node and no graft
  pub focus : Tree
  pub is_focus : get (merged_world old u).trees 0 ≡ Some focus
  pub focus_there : IsNode new (in_tree 0 focus.focus)
  pub focus_ends : graft_name (merged_world old u) (in_tree 0 focus.focus) ≡ None

pub nothing : {A : Type 0} (o : Option A) → o ≡ None → IsSome o → ⊥
nothing o e there = cc

each_named : (P : NodeId → Type 0) (us : List (NodeId × NodeData)) → AllByRecursion (λ e. P e.0) us → (n : NodeId) (k : ℕ) → k < length (map (λ e. e.0) us) → get_or (map (λ e. e.0) us) k n ≡ n → P n
each_named P [] each n k fits is = absurd (omega arith)
each_named P (u ∷ us) each n zero fits is = subst P is each.0
each_named P (u ∷ us) each n (suc k) fits is = each_named P us each.1 n k (omega arith) is

-- the chain of the focus ends at once where the declared focus is no graft
pub chain_ends : (m : World) (t : Tree) → get m.trees 0 ≡ Some t → graft_name m (in_tree 0 t.focus) ≡ None → (id : FullNodeId) → OnChain m id → id ≡ in_tree 0 t.focus
chain_ends m t is none id (first u is') = ap (λ x. in_tree 0 x.focus) (same_Some u t (sym is' ∙ is))
chain_ends m t is none id (next graft id' on goes) =
    let same : graft ≡ in_tree 0 t.focus = chain_ends m t is none graft on in
    absurd (nothing (graft_name m (in_tree 0 t.focus)) none (IsSome_is goes.name (ap (graft_name m) (sym same) ∙ goes.grafts)))

module _ {old : World} {u : UpdateData} {new : World} {ts : List (ℕ × Tree)} {es : List (FullNodeId × NodeData)} (s : IsShownApart old u new ts es) where
  pub is_rebuild : IsRebuild (merged_world old u) new
  is_rebuild = rebuild_shown s.rebuilt

  named_there : (id : FullNodeId) → IsNamed old u id → IsNode new id
  named_there id n = subst (IsNode new) (same_id (in_tree (index_for old u.name) id.node) id (sym n.0) refl) (each_named (λ k. IsNode new (in_tree (index_for old u.name) k)) u.nodes s.named id.node n.1.0 n.1.1 n.1.2)

  counted : (id : FullNodeId) → IsJudged old u id → IsNode new id
  counted id (inl n) = named_there id n
  counted id (inr k) = shown_reached s.rebuilt id k.1 (shown_kept s.rebuilt id.tree k.0)

  listed_new : (p : Place) (child : FullNodeId) → IsJudged old u p.0 → Lists (merged_world old u) p child → Lists new p child
  listed_new p child c at = let k = node_kept is_rebuild p.0 (counted p.0 c) in subst (λ xs. slice_get xs p.1 ≡ Some child) (sym (listed_same is_rebuild p.0 k.0 k.1)) at

  grafts_new : (id : FullNodeId) (name : TreeId) → IsJudged old u id → graft_name (merged_world old u) id ≡ Some name → graft_name new id ≡ Some name
  grafts_new id name c is = let k = node_kept is_rebuild id (counted id c) in graft_same is_rebuild id k.0 k.1 ∙ is

  placed : (p : Place) (child : FullNodeId) → IsJudged old u p.0 → Lists (merged_world old u) p child → (p ≡ s.place_of child) × (root_of (merged_world old u) child.tree ≢ Some child)
  placed p child c at = each_listed new es s.rebuilt.es_are (λ p c. (p ≡ s.place_of c) × (root_of (merged_world old u) c.tree ≢ Some c)) s.listed_once p child (listed_new p child c at)

  grafted : (id : FullNodeId) (name : TreeId) → IsJudged old u id → graft_name (merged_world old u) id ≡ Some name → (d : NodeData) × HasData new id d × ((d.children ≡ []) × (name ≢ ROOT_NAME) × (id ≡ s.graft_of name))
  grafted id name c is = each_graft new es s.rebuilt.es_are (λ id d name. (d.children ≡ []) × (name ≢ ROOT_NAME) × (id ≡ s.graft_of name)) s.grafted_once id name (grafts_new id name c is)

  pub none_stands_apart : (f : Fault) → ¬ (StandsApart old u f)
  none_stands_apart MissingTreeInfo h = ⊎_elim (λ (o : IsShownFirst old u). nothing u.info h.1 o.has_info) (λ (o : IsShownLater old u). o.later h.0) s.occasion
  none_stands_apart NotRootTree h = ⊎_elim (λ (o : IsShownFirst old u). h.1 o.for_root) (λ (o : IsShownLater old u). o.later h.0) s.occasion
  none_stands_apart (MissingData n) h = ⊎_elim
      (λ is.
      let t = root_of_parts (merged_world old u) (index_for old u.name) h.0 is in
      let v = value_of (get new.trees (index_for old u.name)) s.named_tree in
      let f = tree_shown s.rebuilt (index_for old u.name) v.0 v.1 in
      let same : v.0 ≡ t.0 = same_Some v.0 t.0 (sym f.0 ∙ t.1) in
      h.2 (node_old is_rebuild h.0 (subst (IsNode new) (ap (λ x. in_tree (index_for old u.name) x.root) same ∙ t.2) f.2)))
      (λ (l : (p : Place) × (IsJudged old u p.0 × Lists (merged_world old u) p h.0)).
      h.2 (node_old is_rebuild h.0 (each_listed new es s.rebuilt.es_are (λ p c. IsNode new c) s.rebuilt.children l.0 h.0 (listed_new l.0 h.0 l.1.0 l.1.1))))
      h.3
  none_stands_apart (NotReached n) h = h.3 (node_kept is_rebuild h.0 (named_there h.0 h.2)).1
  none_stands_apart (NamedTwice n) h =
      let at : (i : ℕ) → named_at u i ≡ Some n → s.entry_of n ≡ i + 0 = λ i is. each_at (λ i k. s.entry_of k ≡ i) 0 (map (λ e. e.0) u.nodes) s.named_once i n is in
      h.2 (let a = at h.0 h.3 in let b = at h.1 h.4 in omega arith)
  none_stands_apart (ListedTwice n) h = ⊎_elim
      (λ (o : (q : Place) × (h.2 ≢ q) × (IsJudged old u q.0 × Lists (merged_world old u) q h.0)). o.1 ((placed h.2 h.0 h.3.0 h.3.1).0 ∙ sym (placed o.0 h.0 o.2.0 o.2.1).0))
      (λ root. (placed h.2 h.0 h.3.0 h.3.1).1 root) h.4
  none_stands_apart (RootTreeGrafted n) h = (grafted h.0 ROOT_NAME h.2.0 h.2.1).2.1 refl
  none_stands_apart (GraftWithChildren n) h =
      let g = grafted h.0 h.2 h.3.0 h.3.1 in
      let k = node_kept is_rebuild h.0 (counted h.0 h.3.0) in
      let nothing : listed_ids new h.0 ≡ [] = ap (λ o. option_map_or (λ d. map (in_tree h.0.tree) d.children) o []) g.1 ∙ ap (map (in_tree h.0.tree)) g.2.0 in
      h.4 (sym (listed_same is_rebuild h.0 k.0 k.1) ∙ nothing)
  none_stands_apart (GraftedTwice name) h = h.2 ((grafted h.0 name h.3.0 h.3.1).2.2 ∙ sym (grafted h.1 name h.4.0 h.4.1).2.2)
  none_stands_apart (NoGraft name) h = ⊎_elim
      (λ (o : IsShownFirst old u). h.0 o.first)
      (λ (o : IsShownLater old u). ⊎_elim (λ e. h.2 (sym h.1 ∙ e)) (λ (g : (id : FullNodeId) × (graft_name old id ≡ Some u.name)). h.3 g.0 (g.1 ∙ ap Some h.1)) o.grafted)
      s.occasion
  none_stands_apart (NoFirstTreeInfo name) h = ⊎_elim
      (λ (o : IsShownFirst old u). h.0 o.first)
      (λ (o : IsShownLater old u). ⊎_elim (λ there. nothing (get old.trees (index_for old u.name)) (ap (λ n. get old.trees (index_for old n)) h.1 ∙ h.2) there) (λ there. nothing u.info h.3 there) o.has_root)
      s.occasion
  none_stands_apart (FocusMissing n) h = h
  none_stands_apart (FocusOnEmptyGraft name) h = h
  none_stands_apart IndexesUsedUp h = ⊎_elim
      (λ (o : IsShownFirst old u). h.0 o.first)
      (λ (o : IsShownLater old u). ⊎_elim (λ there. nothing (index_of old u.name) h.1 there) (λ left. let far = h.2 in omega arith) o.index_left)
      s.occasion

  -- where the chain of the focus meets nodes alone, and no graft of a tree that isn't present, no fault stands at all
  pub accepted_by_chain : ((id : FullNodeId) → OnChain (merged_world old u) id → IsNode new id) → ((id : FullNodeId) (name : TreeId) → OnChain (merged_world old u) id → graft_name (merged_world old u) id ≡ Some name → IsSome (root_named (merged_world old u) name)) → IsAccepted old u new
  accepted_by_chain meets goes_on = (none, is_rebuild)
    where
      none : (f : Fault) → ¬ (Stands old u f)
      none (FocusMissing n) h = h.5 (node_kept is_rebuild h.2 (meets h.2 h.4)).1
      none (FocusOnEmptyGraft name) h = let at = h.1 in nothing (root_named (merged_world old u) name) at.5 (goes_on at.0 name at.1 at.4)
      none f h = none_stands_apart f h

module _ {old : World} {u : UpdateData} {new : World} {ts : List (ℕ × Tree)} {es : List (FullNodeId × NodeData)} (s : IsShownAccepted old u new ts es) where
  pub accepted_shown : IsAccepted old u new
  accepted_shown = accepted_by_chain s.apart (λ id on. subst (IsNode new) (sym (ends id on)) s.focus_there) (λ id name on grafts. absurd (nothing (graft_name (merged_world old u) id) (ap (graft_name (merged_world old u)) (ends id on) ∙ s.focus_ends) (IsSome_is name grafts)))
    where
      ends : (id : FullNodeId) → OnChain (merged_world old u) id → id ≡ in_tree 0 s.focus.focus
      ends id on = chain_ends (merged_world old u) s.focus s.is_focus s.focus_ends id on
