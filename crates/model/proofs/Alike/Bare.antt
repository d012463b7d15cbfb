-- Two worlds that say the same but for values and lengths of characters: what is reached and kept, the focus, and the active dialog are the same.
use Rattle.std.proofs.Common.{◌≡◌, ℕ, List, [], Option, Some, None, ◌⊎◌, inl, inr, refl, sym, ap, subst, ◌∙◌, map}
use Rattle.std.specs.Prelude.{is_some, option_map, option_and_then, position, slice_get}
use Rattle.std.specs.Ordering.{is_eq, nat_cmp}
use Rattle.std.specs.Option.{option_map_or}
use Rattle.std.specs.Cmp.Lexicographic.{slice_cmp}
use Rattle.std.specs.FinMap.{get}
use Rattle.std.proofs.lemmas.Option.{none-some, same_Some}
use Rattle.schema.specs.NodeData.{NodeData}
use Rattle.schema.specs.declared.TreeId.{TreeId}
use Rattle.schema.specs.declared.Role.TheVariants.{AlertDialog, Dialog}
use Rattle.model.specs.declared.FullNodeId.{FullNodeId}
use Rattle.model.specs.World.{World, Tree, Place, data_of, IsNode, HasData, in_tree, index_of, listed_ids, graft_name, root_of, root_named, focus_named, at_most_one, children, StandsAt, Reached, Kept}
use Rattle.model.specs.World as world
use Rattle.model.specs.Focus.{GoesOn, OnChain, first, next, IsEffectiveFocus, IsFocusId, Resolves, IsFocus, IsDialog, IsNearestDialog, itself, above, IsActiveDialog}
use Rattle.model.specs.Outline.{without_text, outline}
use Rattle.model.proofs.Text.Outlines.{data_bare, IsBlind, and_then_same, map_or_same}

pub record SameBare (m n : World) : Type 0 where
  pub known : m.known ≡ n.known
  pub trees : m.trees ≡ n.trees
  pub host : m.host_focused ≡ n.host_focused
  pub bare : (id : FullNodeId) → option_map without_text (data_of m id) ≡ option_map without_text (data_of n id)

pub of_outlines : (w v : World) → outline w ≡ outline v → SameBare w v
of_outlines w v e = record {
  known = λ i. (e i).known;
  trees = λ i. (e i).trees;
  host = λ i. (e i).host_focused;
  bare = λ id. sym (data_bare w id) ∙ ap (λ u. data_of u id) e ∙ data_bare v id;
}

pub turned : {m n : World} → SameBare m n → SameBare n m
turned b = record { known = sym b.known; trees = sym b.trees; host = sym b.host; bare = λ id. sym (b.bare id) }

is_there : (o : Option NodeData) → is_some (option_map without_text o) ≡ is_some o
is_there None = refl
is_there (Some d) = refl

carried_by : (o : Option NodeData) (d : NodeData) → option_map without_text o ≡ Some (without_text d) → (e : NodeData) × (o ≡ Some e) × (without_text e ≡ without_text d)
carried_by None d h = absurd (none-some (without_text d) h)
carried_by (Some e) d h = (e, refl, same_Some (without_text e) (without_text d) h)

module _ {m n : World} (b : SameBare m n) where
  pub given : {A : Type 0} (of : NodeData → Option A) → IsBlind of → (id : FullNodeId) → option_and_then of (data_of m id) ≡ option_and_then of (data_of n id)
  given of h id = sym (and_then_same of h (data_of m id)) ∙ ap (option_and_then of) (b.bare id) ∙ and_then_same of h (data_of n id)

  pub listed : (id : FullNodeId) → listed_ids m id ≡ listed_ids n id
  listed id =
      let of : NodeData → List FullNodeId = λ d. map (in_tree id.tree) d.children in
      sym (map_or_same of [] (λ d. refl) (data_of m id)) ∙ ap (λ o. option_map_or of o []) (b.bare id) ∙ map_or_same of [] (λ d. refl) (data_of n id)

  pub grafts : (id : FullNodeId) → graft_name m id ≡ graft_name n id
  grafts id = given (λ d. d.tree_id) (λ d. refl) id

  pub there : (id : FullNodeId) → is_some (data_of m id) ≡ is_some (data_of n id)
  there id = sym (is_there (data_of m id)) ∙ ap is_some (b.bare id) ∙ is_there (data_of n id)

  pub node : (id : FullNodeId) → IsNode m id → IsNode n id
  node id h = sym (there id) ∙ h

  -- data in the one world are data in the other, but for the text
  pub carried : (id : FullNodeId) (d : NodeData) → HasData m id d → (e : NodeData) × HasData n id e × (without_text e ≡ without_text d)
  carried id d h = carried_by (data_of n id) d (sym (b.bare id) ∙ ap (option_map without_text) h)

  pub tree : (index : ℕ) → get m.trees index ≡ get n.trees index
  tree index = ap (λ ts. get ts index) b.trees

  pub index : (name : TreeId) → index_of m name ≡ index_of n name
  index name = ap (λ names. position (λ k. is_eq (slice_cmp nat_cmp k.0 name.0)) names) b.known

  pub rooted : (k : ℕ) → root_of m k ≡ root_of n k
  rooted k = ap (option_map (λ (t : Tree). in_tree k t.root)) (tree k)

  pub named_root : (name : TreeId) → root_named m name ≡ root_named n name
  named_root name = λ i. option_and_then (λ k. option_map (λ (t : Tree). in_tree k t.root) (get (b.trees i) k)) (index name i)

  named_focus : (name : TreeId) → focus_named m name ≡ focus_named n name
  named_focus name = λ i. option_and_then (λ k. option_map (λ (t : Tree). in_tree k t.focus) (get (b.trees i) k)) (index name i)

  children_same : (id : FullNodeId) → children m id ≡ children n id
  children_same id = λ i. option_map_or (λ name. at_most_one (named_root name i)) (grafts id i) (listed id i)

  stands : (p : Place) (id : FullNodeId) → StandsAt m p id → StandsAt n p id
  stands p id h = ap (λ ids. slice_get ids p.1) (sym (children_same p.0)) ∙ h

  dialog : (id : FullNodeId) → IsDialog m id → IsDialog n id
  dialog id h =
      let e = carried id h.0 h.1 in
      (e.0, e.1, subst (λ role. (role ≡ AlertDialog) ⊎ (role ≡ Dialog)) (sym (ap (λ (d : NodeData). d.role) e.2)) h.2)

  pub reached : (id : FullNodeId) → Reached m id → Reached n id
  reached id (world.Reached.root k t e) = world.Reached.root k t (sym (tree k) ∙ e)
  reached id (world.Reached.child parent inner k r e) = world.Reached.child parent inner k (reached parent r) (ap (λ ids. slice_get ids k) (sym (listed parent)) ∙ e)

  pub kept : (k : ℕ) → Kept m k → Kept n k
  kept k world.Kept.root = world.Kept.root
  kept k (world.Kept.grafted graft inner name h r g e) = world.Kept.grafted graft inner name (kept graft.tree h) (reached graft r) (sym (grafts graft) ∙ g) (sym (named_root name) ∙ e)

  goes_on : (graft id : FullNodeId) → GoesOn m graft id → GoesOn n graft id
  goes_on graft id h =
      record { kept = kept graft.tree h.kept; reached = reached graft h.reached; name = h.name; grafts = sym (grafts graft) ∙ h.grafts; declared = sym (named_focus h.name) ∙ h.declared }

  pub chain : (id : FullNodeId) → OnChain m id → OnChain n id
  chain id (first t e) = first t (sym (tree 0) ∙ e)
  chain id (next graft inner h g) = next graft inner (chain graft h) (goes_on graft inner g)

  effective : (id : FullNodeId) → IsEffectiveFocus m id → IsEffectiveFocus n id
  effective id h = let e = carried id h.1 h.2 in (chain id h.0, e.0, e.1, ap (λ (d : NodeData). d.tree_id) e.2 ∙ h.3)

  resolves : (id active : FullNodeId) → Resolves m id active → Resolves n id active
  resolves id active h = let e = carried id h.0 h.1 in (e.0, e.1, ap (λ (d : NodeData). d.active_descendant) e.2 ∙ h.2, h.3, node active h.4)

pub focus : {m n : World} → SameBare m n → (f : Option FullNodeId) → IsFocus m f → IsFocus n f
focus b None h = sym b.host ∙ h
focus {m} {n} b (Some id) h = (sym b.host ∙ h.0, h.1, effective b h.1 h.2, by_active h.3)
  where
    by_active : Resolves m h.1 id ⊎ ((id ≡ h.1) × ((a : FullNodeId) → ¬ (Resolves m h.1 a))) → Resolves n h.1 id ⊎ ((id ≡ h.1) × ((a : FullNodeId) → ¬ (Resolves n h.1 a)))
    by_active (inl r) = inl (resolves b h.1 id r)
    by_active (inr q) = inr (q.0, λ a r. q.1 a (resolves (turned b) h.1 a r))

pub focus_id : {m n : World} → SameBare m n → (answer : Option FullNodeId) → IsFocusId m answer → IsFocusId n answer
focus_id b None h = sym b.host ∙ h
focus_id b (Some id) h = (sym b.host ∙ h.0, effective b id h.1)

nearest : {m n : World} → SameBare m n → (found id : FullNodeId) → IsNearestDialog m found id → IsNearestDialog n found id
nearest b found id (itself d) = itself (dialog b found d)
nearest b found id (above inner parent index other at h) = above inner parent index (λ d. other (dialog (turned b) inner d)) (stands b (parent, index) inner at) (nearest b found parent h)

pub active_dialog : {m n : World} → SameBare m n → (answer : Option FullNodeId) → IsActiveDialog m answer → IsActiveDialog n answer
active_dialog b (Some found) h = (h.0, focus b (Some h.0) h.1, nearest b found h.0 h.2)
active_dialog b None h = λ at found is near. h at found (focus (turned b) (Some at) is) (nearest (turned b) found at near)
