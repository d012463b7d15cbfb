-- What the passes find, against the world w and the update u: each is a relation of the model as a map.
use Rattle.std.specs.Prelude.{◌≡◌, ◌≢◌, ℕ, ◌≤◌, List, length, AllPairs, Contains, Option, Some, None, IsSome, IsTrue, false, ◌⊎◌, ◌↔◌}
use Rattle.std.specs.Option.{option_map}
use Rattle.std.specs.BTreeMap.{BTreeMap, get}
use Rattle.std.specs.BTreeSet.{BTreeSet, contains}
use Rattle.values_by_id.specs.Rows.{row_at}
use Rattle.schema.specs.declared.TreeId.{TreeId}
use Rattle.model.specs.declared.FullNodeId.{FullNodeId}
use Rattle.model.specs.FullIds.{full_cmp, name_cmp}
use Rattle.model.specs.World.{World, Place, IsNode, data_of, in_tree, index_of, root_of, root_named, graft_name}
use Rattle.model.specs.Focus.{IsFocus, IsEffectiveFocus}
use Rattle.model.specs.State.{Lists}
use Rattle.model.specs.Update.{UpdateData, IsFirst, IsNamed, IsRebuild, index_for, merged_world, named_at}
use Rattle.model.specs.Surgery.{Left, Entered, HasEntered, IsGraftedByNamed, Gone, Adopts, IsOpened, IsCompared, IsSettled, IsRemoved, IsPassed}
use Rattle.tree_changes.specs.declared.look_ups.TreeRecord.{TreeRecord}
use Rattle.tree_changes.specs.LookUps.{IsPlaceOf, tree_named}
use Rattle.tree_plan.specs.declared.passes.Opened.{Opened}
use Rattle.tree_plan.specs.declared.passes.Opening.{Opening}
use Rattle.tree_plan.specs.declared.passes.Arrival.{Arrival}
use Rattle.tree_plan.specs.declared.passes.Named.{Named}
use Rattle.tree_plan.specs.declared.passes.Compared.{Compared}
use Rattle.tree_plan.specs.declared.passes.Settled.{Settled}
use Rattle.tree_plan.specs.declared.passes.Removed.{Removed}
use Rattle.tree_plan.specs.declared.passes.Focused.{Focused}

-- what rows, or the entries of a map, have at an id
abbrev pub at : {X : Type 0} → List (FullNodeId × X) → FullNodeId → Option X
at es id = row_at es id

abbrev pub has : BTreeSet FullNodeId → FullNodeId → Type 0
has s id = IsTrue (contains full_cmp s id)

-- what a map has at a name
abbrev pub at_name : {X : Type 0} → BTreeMap TreeId X → TreeId → Option X
at_name m name = get name_cmp m name

-- the record of a name, or an empty one
pub record IsOfName (w : World) (name : TreeId) (t : TreeRecord) : Type 0 where
  pub id : t.id ≡ name
  pub index : t.index ≡ index_of w name
  pub graft : (g : FullNodeId) → (t.graft ≡ Some g) ↔ (graft_name w g ≡ Some name)
  pub root : t.root ≡ option_map (λ t. t.root) (tree_named w name)
  pub focus : t.focus ≡ option_map (λ t. t.focus) (tree_named w name)

-- the named tree, from its old record and its index and root afterwards
abbrev pub opened_as : TreeRecord → Opening → Opened
opened_as t o = record { «record» = t; index = o.index; root = o.root; is_first = o.is_first }

-- pass 0: the named tree
pub record HoldsOpened (w : World) (u : UpdateData) (o : Opened) : Type 0 where
  pub opened : IsOpened w u
  pub record_of : IsOfName w u.name o.record
  pub index : o.index ≡ index_for w u.name
  pub root : root_of (merged_world w u) o.index ≡ Some (in_tree o.index o.root)
  pub first : IsTrue o.is_first ↔ IsFirst w

-- an entry names the node, it was an old node at this place or a new one, and whether its data differs from before
pub record IsNamedAs (w : World) (u : UpdateData) (id : FullNodeId) (n : Named) : Type 0 where
  pub named : IsNamed w u id
  pub entry : named_at u n.entry ≡ Some id.node
  pub new : n.was ≡ None → ¬ (IsNode w id)
  pub old : (was : Option Place) → n.was ≡ Some was → IsNode w id × IsPlaceOf w id was
  pub news : IsTrue n.is_news ↔ (data_of w id ≢ data_of (merged_world w u) id)

abbrev pub LosesGraft : World → UpdateData → TreeId → Type 0
LosesGraft w u name = (n : FullNodeId) × IsNamed w u n × (graft_name w n ≡ Some name) × (graft_name (merged_world w u) n ≢ Some name)

abbrev pub GainsGraft : World → UpdateData → FullNodeId → TreeId → Type 0
GainsGraft w u n name = IsNamed w u n × (graft_name (merged_world w u) n ≡ Some name) × (graft_name w n ≢ Some name)

-- the spot that a node entered
abbrev pub entered_at : Compared → FullNodeId → Option (Option Place)
entered_at c id = option_map (λ x. x.spot) (at c.entered id)

-- the node is said to have only shifted
abbrev pub IsShifted : Compared → FullNodeId → Type 0
IsShifted c id = (x : Arrival) × (at c.entered id ≡ Some x) × IsTrue x.is_shifted

-- the node left a place in a list, and this spot is in the list of the same parent
abbrev pub IsShift : World → UpdateData → FullNodeId → Option Place → Type 0
IsShift w u id s = (p : FullNodeId) × (k j : ℕ) × Left w u (Some (p, k)) id × (s ≡ Some (p, j))

-- pass 1: the named nodes against their old records
pub record HoldsCompared (w : World) (u : UpdateData) (c : Compared) : Type 0 where
  pub compared : IsCompared w u
  pub is_named : (id : FullNodeId) (n : Named) → at c.named id ≡ Some n → IsNamedAs w u id n
  pub has_named : (id : FullNodeId) → IsNamed w u id → IsSome (at c.named id)
  pub left : (id : FullNodeId) (s : Option Place) → at c.left id ≡ Some s → Left w u s id
  pub left_each : (id : FullNodeId) (s : Option Place) → Left w u s id → (at c.left id ≡ Some s) ⊎ IsShifted c id
  pub entered : (id : FullNodeId) (s : Option Place) → (entered_at c id ≡ Some s) ↔ Entered w u s id
  pub shifted : (id : FullNodeId) (x : Arrival) → at c.entered id ≡ Some x → IsTrue x.is_shifted → IsShift w u id x.spot
  pub grafted : (name : TreeId) (n : FullNodeId)
      → (at_name c.grafted name ≡ Some n) ↔ (IsNamed w u n × (graft_name (merged_world w u) n ≡ Some name))
  pub lost : (name : TreeId) → Contains c.lost.items name ↔ LosesGraft w u name
  pub gained : (name : TreeId) → Contains c.gained.items name ↔ ((n : FullNodeId) × GainsGraft w u n name)
  pub lost_once : AllPairs (λ a b. a ≢ b) c.lost.items
  pub gained_once : AllPairs (λ a b. a ≢ b) c.gained.items
  pub named_count : length c.named ≡ length u.nodes
  pub lost_count : length c.lost.items ≤ length u.nodes
  pub gained_count : length c.gained.items ≤ length u.nodes

-- pass 2: what entered
pub record HoldsSettled (w : World) (u : UpdateData) (s : Settled) : Type 0 where
  pub settled : IsSettled w u
  -- what entered and is still listed where it was
  pub doubled : (c : FullNodeId) (q : Place)
      → Contains s.doubles.items (c, q) ↔ (HasEntered w u c × Lists w q c × Lists (merged_world w u) q c)
  pub adopters : (n : FullNodeId) → has s.adopters n ↔ Adopts w u n
  pub unmoved : s.has_moved ≡ false → (p : Place) (c : FullNodeId) → Entered w u (Some p) c → IsNode w c → (k : ℕ) × Lists w (p.0, k) c

-- a tree that loses its graft and gets no other
abbrev pub IsUngrafted : World → UpdateData → TreeId → Type 0
IsUngrafted w u name = ¬ (IsGraftedByNamed w u name) × (g : FullNodeId) × (graft_name w g ≡ Some name) × (Gone w u g ⊎ IsNamed w u g)

-- the record of such a tree afterwards
abbrev pub cut_record : World → TreeId → TreeRecord
cut_record w name = record { id = name; index = index_of w name; graft = None; root = None; focus = None }

-- pass 3: what is removed
pub record HoldsRemoved (w : World) (u : UpdateData) (r : Removed) : Type 0 where
  pub removed : IsRemoved w u
  pub gone : (id : FullNodeId) → has r.gone id ↔ Gone w u id
  pub trees : (t : TreeRecord) → Contains r.trees.items t ↔ (IsUngrafted w u t.id × (t ≡ cut_record w t.id))
  pub trees_once : AllPairs (λ a b. a.id ≢ b.id) r.trees.items

-- the record afterwards of a tree that a named node gains
pub record IsGained (w : World) (u : UpdateData) (t : TreeRecord) : Type 0 where
  pub n : FullNodeId
  pub gains : GainsGraft w u n t.id
  pub graft : t.graft ≡ Some n
  pub index : t.index ≡ index_of w t.id
  pub root : t.root ≡ option_map (λ t. t.root) (tree_named w t.id)
  pub focus : t.focus ≡ option_map (λ t. t.focus) (tree_named w t.id)

-- pass 6: trees that get another graft, and their roots with these grafts
pub record HoldsRegrafted (w : World) (u : UpdateData) (trees : List TreeRecord) (roots : BTreeMap FullNodeId FullNodeId) : Type 0 where
  pub passed : IsPassed w u
  pub gained : (t : TreeRecord) → Contains trees t ↔ IsGained w u t
  pub gained_once : AllPairs (λ a b. a.id ≢ b.id) trees
  pub moved_in : (id g : FullNodeId)
      → (at roots.entries id ≡ Some g) ↔ ((name : TreeId) × GainsGraft w u g name × (root_named w name ≡ Some id))

-- pass 7: the focus before, and in the rebuilt world
pub record IsFocusing (w : World) (u : UpdateData) (f : Focused) : Type 0 where
  pub before : ¬ (IsFirst w) → IsFocus w f.before
  pub effective : (new : World) → IsRebuild (merged_world w u) new → IsEffectiveFocus new f.effective
  pub after : (new : World) → IsRebuild (merged_world w u) new → IsFocus new f.after
