-- The removed nodes and trees found so far.
use Rattle.std.specs.Prelude.{◌≡◌, ◌≢◌, ℕ, ◌+◌, ◌≤◌, List, length, AllPairs, Contains, Some, slice_get, ◌⊎◌, ◌↔◌}
use Rattle.std.specs.BTreeSet.{btree_set_len}
use Rattle.schema.specs.declared.TreeId.{TreeId}
use Rattle.model.specs.declared.FullNodeId.{FullNodeId}
use Rattle.model.specs.World.{World, graft_name, root_named}
use Rattle.model.specs.State.{Lists}
use Rattle.model.specs.Update.{UpdateData, IsNamed}
use Rattle.model.specs.Surgery.{Seat, Left, HasEntered, IsGraftedByNamed, Gone}
use Rattle.tree_changes.specs.declared.look_ups.TreeRecord.{TreeRecord}
use Rattle.tree_plan.specs.declared.passes.Case.{Case}
use Rattle.tree_plan.specs.declared.passes.Compared.{Compared}
use Rattle.tree_plan.specs.declared.removing.Removing.{Removing}
use Rattle.tree_plan.specs.Passes.{has, IsUngrafted, LosesGraft, cut_record}
use Rattle.tree_plan.specs.Cases.{IsCase, sent}

-- What is found is removed and isn't in the update, and is in the queue once. Each record is that of a tree that loses its graft, each
-- of another one.
pub record FindsGone (w : World) (u : UpdateData) (r : Removing) : Type 0 where
  pub gone : (id : FullNodeId) → has r.gone id ↔ Contains r.queue.items id
  pub once : (i j : ℕ) (id : FullNodeId) → slice_get r.queue.items i ≡ Some id → slice_get r.queue.items j ≡ Some id → i ≡ j
  pub count : btree_set_len r.gone ≡ length r.queue.items
  pub goes : (id : FullNodeId) → Contains r.queue.items id → Gone w u id × ¬ (IsNamed w u id)
  pub trees : (t : TreeRecord) → Contains r.trees.items t → IsUngrafted w u t.id × (t ≡ cut_record w t.id)
  pub trees_once : AllPairs (λ a b. a.id ≢ b.id) r.trees.items

-- what is found so far, of this update to this world
pub record IsRemoving (w : World) (c : Case) (r : Removing) : Type 0 where
  pub case : IsCase w c
  pub found : FindsGone w (sent c) r

-- b has all that a has, and its queue begins with that of a
pub record Extends (a b : Removing) : Type 0 where
  pub queue : (i : ℕ) (id : FullNodeId) → slice_get a.queue.items i ≡ Some id → slice_get b.queue.items i ≡ Some id
  pub trees : (t : TreeRecord) → Contains a.trees.items t → Contains b.trees.items t

-- a node that lost its spot came to another, or is found
abbrev pub IsPlacedOrFound : World → UpdateData → Removing → FullNodeId → Type 0
IsPlacedOrFound w u r id = HasEntered w u id ⊎ Contains r.queue.items id

-- these nodes lost their spots
pub record LosesAll (w : World) (u : UpdateData) (ids : List FullNodeId) (a b : Removing) : Type 0 where
  pub found : FindsGone w u b
  pub extends : Extends a b
  pub trees : b.trees ≡ a.trees
  pub lost : (id : FullNodeId) → Contains ids id → IsPlacedOrFound w u b id

-- a tree that lost its graft: if no named node grafts it, its record is there, and its root lost its spot
pub record IsDropDone (w : World) (u : UpdateData) (name : TreeId) (r : Removing) : Type 0 where
  pub tree : ¬ (IsGraftedByNamed w u name) → Contains r.trees.items (cut_record w name)
  pub root : ¬ (IsGraftedByNamed w u name) → (c : FullNodeId) → root_named w name ≡ Some c → IsPlacedOrFound w u r c

-- this tree lost its graft
pub record Drops (w : World) (u : UpdateData) (name : TreeId) (a b : Removing) : Type 0 where
  pub found : FindsGone w u b
  pub extends : Extends a b
  pub over : IsDropDone w u name b
  pub only : (t : TreeRecord) → Contains b.trees.items t → Contains a.trees.items t ⊎ (t.id ≡ name)
  pub few : length b.trees.items ≤ length a.trees.items + 1

-- with this node its children lost their spots, and the tree that it grafts its graft
pub record IsExpanded (w : World) (u : UpdateData) (id : FullNodeId) (r : Removing) : Type 0 where
  pub children : (k : ℕ) (c : FullNodeId) → Lists w (id, k) c → IsPlacedOrFound w u r c
  pub tree : (name : TreeId) → graft_name w id ≡ Some name → IsDropDone w u name r

pub record Expands (w : World) (u : UpdateData) (id : FullNodeId) (a b : Removing) : Type 0 where
  pub found : FindsGone w u b
  pub extends : Extends a b
  pub expanded : IsExpanded w u id b
  pub only : (t : TreeRecord) → Contains b.trees.items t → Contains a.trees.items t ⊎ (graft_name w id ≡ Some t.id)
  pub few : length b.trees.items ≤ length a.trees.items + 1

-- what left lost its spot
pub record LosesLeft (w : World) (u : UpdateData) (a b : Removing) : Type 0 where
  pub found : FindsGone w u b
  pub trees : b.trees ≡ a.trees
  pub left : (s : Seat) (c : FullNodeId) → Left w u s c → IsPlacedOrFound w u b c

-- the trees that named nodes grafted, and don't, lost their grafts
pub record DropsLost (w : World) (u : UpdateData) (c : Compared) (a b : Removing) : Type 0 where
  pub found : FindsGone w u b
  pub extends : Extends a b
  pub over : (name : TreeId) → LosesGraft w u name → IsDropDone w u name b
  pub only : (t : TreeRecord) → Contains b.trees.items t → LosesGraft w u t.id
  pub few : length b.trees.items ≤ length c.lost.items

-- each node of the queue is worked off
pub record FollowsUp (w : World) (u : UpdateData) (a b : Removing) : Type 0 where
  pub found : FindsGone w u b
  pub extends : Extends a b
  pub expanded : (id : FullNodeId) → Contains b.queue.items id → IsExpanded w u id b
  pub few : length b.trees.items ≤ length a.trees.items + length b.queue.items

-- everything that is removed is found
pub record IsWorkedOff (w : World) (u : UpdateData) (c : Compared) (r : Removing) : Type 0 where
  pub found : FindsGone w u r
  pub left : (s : Seat) (id : FullNodeId) → Left w u s id → IsPlacedOrFound w u r id
  pub over : (name : TreeId) → LosesGraft w u name → IsDropDone w u name r
  pub expanded : (id : FullNodeId) → Contains r.queue.items id → IsExpanded w u id r
  pub few : length r.trees.items ≤ length r.queue.items + length c.lost.items
