-- The results of look-ups.
use Rattle.std.specs.Prelude.{◌≡◌, ℕ, ◌+◌, ◌-◌, ◌^◌, ◌≤◌, min, Option, Some, IsSome, option_and_then, ◌↔◌, ◌⊎◌}
use Rattle.std.specs.Option.{option_map}
use Rattle.std.specs.FinMap.{get}
use Rattle.schema.specs.declared.TreeId.{TreeId}
use Rattle.model.specs.declared.FullNodeId.{FullNodeId}
use Rattle.model.specs.World.{World, Tree, Place, StandsAt, HasData, index_of, graft_name}
use Rattle.tree_changes.specs.declared.look_ups.NodeRecord.{NodeRecord}
use Rattle.tree_changes.specs.declared.look_ups.TreeRecord.{TreeRecord}

-- a saturating count after one more
abbrev pub raised_count : ℕ → ℕ
raised_count n = min (n + 1) (2 ^ 128 - 1)

-- a saturating count after at least this many more
abbrev pub IsRaisedAtLeast : ℕ → ℕ → ℕ → Type 0
IsRaisedAtLeast before more after = min (before + more) (2 ^ 128 - 1) ≤ after

-- after exactly this many more
abbrev pub IsRaisedBy : ℕ → ℕ → ℕ → Type 0
IsRaisedBy before more after = (after ≤ before + more) × IsRaisedAtLeast before more after

-- after at most this many more, and no fewer than before
abbrev pub IsRaisedUpTo : ℕ → ℕ → ℕ → Type 0
IsRaisedUpTo before most after = (after ≤ before + most) × IsRaisedAtLeast before 0 after

-- the place is the node's, and there is none if it has none
abbrev pub IsPlaceOf : World → FullNodeId → Option Place → Type 0
IsPlaceOf w id place = (p : Place) → (place ≡ Some p) ↔ StandsAt w p id

-- the record has the node's data and its place
pub record IsNodeRecord (w : World) (id : FullNodeId) (r : NodeRecord) : Type 0 where
  pub node : HasData w id r.node.now
  pub place : IsPlaceOf w id r.place

-- the present tree of this name
abbrev pub tree_named : World → TreeId → Option Tree
tree_named w name = option_and_then (λ i. get w.trees i) (index_of w name)

-- There is a record of a name exactly if it is known or grafted: it has the index, the node that grafts it, and the root and the declared
-- focus of the present tree.
pub record IsTreeRecord (w : World) (name : TreeId) (r : Option TreeRecord) : Type 0 where
  pub id : (t : TreeRecord) → r ≡ Some t → t.id ≡ name
  pub there : (t : TreeRecord) → r ≡ Some t → IsSome t.index ⊎ IsSome t.graft
  pub index : option_and_then (λ t. t.index) r ≡ index_of w name
  pub graft : (g : FullNodeId) → (option_and_then (λ t. t.graft) r ≡ Some g) ↔ (graft_name w g ≡ Some name)
  pub root : option_and_then (λ t. t.root) r ≡ option_map (λ t. t.root) (tree_named w name)
  pub focus : option_and_then (λ t. t.focus) r ≡ option_map (λ t. t.focus) (tree_named w name)
