-- The numbers that bound the look-ups of an accepted update: old is the world before it, and new the one after.
use Rattle.std.specs.Prelude.{◌≡◌, ℕ, ◌+◌, ◌*◌, List, [], ◌∷◌, length, map, Contains, Some, ◌⊎◌}
use Rattle.model.specs.declared.FullNodeId.{FullNodeId}
use Rattle.model.specs.World.{World, Place, in_tree, root_of}
use Rattle.model.specs.Update.{UpdateData, index_for}
use Rattle.model.specs.State.{Lists}
use Rattle.model.specs.Differences.{IsAscendingListOf, IsAdded}

pub record Work : Type 0 where
  -- the update's nodes
  pub named : ℕ
  -- the ids in their child lists, old and new, each once
  pub children : ℕ
  -- the removed nodes
  pub removed : ℕ
  -- the sum of the depths of the update's nodes in their tree afterwards
  pub depths : ℕ
  -- the names known afterwards
  pub known : ℕ

-- a tree's root has depth 0 in it, and a child one more than the node that lists it
pub data HasDepthInTree (w : World) : FullNodeId → ℕ → Type 0 where
  at_root : (index : ℕ) (id : FullNodeId) → root_of w index ≡ Some id → HasDepthInTree w id 0
  at_child : (p : Place) (id : FullNodeId) (depth : ℕ) → HasDepthInTree w p.0 depth → Lists w p id → HasDepthInTree w id (depth + 1)

abbrev pub IsSumOfDepths : World → List FullNodeId → ℕ → Type 0
IsSumOfDepths w [] sum = sum ≡ 0
IsSumOfDepths w (id ∷ ids) sum = (depth others : ℕ) × HasDepthInTree w id depth × IsSumOfDepths w ids others × (sum ≡ depth + others)

abbrev pub named_ids : World → UpdateData → List FullNodeId
named_ids old u = map (λ e. in_tree (index_for old u.name) e.0) u.nodes

-- a node of the update lists it, before or after
abbrev pub IsChildOfNamed : World → UpdateData → World → FullNodeId → Type 0
IsChildOfNamed old u new id = (p : Place) × Contains (named_ids old u) p.0 × (Lists old p id ⊎ Lists new p id)

pub record IsWorkOf (old : World) (u : UpdateData) (new : World) (work : Work) : Type 0 where
  pub children : List FullNodeId
  pub removed : List FullNodeId
  pub are_children : IsAscendingListOf (IsChildOfNamed old u new) children
  pub are_removed : IsAscendingListOf (IsAdded new old) removed
  pub count_named : work.named ≡ length u.nodes
  pub count_children : work.children ≡ length children
  pub count_removed : work.removed ≡ length removed
  pub sum_depths : IsSumOfDepths new (named_ids old u) work.depths
  pub count_known : work.known ≡ length new.known

-- an accepted update looks up no more often than this
abbrev pub allowance : Work → ℕ
allowance work = 16 * (work.named + work.children + work.removed + work.depths + work.known) + 32
