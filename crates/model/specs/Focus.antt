-- The keyboard focus in a world.
use Rattle.std.specs.Prelude.{◌≡◌, ◌≢◌, ℕ, Option, Some, None, true, false, ◌⊎◌}
use Rattle.std.specs.FinMap.{get}
use Rattle.schema.specs.NodeData.{NodeData}
use Rattle.schema.specs.declared.TreeId.{TreeId}
use Rattle.schema.specs.declared.Role.TheVariants.{AlertDialog, Dialog}
use Rattle.model.specs.declared.FullNodeId.{FullNodeId}
use Rattle.model.specs.World.{World, Tree, IsNode, HasData, in_tree, graft_name, focus_named, StandsAt, Reached, Kept}

-- from a reached graft of a kept tree, the focus goes on to the declared focus of the tree that it names, if that tree is present
pub record GoesOn (w : World) (graft id : FullNodeId) : Type 0 where
  pub kept : Kept w graft.tree
  pub reached : Reached w graft
  pub name : TreeId
  pub grafts : graft_name w graft ≡ Some name
  pub declared : focus_named w name ≡ Some id

-- The nodes at which the effective focus is looked for: the root tree's declared focus, and each node that the focus goes on to.
pub data OnChain (w : World) : FullNodeId → Type 0 where
  first : (t : Tree) → get w.trees 0 ≡ Some t → OnChain w (in_tree 0 t.focus)
  next : (graft id : FullNodeId) → OnChain w graft → GoesOn w graft id → OnChain w id

-- the end of the chain: the node on it that grafts no tree
abbrev pub IsEffectiveFocus : World → FullNodeId → Type 0
IsEffectiveFocus w id = OnChain w id × (d : NodeData) × HasData w id d × (d.tree_id ≡ None)

-- the result of `focus_id`: None unless the host is focused
abbrev pub IsFocusId : World → Option FullNodeId → Type 0
IsFocusId w None = w.host_focused ≡ false
IsFocusId w (Some id) = (w.host_focused ≡ true) × IsEffectiveFocus w id

-- the node's active descendant is an existing node of its tree
abbrev pub Resolves : World → FullNodeId → FullNodeId → Type 0
Resolves w id active =
    (d : NodeData) × HasData w id d × (d.active_descendant ≡ Some active.node) × (active.tree ≡ id.tree) × IsNode w active

-- the result of `focus`: None unless the host is focused
abbrev pub IsFocus : World → Option FullNodeId → Type 0
IsFocus w None = w.host_focused ≡ false
IsFocus w (Some id) =
    (w.host_focused ≡ true) × (e : FullNodeId) × IsEffectiveFocus w e
    × (Resolves w e id ⊎ ((id ≡ e) × ((a : FullNodeId) → ¬ (Resolves w e a))))

-- `is_focused` holds of the node; it doesn't hold of one that names itself as its active descendant
abbrev pub IsFocusedNode : World → FullNodeId → Type 0
IsFocusedNode w id =
    (w.host_focused ≡ true) × (e : FullNodeId) × IsEffectiveFocus w e
    × (((id ≡ e) × ((a : FullNodeId) → ¬ (Resolves w e a))) ⊎ ((id ≢ e) × Resolves w e id))

abbrev pub IsDialog : World → FullNodeId → Type 0
IsDialog w id = (d : NodeData) × HasData w id d × ((d.role ≡ AlertDialog) ⊎ (d.role ≡ Dialog))

-- a dialog is the nearest one to itself; to another node, the nearest one to its parent is
pub data IsNearestDialog (w : World) (dialog : FullNodeId) : FullNodeId → Type 0 where
  itself : IsDialog w dialog → IsNearestDialog w dialog dialog
  above : (id parent : FullNodeId) (index : ℕ) → ¬ (IsDialog w id) → StandsAt w (parent, index) id → IsNearestDialog w dialog parent
      → IsNearestDialog w dialog id

-- the result of `active_dialog`: the nearest dialog to the focus
abbrev pub IsActiveDialog : World → Option FullNodeId → Type 0
IsActiveDialog w (Some dialog) = (focus : FullNodeId) × IsFocus w (Some focus) × IsNearestDialog w dialog focus
IsActiveDialog w None = (focus dialog : FullNodeId) → IsFocus w (Some focus) → ¬ (IsNearestDialog w dialog focus)
