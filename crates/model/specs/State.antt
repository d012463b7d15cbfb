-- The worlds that updates leave.
use Rattle.std.specs.Prelude.{◌≡◌, ◌≢◌, ℕ, ◌<◌, ◌^◌, Bool, [], length, slice_get, Some, None, IsSome}
use Rattle.std.specs.FinMap.{get, empty}
use Rattle.schema.specs.declared.NodeId.{NodeId}
use Rattle.schema.specs.declared.TreeId.{TreeId}
use Rattle.model.specs.declared.FullNodeId.{FullNodeId}
use Rattle.model.specs.World.{ROOT_NAME, World, IsNode, root_of, root_named, listed_ids, graft_name, Place, Reached, Kept}
use Rattle.model.specs.Focus.{OnChain}
use Rattle.model.specs.Update.{UpdateData, IsAccepted}

-- the world before the first update
abbrev pub empty_world : Bool → World
empty_world host_focused = record { known = []; trees = empty; nodes = empty; toolkit = (None, None); host_focused = host_focused }

-- the world with this host focus
abbrev pub with_host : World → Bool → World
with_host w host_focused = record w { host_focused = host_focused }

-- an update of the root tree that changes nothing, if that tree declares this focus
abbrev pub idle_update : NodeId → UpdateData
idle_update focus = record { nodes = []; info = None; name = ROOT_NAME; focus = focus }

-- the child is in the parent's list at this index
abbrev pub Lists : World → Place → FullNodeId → Type 0
Lists w p child = slice_get (listed_ids w p.0) p.1 ≡ Some child

-- A world that breaks no rule and has nothing to drop.
pub record IsState (w : World) : Type 0 where
  -- each name is known once, the root tree's first, and each has an index of 32 bits
  pub known_first : slice_get w.known 0 ≡ Some ROOT_NAME
  pub known_once : (i j : ℕ) (name : TreeId) → slice_get w.known i ≡ Some name → slice_get w.known j ≡ Some name → i ≡ j
  pub known_fit : length w.known < 2 ^ 32
  -- the root tree is present; each present tree is known and kept
  pub root_present : IsSome (get w.trees 0)
  pub present_known : (index : ℕ) → IsSome (get w.trees index) → index < length w.known
  pub present_kept : (index : ℕ) → IsSome (get w.trees index) → Kept w index
  -- each node is a reached one of a present tree
  pub node_present : (id : FullNodeId) → IsNode w id → IsSome (get w.trees id.tree)
  pub node_reached : (id : FullNodeId) → IsNode w id → Reached w id
  -- each root and each listed child is a node
  pub root_is_node : (index : ℕ) (id : FullNodeId) → root_of w index ≡ Some id → IsNode w id
  pub listed_is_node : (p : Place) (child : FullNodeId) → Lists w p child → IsNode w child
  -- a node is listed once, and a root not at all
  pub listed_once : (p q : Place) (child : FullNodeId) → Lists w p child → Lists w q child → p ≡ q
  pub root_unlisted : (p : Place) (index : ℕ) (id : FullNodeId) → root_of w index ≡ Some id → ¬ (Lists w p id)
  -- a graft lists nothing and names another tree than the root tree, which no other node grafts
  pub graft_childless : (id : FullNodeId) (name : TreeId) → graft_name w id ≡ Some name → listed_ids w id ≡ []
  pub root_ungrafted : (id : FullNodeId) → graft_name w id ≢ Some ROOT_NAME
  pub grafted_once : (id other : FullNodeId) (name : TreeId) → graft_name w id ≡ Some name → graft_name w other ≡ Some name → id ≡ other
  -- the chain of the focus meets nodes alone, and no graft of a tree that isn't present
  pub focus_is_node : (id : FullNodeId) → OnChain w id → IsNode w id
  pub focus_goes_on : (id : FullNodeId) (name : TreeId) → OnChain w id → graft_name w id ≡ Some name → IsSome (root_named w name)

-- The worlds that accepted updates and changes of the host's focus make of w, in any number.
pub data IsLater (w : World) : World → Type 0 where
  now : IsLater w w
  updated : (before after : World) (u : UpdateData) → IsLater w before → IsAccepted before u after → IsLater w after
  told : (before : World) (host_focused : Bool) → IsLater w before → IsLater w (with_host before host_focused)
