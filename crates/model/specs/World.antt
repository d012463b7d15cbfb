-- The trees of an interface as plain data: the data of each node, and of each present tree its root and declared focus.
-- No parent, no table of grafts and no effective focus is stored: they follow from the child lists and graft names.
use Rattle.std.specs.Prelude.{codes, ◌≡◌, ℕ, Bool, List, [], ◌∷◌, map, position, slice_get, Option, Some, None, IsSome, option_and_then}
use Rattle.std.specs.Option.{unwrap_or, option_map, option_map_or}
use Rattle.std.specs.Ordering.{nat_cmp, is_eq}
use Rattle.std.specs.Cmp.Lexicographic.{slice_cmp}
use Rattle.std.specs.FinMap.{FinMap, get}
use Rattle.schema.specs.NodeData.{NodeData}
use Rattle.schema.specs.TreeIds.{root_tree_id}
use Rattle.schema.specs.declared.NodeId.{NodeId}
use Rattle.schema.specs.declared.TreeId.{TreeId}
use Rattle.model.specs.declared.FullNodeId.{FullNodeId}
use Rattle.model.specs.FullIds.{full_cmp}

-- the root tree's name: the nil UUID
abbrev pub ROOT_NAME : TreeId
ROOT_NAME = root_tree_id

-- a present tree: its root, and the node that it declares focused
pub record Tree : Type 0 where
  pub root : NodeId
  pub focus : NodeId

pub record World : Type 0 where
  -- the names ever used: the index of a tree is its place here
  pub known : List TreeId
  -- the present trees, by index
  pub trees : FinMap nat_cmp Tree
  pub nodes : FinMap full_cmp NodeData
  -- the toolkit's name and version
  pub toolkit : Option (List ℕ) × Option (List ℕ)
  pub host_focused : Bool

abbrev pub data_of : World → FullNodeId → Option NodeData
data_of w id = get w.nodes id

abbrev pub IsNode : World → FullNodeId → Type 0
IsNode w id = IsSome (data_of w id)

abbrev pub HasData : World → FullNodeId → NodeData → Type 0
HasData w id d = data_of w id ≡ Some d

-- the index of the tree with this name
abbrev pub index_of : World → TreeId → Option ℕ
index_of w name = position (λ k. is_eq (slice_cmp nat_cmp k.0 name.0)) w.known

-- the name of the tree with this index
abbrev pub name_of : World → ℕ → Option TreeId
name_of w index = slice_get w.known index

-- the node with this id in the tree with this index
abbrev pub in_tree : ℕ → NodeId → FullNodeId
in_tree index n = record { tree = index; node = n }

-- the nodes in a node's child list, in order: nodes of its own tree
abbrev pub listed_ids : World → FullNodeId → List FullNodeId
listed_ids w id = option_map_or (λ d. map (in_tree id.tree) d.children) (data_of w id) []

abbrev pub graft_name : World → FullNodeId → Option TreeId
graft_name w id = option_and_then (λ d. d.tree_id) (data_of w id)

-- the root of the tree with this index, if it exists
abbrev pub root_of : World → ℕ → Option FullNodeId
root_of w index = option_map (λ t. in_tree index t.root) (get w.trees index)

-- the declared focus of the tree with this index, if it exists
abbrev pub focus_of : World → ℕ → Option FullNodeId
focus_of w index = option_map (λ t. in_tree index t.focus) (get w.trees index)

-- the root of the tree with this name, if it exists
abbrev pub root_named : World → TreeId → Option FullNodeId
root_named w name = option_and_then (root_of w) (index_of w name)

-- the declared focus of the tree with this name, if it exists
abbrev pub focus_named : World → TreeId → Option FullNodeId
focus_named w name = option_and_then (focus_of w) (index_of w name)

abbrev pub at_most_one : Option FullNodeId → List FullNodeId
at_most_one None = []
at_most_one (Some id) = id ∷ []

-- the children of a node: of a graft the root of the tree that it names, if that tree is present, and of another node its child list
abbrev pub children : World → FullNodeId → List FullNodeId
children w id = option_map_or (λ name. at_most_one (root_named w name)) (graft_name w id) (listed_ids w id)

-- a place: a parent, and the index among the parent's children
abbrev pub Place : Type 0
Place = FullNodeId × ℕ

-- the node at a place
abbrev pub child_at : World → Place → Option FullNodeId
child_at w p = slice_get (children w p.0) p.1

abbrev pub StandsAt : World → Place → FullNodeId → Type 0
StandsAt w p child = child_at w p ≡ Some child

-- The smallest set that contains each present tree's root and is closed under the child lists.
pub data Reached (w : World) : FullNodeId → Type 0 where
  root : (index : ℕ) (t : Tree) → get w.trees index ≡ Some t → Reached w (in_tree index t.root)
  child : (parent id : FullNodeId) (index : ℕ) → Reached w parent → slice_get (listed_ids w parent) index ≡ Some id → Reached w id

-- The smallest set that contains the root tree and each present tree that a reached node of a kept tree grafts.
pub data Kept (w : World) : ℕ → Type 0 where
  root : Kept w 0
  grafted : (graft inner : FullNodeId) (name : TreeId) → Kept w graft.tree → Reached w graft → graft_name w graft ≡ Some name
      → root_named w name ≡ Some inner → Kept w inner.tree

-- the node's id in its tree, and the name of the tree, if the node exists
abbrev pub local_id_of : World → FullNodeId → Option (NodeId × TreeId)
local_id_of w id = option_and_then (λ _. option_map (λ name. (id.node, name)) (name_of w id.tree)) (data_of w id)

-- the toolkit's name, and its version, which is only given together with a name
abbrev pub toolkit_name : World → List ℕ
toolkit_name w = unwrap_or w.toolkit.0 (codes "AccessKit")

abbrev pub toolkit_version : World → Option (List ℕ)
toolkit_version w = option_and_then (λ _. w.toolkit.1) w.toolkit.0
