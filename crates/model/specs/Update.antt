-- The effect of an update: the world that it leaves, and when it is refused.
use Rattle.std.specs.Prelude.{IsSome, ◌<◌, ◌≡◌, ◌≢◌, ℕ, ◌≤◌, ◌-◌, ◌^◌, List, [], ◌∷◌, ◌++◌, length, map, slice_get, Contains, Option, Some, None, ◌⊎◌, ◌↔◌, ◌==◌, if◌then◌else◌}
use Rattle.std.specs.Option.{unwrap_or, option_map, option_map_or}
use Rattle.std.specs.Ordering.{nat_cmp}
use Rattle.std.specs.FinMap.{FinMap, get, insert}
use Rattle.schema.specs.NodeData.{NodeData}
pub use Rattle.schema.specs.UpdateData.{InfoData, UpdateData}
use Rattle.schema.specs.declared.NodeId.{NodeId}
use Rattle.schema.specs.declared.TreeId.{TreeId}
use Rattle.model.specs.declared.FullNodeId.{FullNodeId}
use Rattle.model.specs.FullIds.{full_cmp}
use Rattle.model.specs.World.{ROOT_NAME, Tree, World, index_of, in_tree, root_of, root_named, IsNode, HasData, listed_ids, graft_name, Place, Reached, Kept}
use Rattle.model.specs.Focus.{OnChain}

-- the index of the tree with this name: its position among the known names, or the next one if the name is new
abbrev pub index_for : World → TreeId → ℕ
index_for w name = unwrap_or (index_of w name) (length w.known)

-- a new name comes last
abbrev pub known_after : World → TreeId → List TreeId
known_after w name = option_map_or (λ _. w.known) (index_of w name) (w.known ++ name ∷ [])

-- the nodes overwritten by these, of the tree with this index; of two entries with one id the last counts
abbrev pub overwritten_nodes : FinMap full_cmp NodeData → ℕ → List (NodeId × NodeData) → FinMap full_cmp NodeData
overwritten_nodes nodes index [] = nodes
overwritten_nodes nodes index (e ∷ es) = overwritten_nodes (insert nodes (in_tree index e.0) e.1) index es

-- the root of the update's tree: that of the tree info, or else the old one, or else none
abbrev pub root_after : World → UpdateData → Option NodeId
root_after w u = option_map_or (λ info. Some info.root) u.info (option_map (λ t. t.root) (get w.trees (index_for w u.name)))

-- the update's tree has that root and the update's focus
abbrev pub trees_after : World → UpdateData → FinMap nat_cmp Tree
trees_after w u =
    option_map_or (λ root. insert w.trees (index_for w u.name) (record { root = root; focus = u.focus })) (root_after w u) w.trees

-- tree info for the root tree replaces the toolkit texts; that of another tree leaves them
abbrev pub toolkit_after : World → UpdateData → Option (List ℕ) × Option (List ℕ)
toolkit_after w u =
    option_map_or (λ info. if index_for w u.name == 0 then (info.toolkit_name, info.toolkit_version) else w.toolkit) u.info w.toolkit

-- The world with the update's nodes, root, focus and texts instead of its tree's old ones, before anything is dropped.
abbrev pub merged_world : World → UpdateData → World
merged_world w u = record {
  known = known_after w u.name;
  trees = trees_after w u;
  nodes = overwritten_nodes w.nodes (index_for w u.name) u.nodes;
  toolkit = toolkit_after w u;
  host_focused = w.host_focused;
}

-- new is what a merged world leaves: its kept trees with their reached nodes, and nothing else
pub record IsRebuild (m new : World) : Type 0 where
  pub known : new.known ≡ m.known
  pub toolkit : new.toolkit ≡ m.toolkit
  pub host : new.host_focused ≡ m.host_focused
  pub trees : (index : ℕ) (t : Tree) → (get new.trees index ≡ Some t) ↔ (Kept m index × (get m.trees index ≡ Some t))
  pub nodes : (id : FullNodeId) (d : NodeData) → HasData new id d ↔ (Kept m id.tree × Reached m id × HasData m id d)

-- one for each reason to refuse an update, except lack of memory
pub data Fault : Type 0 where
  MissingTreeInfo : Fault
  NotRootTree : Fault
  MissingData : (node : NodeId) → Fault
  NotReached : (node : NodeId) → Fault
  NamedTwice : (node : NodeId) → Fault
  ListedTwice : (node : NodeId) → Fault
  RootTreeGrafted : (node : NodeId) → Fault
  GraftWithChildren : (node : NodeId) → Fault
  GraftedTwice : (name : TreeId) → Fault
  NoGraft : (name : TreeId) → Fault
  NoFirstTreeInfo : (name : TreeId) → Fault
  FocusMissing : (node : NodeId) → Fault
  FocusOnEmptyGraft : (name : TreeId) → Fault
  IndexesUsedUp : Fault

-- the update that makes a tree comes to a world in which no name is known
abbrev pub IsFirst : World → Type 0
IsFirst old = old.known ≡ []

-- the id in the entry at this index
abbrev pub named_at : UpdateData → ℕ → Option NodeId
named_at u i = slice_get (map (λ e. e.0) u.nodes) i

abbrev pub IsNamed : World → UpdateData → FullNodeId → Type 0
IsNamed old u id = (id.tree ≡ index_for old u.name) × Contains (map (λ e. e.0) u.nodes) id.node

-- a node that the rules look at ("a node that counts"): one of the update, or a reached one of a kept tree
abbrev pub IsJudged : World → UpdateData → FullNodeId → Type 0
IsJudged old u id = IsNamed old u id ⊎ (Kept (merged_world old u) id.tree × Reached (merged_world old u) id)

-- a node that counts lists the child at this place
abbrev pub IsListedAt : World → UpdateData → Place → FullNodeId → Type 0
IsListedAt old u p child = IsJudged old u p.0 × (slice_get (listed_ids (merged_world old u) p.0) p.1 ≡ Some child)

-- a node that counts is a graft of this name
abbrev pub IsGraftOf : World → UpdateData → FullNodeId → TreeId → Type 0
IsGraftOf old u id name = IsJudged old u id × (graft_name (merged_world old u) id ≡ Some name)

-- The update breaks the rule; the rules of the focus follow below.
abbrev pub StandsApart : World → UpdateData → Fault → Type 0
-- a first update has no tree info
StandsApart old u MissingTreeInfo = IsFirst old × (u.info ≡ None)
-- a first update is for another tree than the root tree
StandsApart old u NotRootTree = IsFirst old × (u.name ≢ ROOT_NAME)
-- the root of the update's tree, or a child that a node that counts lists, has no data
StandsApart old u (MissingData n) =
    (id : FullNodeId) × (id.node ≡ n) × ¬ (IsNode (merged_world old u) id)
    × ((root_of (merged_world old u) (index_for old u.name) ≡ Some id) ⊎ ((p : Place) × IsListedAt old u p id))
-- a node of the update isn't reached
StandsApart old u (NotReached n) = (id : FullNodeId) × (id.node ≡ n) × IsNamed old u id × ¬ (Reached (merged_world old u) id)
-- two entries have this id
StandsApart old u (NamedTwice n) = (i j : ℕ) × (i ≢ j) × (named_at u i ≡ Some n) × (named_at u j ≡ Some n)
-- a node is listed at two places, or a root at one
StandsApart old u (ListedTwice n) =
    (id : FullNodeId) × (id.node ≡ n) × (p : Place) × IsListedAt old u p id
    × (((q : Place) × (p ≢ q) × IsListedAt old u q id) ⊎ (root_of (merged_world old u) id.tree ≡ Some id))
-- a node grafts the root tree
StandsApart old u (RootTreeGrafted n) = (id : FullNodeId) × (id.node ≡ n) × IsGraftOf old u id ROOT_NAME
-- a graft lists children
StandsApart old u (GraftWithChildren n) =
    (id : FullNodeId) × (id.node ≡ n) × (name : TreeId) × IsGraftOf old u id name × (listed_ids (merged_world old u) id ≢ [])
-- two nodes graft this tree, present or not
StandsApart old u (GraftedTwice name) = (id other : FullNodeId) × (id ≢ other) × IsGraftOf old u id name × IsGraftOf old u other name
-- a later update is for another tree than the root tree, and no node grafts it before the update
StandsApart old u (NoGraft name) =
    ¬ (IsFirst old) × (u.name ≡ name) × (name ≢ ROOT_NAME) × ((id : FullNodeId) → ¬ (graft_name old id ≡ Some name))
-- a later update is for a tree that isn't present, and has no tree info
StandsApart old u (NoFirstTreeInfo name) = ¬ (IsFirst old) × (u.name ≡ name) × (get old.trees (index_for old name) ≡ None) × (u.info ≡ None)
-- a later update has a new name, and no index is left
StandsApart old u IndexesUsedUp = ¬ (IsFirst old) × (index_of old u.name ≡ None) × (2 ^ 32 - 1 ≤ length old.known)
StandsApart old u (FocusMissing n) = ⊥
StandsApart old u (FocusOnEmptyGraft name) = ⊥

-- the chain of the focus comes to a reached graft of a kept tree, and the tree with this name isn't present
abbrev pub IsOnEmptyGraft : World → TreeId → Type 0
IsOnEmptyGraft m name =
    (id : FullNodeId) × OnChain m id × Kept m id.tree × Reached m id × (graft_name m id ≡ Some name) × (root_named m name ≡ None)

-- The update of the world old breaks the rule. The rules of the focus count only if no other is broken.
abbrev pub Stands : World → UpdateData → Fault → Type 0
-- the chain of the focus comes to no empty graft, and ends at a node that isn't reached
Stands old u (FocusMissing n) =
    ((f : Fault) → ¬ (StandsApart old u f)) × ((name : TreeId) → ¬ (IsOnEmptyGraft (merged_world old u) name)) × (id : FullNodeId)
    × (id.node ≡ n) × OnChain (merged_world old u) id × ¬ (Reached (merged_world old u) id)
-- it comes to an empty graft
Stands old u (FocusOnEmptyGraft name) = ((f : Fault) → ¬ (StandsApart old u f)) × IsOnEmptyGraft (merged_world old u) name
Stands old u f = StandsApart old u f

-- the update of the world old is accepted, and leaves new
abbrev pub IsAccepted : World → UpdateData → World → Type 0
IsAccepted old u new = ((f : Fault) → ¬ (Stands old u f)) × IsRebuild (merged_world old u) new

-- The rules of an update, stated positively. They are kept exactly if none is broken.
pub record KeepsRules (old : World) (u : UpdateData) : Type 0 where
  -- a first update has tree info and is for the root tree
  pub first_has_info : IsFirst old → IsSome u.info
  pub first_for_root : IsFirst old → u.name ≡ ROOT_NAME
  -- the root of the update's tree has data, and so has each child that a node that counts lists
  pub root_is_node : (id : FullNodeId) → root_of (merged_world old u) (index_for old u.name) ≡ Some id → IsNode (merged_world old u) id
  pub listed_is_node : (p : Place) (child : FullNodeId) → IsListedAt old u p child → IsNode (merged_world old u) child
  -- a node of the update is reached, and has one entry
  pub named_reached : (id : FullNodeId) → IsNamed old u id → Reached (merged_world old u) id
  pub named_once : (i j : ℕ) (n : NodeId) → named_at u i ≡ Some n → named_at u j ≡ Some n → i ≡ j
  -- a node is listed once, and a root not at all
  pub listed_once : (p q : Place) (child : FullNodeId) → IsListedAt old u p child → IsListedAt old u q child → p ≡ q
  pub root_unlisted : (p : Place) (id : FullNodeId) → IsListedAt old u p id → root_of (merged_world old u) id.tree ≢ Some id
  -- a graft lists nothing and names another tree than the root tree, which no other node grafts
  pub root_ungrafted : (id : FullNodeId) → ¬ (IsGraftOf old u id ROOT_NAME)
  pub graft_childless : (id : FullNodeId) (name : TreeId) → IsGraftOf old u id name → listed_ids (merged_world old u) id ≡ []
  pub grafted_once : (id other : FullNodeId) (name : TreeId) → IsGraftOf old u id name → IsGraftOf old u other name → id ≡ other
  -- a later update is for the root tree or one that a node grafts, for a tree that is present or comes with tree info, and has an index
  pub later_grafted : ¬ (IsFirst old) → u.name ≢ ROOT_NAME → (id : FullNodeId) × (graft_name old id ≡ Some u.name)
  pub later_has_info : ¬ (IsFirst old) → get old.trees (index_for old u.name) ≡ None → IsSome u.info
  pub later_has_index : ¬ (IsFirst old) → index_of old u.name ≡ None → length old.known < 2 ^ 32 - 1
  -- the chain of the focus meets reached nodes alone, and no graft of a tree that isn't present
  pub focus_reached : (id : FullNodeId) → OnChain (merged_world old u) id → Reached (merged_world old u) id
  pub focus_goes_on : (id : FullNodeId) (name : TreeId) → OnChain (merged_world old u) id
      → graft_name (merged_world old u) id ≡ Some name → IsSome (root_named (merged_world old u) name)
