-- The world that changes make of a world.
use Rattle.std.specs.Prelude.{ℕ, List, [], ◌∷◌, slice_get, Option, Some, None, ◌||◌, is_some, if◌then◌else◌}
use Rattle.std.specs.Option.{option_map, option_map_or}
use Rattle.std.specs.Ordering.{nat_cmp, is_eq}
use Rattle.std.specs.Cmp.Lexicographic.{slice_cmp}
use Rattle.std.specs.Map.{lookup}
use Rattle.std.specs.BTreeMap.{is_at}
use Rattle.std.specs.FinMap.{FinMap, get, insert, remove}
use Rattle.schema.specs.NodeData.{NodeData}
use Rattle.schema.specs.declared.NodeId.{NodeId}
use Rattle.schema.specs.declared.TreeId.{TreeId}
use Rattle.model.specs.declared.FullNodeId.{FullNodeId}
use Rattle.model.specs.FullIds.{full_cmp}
use Rattle.model.specs.World.{World, Tree, Place}
use Rattle.model.specs.Update.{UpdateData, known_after, toolkit_after}
use Rattle.tree_changes.specs.declared.look_ups.TreeRecord.{TreeRecord}
use Rattle.tree_changes.specs.declared.decision.NodeChange.{NodeChange}
use Rattle.tree_changes.specs.declared.decision.NodeChange.TheVariants.{Put, Gone}
use Rattle.tree_changes.specs.declared.decision.Decision.{Decision}

abbrev pub NodeChanges : Type 0
NodeChanges = List (FullNodeId × NodeChange)

-- the change of a node, if it changes
abbrev pub change_at : NodeChanges → FullNodeId → Option NodeChange
change_at cs id = lookup (is_at (full_cmp id)) cs

-- the data of an entry of the update's nodes
abbrev pub entry_data : List (NodeId × NodeData) → ℕ → Option NodeData
entry_data nodes k = option_map (λ e. e.1) (slice_get nodes k)

-- the place after a change
abbrev pub place_in : NodeChange → Option Place
place_in (Put place entry) = place
place_in Gone = None

-- the entry whose data a change gives
abbrev pub entry_of : NodeChange → Option ℕ
entry_of (Put place entry) = entry
entry_of Gone = None

-- the data after a change
abbrev pub changed_data : List (NodeId × NodeData) → NodeChange → Option NodeData → Option NodeData
changed_data nodes (Put place (Some k)) before = entry_data nodes k
changed_data nodes (Put place None) before = before
changed_data nodes Gone before = None

abbrev pub set_at : FinMap full_cmp NodeData → FullNodeId → Option NodeData → FinMap full_cmp NodeData
set_at m k (Some d) = insert m k d
set_at m k None = remove m k

-- the nodes after the changes; of two changes of one node the first counts
abbrev pub put_all : List (NodeId × NodeData) → FinMap full_cmp NodeData → NodeChanges → FinMap full_cmp NodeData
put_all nodes m [] = m
put_all nodes m (e ∷ es) = set_at (put_all nodes m es) e.0 (changed_data nodes e.1 (get m e.0))

-- the tree of a record is present if the record has a root and a declared focus
abbrev pub tree_from : Option NodeId → Option NodeId → Option Tree
tree_from (Some root) (Some focus) = Some (record { root = root; focus = focus })
tree_from (Some root) None = None
tree_from None focus = None

abbrev pub set_tree : FinMap nat_cmp Tree → ℕ → Option Tree → FinMap nat_cmp Tree
set_tree m index (Some t) = insert m index t
set_tree m index None = remove m index

abbrev pub put_tree : FinMap nat_cmp Tree → TreeRecord → FinMap nat_cmp Tree
put_tree m r = option_map_or (λ index. set_tree m index (tree_from r.root r.focus)) r.index m

-- the trees after the changes of their records, one after another
abbrev pub put_trees : FinMap nat_cmp Tree → List TreeRecord → FinMap nat_cmp Tree
put_trees m [] = m
put_trees m (r ∷ rs) = put_trees (put_tree m r) rs

-- the changed record of this name
abbrev pub tree_change : List TreeRecord → TreeId → Option TreeRecord
tree_change [] name = None
tree_change (r ∷ rs) name = if is_eq (slice_cmp nat_cmp r.id.0 name.0) then Some r else tree_change rs name

-- a record without index and graft is none
abbrev pub if_kept : TreeRecord → Option TreeRecord
if_kept r = if is_some r.index || is_some r.graft then Some r else None

-- the record of this name after the changes, if this is the one before
abbrev pub tree_after : List TreeRecord → TreeId → Option TreeRecord → Option TreeRecord
tree_after rs name before = option_map_or if_kept (tree_change rs name) before

-- the world with an update's changes over it
abbrev pub overlaid_world : World → UpdateData → Decision → World
overlaid_world w u d = record w {
  known = known_after w u.name;
  trees = put_trees w.trees d.trees.items;
  nodes = put_all u.nodes w.nodes d.nodes.items;
  toolkit = toolkit_after w u;
}
