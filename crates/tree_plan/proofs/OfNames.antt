-- The root and the declared focus of a tree, from what is known of its name.
use Rattle.std.proofs.Common.{◌≡◌, ℕ, Option, Some, None, option_map, option_and_then, refl}
use Rattle.std.specs.FinMap.{get}
use Rattle.schema.specs.declared.NodeId.{NodeId}
use Rattle.schema.specs.declared.TreeId.{TreeId}
use Rattle.model.specs.declared.FullNodeId.{FullNodeId}
use Rattle.model.specs.World.{World, Tree, in_tree, index_of, root_named, focus_named}
use Rattle.tree_changes.specs.declared.look_ups.TreeRecord.{TreeRecord}
use Rattle.tree_plan.specs.Passes.{IsOfName}

-- the id of a node of a tree that may have no index
abbrev pub full : Option ℕ → Option NodeId → Option FullNodeId
full index node = option_and_then (λ i. option_map (in_tree i) node) index

module _ (w : World) where
  by_trees : (pick : Tree → NodeId) (i : ℕ) (t : Option Tree) → option_map (λ t. in_tree i (pick t)) t ≡ option_map (in_tree i) (option_map pick t)
  by_trees pick i None = refl
  by_trees pick i (Some t) = refl

  by_index : (pick : Tree → NodeId) (o : Option ℕ) → option_and_then (λ i. option_map (λ t. in_tree i (pick t)) (get w.trees i)) o ≡ full o (option_map pick (option_and_then (λ i. get w.trees i) o))
  by_index pick None = refl
  by_index pick (Some i) = by_trees pick i (get w.trees i)

  pub root_by_name : (name : TreeId) (t : TreeRecord) → IsOfName w name t → root_named w name ≡ full t.index t.root
  root_by_name name t h = rw (h.index, h.root) (by_index (λ t. t.root) (index_of w name))

  pub focus_by_name : (name : TreeId) (t : TreeRecord) → IsOfName w name t → focus_named w name ≡ full t.index t.focus
  focus_by_name name t h = rw (h.index, h.focus) (by_index (λ t. t.focus) (index_of w name))
