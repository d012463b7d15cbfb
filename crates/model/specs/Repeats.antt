-- Updates that repeat what a world already has.
use Rattle.std.specs.Prelude.{◌≡◌, ℕ, Contains, Some}
use Rattle.std.specs.FinMap.{get}
use Rattle.schema.specs.NodeData.{NodeData}
use Rattle.schema.specs.declared.NodeId.{NodeId}
use Rattle.model.specs.World.{World, Tree, index_of, in_tree, HasData}
use Rattle.model.specs.Update.{UpdateData, root_after, toolkit_after, named_at}

-- the update repeats what the world has of a present tree: nodes, each once, root, focus and texts
pub record Repeats (w : World) (u : UpdateData) : Type 0 where
  pub index : ℕ
  pub tree : Tree
  pub known : index_of w u.name ≡ Some index
  pub present : get w.trees index ≡ Some tree
  pub root : root_after w u ≡ Some tree.root
  pub focus : u.focus ≡ tree.focus
  pub toolkit : toolkit_after w u ≡ w.toolkit
  pub nodes : (entry : NodeId × NodeData) → Contains u.nodes entry → HasData w (in_tree index entry.0) entry.1
  pub once : (i j : ℕ) (n : NodeId) → named_at u i ≡ Some n → named_at u j ≡ Some n → i ≡ j
