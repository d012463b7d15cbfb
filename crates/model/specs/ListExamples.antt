-- A small interface of two trees, and its lists written out.
use Rattle.std.specs.Prelude.{◌≡◌, ℕ, List, [], ◌∷◌, map, true, cond, Some, None}
use Rattle.std.specs.FinMap.{from_sorted}
use Rattle.schema.specs.NodeData.{NodeData, empty_node}
use Rattle.schema.specs.declared.NodeId.{NodeId}
use Rattle.schema.specs.declared.Role.{Role}
use Rattle.schema.specs.declared.Role.TheVariants.{Window, Button, GenericContainer, Label, Document, Paragraph}
use Rattle.model.specs.Examples.{at, graft, name}
use Rattle.model.specs.declared.FullNodeId.{FullNodeId}
use Rattle.model.specs.declared.filters.FilterResult.{FilterResult}
use Rattle.model.specs.declared.filters.FilterResult.TheVariants.{Include, ExcludeNode, ExcludeSubtree}
use Rattle.model.specs.World.{ROOT_NAME, Tree, World}
use Rattle.model.specs.Forest.{place_of, above, is_same}
use Rattle.model.specs.Lists.{preorder, ancestors, following_siblings, preceding_siblings, deepest_first_child, deepest_last_child}
use Rattle.model.specs.Paths.{depth, index_path, relative_index_path}
use Rattle.model.specs.Frontier.{filtered_children}

-- a node of this role that lists these nodes of its tree
abbrev pub parent : Role → List ℕ → NodeData
parent role ids = record (empty_node role) { children = map (λ n. let id : NodeId = record { 0 = n } in id) ids }

abbrev pub pictured_nodes : List (FullNodeId × NodeData)
pictured_nodes =
    (at 0 0, parent Window (1 ∷ 2 ∷ 3 ∷ [])) ∷ (at 0 1, parent Button []) ∷ (at 0 2, graft (name 1))
    ∷ (at 0 3, parent GenericContainer (4 ∷ [])) ∷ (at 0 4, parent Label [])
    ∷ (at 1 0, parent Document (1 ∷ 2 ∷ [])) ∷ (at 1 1, parent Paragraph []) ∷ (at 1 2, parent Paragraph []) ∷ []

-- each tree has at 0 as its root and as its declared focus
abbrev pub pictured_trees : List (ℕ × Tree)
pictured_trees =
    (0, record { root = record { 0 = 0 }; focus = record { 0 = 0 } })
    ∷ (1, record { root = record { 0 = 0 }; focus = record { 0 = 0 } }) ∷ []

abbrev pub pictured : World
pictured = record {
  known = ROOT_NAME ∷ name 1 ∷ [];
  trees = from_sorted pictured_trees;
  nodes = from_sorted pictured_nodes;
  toolkit = (None, None);
  host_focused = true;
}

-- excludes the (graft (name 1)) and the document alone, and the last paragraph with its subtree
abbrev pub some_nodes : FullNodeId → FilterResult
some_nodes id =
    cond (is_same id (at 0 2)) ExcludeNode (cond (is_same id (at 1 0)) ExcludeNode (cond (is_same id (at 1 2)) ExcludeSubtree Include))

-- excludes the (graft (name 1)) alone, and the document with its subtree
abbrev pub no_document : FullNodeId → FilterResult
no_document id = cond (is_same id (at 0 2)) ExcludeNode (cond (is_same id (at 1 0)) ExcludeSubtree Include)

pub record PicturedLists : Type 0 where
  pub order : preorder pictured (at 0 0) ≡ at 0 0 ∷ at 0 1 ∷ at 0 2 ∷ at 1 0 ∷ at 1 1 ∷ at 1 2 ∷ at 0 3 ∷ at 0 4 ∷ []
  pub paths : map (index_path pictured) (preorder pictured (at 0 0))
      ≡ [] ∷ (0 ∷ []) ∷ (1 ∷ []) ∷ (1 ∷ 0 ∷ []) ∷ (1 ∷ 0 ∷ 0 ∷ []) ∷ (1 ∷ 0 ∷ 1 ∷ []) ∷ (2 ∷ []) ∷ (2 ∷ 0 ∷ []) ∷ []
  pub places : map (place_of pictured) (preorder pictured (at 0 0))
      ≡ None ∷ Some (at 0 0, 0) ∷ Some (at 0 0, 1) ∷ Some (at 0 2, 0) ∷ Some (at 1 0, 0) ∷ Some (at 1 0, 1) ∷ Some (at 0 0, 2)
      ∷ Some (at 0 3, 0) ∷ []
  pub depths : map (depth pictured) (preorder pictured (at 0 0)) ≡ 0 ∷ 1 ∷ 1 ∷ 2 ∷ 3 ∷ 3 ∷ 1 ∷ 2 ∷ []
  pub graft_order : preorder pictured (at 0 2) ≡ at 0 2 ∷ at 1 0 ∷ at 1 1 ∷ at 1 2 ∷ []
  pub last_above : above pictured (at 1 2) ≡ (at 1 0, 1) ∷ (at 0 2, 0) ∷ (at 0 0, 1) ∷ []
  pub last_ancestors : ancestors pictured (at 1 2) ≡ at 1 0 ∷ at 0 2 ∷ at 0 0 ∷ []
  pub button_following : following_siblings pictured (at 0 1) ≡ at 0 2 ∷ at 0 3 ∷ []
  pub group_preceding : preceding_siblings pictured (at 0 3) ≡ at 0 2 ∷ at 0 1 ∷ []
  pub inner_following : following_siblings pictured (at 1 0) ≡ []
  pub inner_preceding : preceding_siblings pictured (at 1 0) ≡ []
  pub first_of_window : deepest_first_child pictured (at 0 0) ≡ Some (at 0 1)
  pub first_of_graft : deepest_first_child pictured (at 0 2) ≡ Some (at 1 1)
  pub first_of_label : deepest_first_child pictured (at 0 4) ≡ None
  pub last_of_window : deepest_last_child pictured (at 0 0) ≡ Some (at 0 4)
  pub last_of_graft : deepest_last_child pictured (at 0 2) ≡ Some (at 1 2)
  pub last_of_label : deepest_last_child pictured (at 0 4) ≡ None
  pub from_graft : relative_index_path pictured (at 0 2) (at 1 2) ≡ 0 ∷ 1 ∷ []
  pub some_shown : filtered_children some_nodes pictured (at 0 0) ≡ at 0 1 ∷ at 1 1 ∷ at 0 3 ∷ []
  pub no_document_shown : filtered_children no_document pictured (at 0 0) ≡ at 0 1 ∷ at 0 3 ∷ []
