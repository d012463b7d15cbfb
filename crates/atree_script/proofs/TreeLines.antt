-- What is printed of a tree, node by node.
use Rattle.std.proofs.Common.{◌≡◌, ℕ, List, [], ◌++◌, Some, None, map, flat_map, refl, sym, ap, ◌∙◌, append_assoc}
use Rattle.std.specs.Prelude.{codes}
use Rattle.std.specs.Option.{option_map_or}
use Rattle.std.proofs.lemmas.List.{append-nil}
use Rattle.std.proofs.lemmas.List.Folds.{flat_map-map}
use Rattle.schema.specs.NodeData.{NodeData}
use Rattle.schema.specs.RoleNames.{role_text}
use Rattle.model.specs.declared.FullNodeId.{FullNodeId}
use Rattle.model.specs.World.{World, root_of}
use Rattle.model.specs.Forest.{IsFormed}
use Rattle.model.specs.Lists.{ancestors, preorder}
use Rattle.views.specs.declared.node.node_ref.NodeRef.{NodeRef}
use Rattle.views.specs.Nodes.{world_at, id_at, data_at}
use Rattle.views.specs.PlainWalks.{node_in, node_of}
use Rattle.views.specs.Descendants.{descendants}
use Rattle.views.proofs.Climbing.{parent_of, parent_above, nothing_above, data_shown}
use Rattle.atree_script.specs.Outline.{spaces_for, role_of, node_line, tree_text}

-- the line of a node that is viewed
abbrev pub line_at : NodeRef → List ℕ
line_at n = node_line (world_at n) (id_at n)

line_in : World × FullNodeId → List ℕ
line_in p = node_line p.0 p.1

-- the lines of views are those of their nodes
pub lines_of_views : (w : World) (nodes : List NodeRef) (ids : List FullNodeId) → map node_of nodes ≡ map (node_in w) ids → flat_map line_at nodes ≡ flat_map (node_line w) ids
unfolding line_in
lines_of_views w nodes ids e = sym (flat_map-map line_in node_of nodes) ∙ ap (flat_map line_in) e ∙ flat_map-map line_in (node_in w) ids

-- the whole tree's are its root's and those below it
pub lines_of_tree : (w v : World) → w ≡ v → (root : FullNodeId) → root_of v 0 ≡ Some root → node_line w root ++ flat_map (node_line w) (descendants w root) ≡ tree_text v
lines_of_tree w v same root e =
    ap (λ u. node_line u root ++ flat_map (node_line u) (descendants u root)) same
    ∙ sym (ap (λ o. option_map_or (λ top. flat_map (node_line v) (preorder v top)) o []) e)

-- the role of a node that is viewed
pub role_shown : (n : NodeRef) → role_text (data_at n).role ≡ role_of (world_at n) (id_at n)
role_shown n = sym (ap (λ o. option_map_or (λ (d : NodeData). role_text d.role) o []) (data_shown (world_at n) n refl))

-- spaces for the parent, and then for what is above it
module _ (w : World) (formed : IsFormed w) (id : FullNodeId) (done whole : List ℕ) (so_far : done ++ spaces_for (ancestors w id) ≡ whole) where
  pub spaces_more : (q : FullNodeId) → Some q ≡ parent_of w id → (done ++ codes "  ") ++ spaces_for (ancestors w q) ≡ whole
  spaces_more q parent = append_assoc done (codes "  ") (spaces_for (ancestors w q)) ∙ ap (λ ids. done ++ spaces_for ids) (sym (parent_above w formed id q parent)) ∙ so_far

  pub spaces_all : None ≡ parent_of w id → done ≡ whole
  spaces_all none = sym (append-nil done) ∙ ap (λ ids. done ++ spaces_for ids) (sym (nothing_above w formed id none)) ∙ so_far
