-- The entries of the small worlds.
use Rattle.std.proofs.Common.{ℕ, false, List, [], ◌∷◌, nat_cmp}
use Rattle.std.specs.Cmp.{nat_cmp_total}
use Rattle.schema.specs.NodeData.{NodeData}
use Rattle.schema.specs.declared.TreeId.{TreeId}
use Rattle.model.specs.declared.FullNodeId.{FullNodeId}
use Rattle.model.specs.FullIds.{full_cmp, full_total}
use Rattle.model.specs.World.{Tree}
use Rattle.model.specs.State.{empty_world}
use Rattle.model.specs.Examples.{at, name, window, document, container, graft, button, plain_tree, world, plain, window_alone, before_move, after_move, nested, moved_out, empty_graft, pushed, labelled, labelled_document}
use Rattle.model.proofs.Examples.Tools.{sorted, entries-from_entries}
use Rattle.model.proofs.Examples.Tested.{IsWritten}

pub written : (known : List TreeId) (ts : List (ℕ × Tree)) (es : List (FullNodeId × NodeData)) → IsWritten (world known ts es) (sorted nat_cmp ts) (sorted full_cmp es)
written known ts es = record { trees = entries-from_entries nat_cmp_total ts; nodes = entries-from_entries full_total es }

-- trees with their roots and declared focuses at 0
abbrev pub one_tree : List (ℕ × Tree)
one_tree = (0, plain_tree) ∷ []

abbrev pub two_trees : List (ℕ × Tree)
two_trees = (0, plain_tree) ∷ (1, plain_tree) ∷ []

abbrev pub three_trees : List (ℕ × Tree)
three_trees = (0, plain_tree) ∷ (1, plain_tree) ∷ (2, plain_tree) ∷ []

abbrev pub outer_trees : List (ℕ × Tree)
outer_trees = (0, plain_tree) ∷ (2, plain_tree) ∷ []

abbrev pub plain_nodes : List (FullNodeId × NodeData)
plain_nodes = (at 0 0, window (1 ∷ [])) ∷ (at 0 1, button) ∷ []

abbrev pub window_nodes : List (FullNodeId × NodeData)
window_nodes = (at 0 0, window []) ∷ []

abbrev pub before_move_nodes : List (FullNodeId × NodeData)
before_move_nodes = (at 0 0, window (1 ∷ 2 ∷ [])) ∷ (at 0 1, container (3 ∷ [])) ∷ (at 0 2, container []) ∷ (at 0 3, button) ∷ []

abbrev pub after_move_nodes : List (FullNodeId × NodeData)
after_move_nodes = (at 0 0, window (1 ∷ 2 ∷ [])) ∷ (at 0 1, container []) ∷ (at 0 2, container (3 ∷ [])) ∷ (at 0 3, button) ∷ []

abbrev pub nested_nodes : List (FullNodeId × NodeData)
nested_nodes = (at 0 0, window (1 ∷ [])) ∷ (at 0 1, graft (name 1)) ∷ (at 1 0, document (1 ∷ [])) ∷ (at 1 1, graft (name 2)) ∷ (at 2 0, document (1 ∷ [])) ∷ (at 2 1, button) ∷ []

abbrev pub moved_out_nodes : List (FullNodeId × NodeData)
moved_out_nodes = (at 0 0, window (2 ∷ [])) ∷ (at 0 2, graft (name 2)) ∷ (at 2 0, document (1 ∷ [])) ∷ (at 2 1, button) ∷ []

abbrev pub empty_graft_nodes : List (FullNodeId × NodeData)
empty_graft_nodes = (at 0 0, window (1 ∷ [])) ∷ (at 0 1, graft (name 1)) ∷ []

-- the window, its graft, and in that this document and this button
abbrev pub document_nodes : NodeData → NodeData → List (FullNodeId × NodeData)
document_nodes root inner = (at 0 0, window (1 ∷ [])) ∷ (at 0 1, graft (name 1)) ∷ (at 1 0, root) ∷ (at 1 1, inner) ∷ []

pub nothing_written : IsWritten (empty_world false) [] []
nothing_written = record { trees = entries-from_entries nat_cmp_total []; nodes = entries-from_entries full_total [] }

pub plain_written : IsWritten plain one_tree plain_nodes
plain_written = written _ one_tree plain_nodes

pub window_written : IsWritten window_alone one_tree window_nodes
window_written = written _ one_tree window_nodes

pub before_move_written : IsWritten before_move one_tree before_move_nodes
before_move_written = written _ one_tree before_move_nodes

pub after_move_written : IsWritten after_move one_tree after_move_nodes
after_move_written = written _ one_tree after_move_nodes

pub nested_written : IsWritten nested three_trees nested_nodes
nested_written = written _ three_trees nested_nodes

pub moved_out_written : IsWritten moved_out outer_trees moved_out_nodes
moved_out_written = written _ outer_trees moved_out_nodes

pub empty_graft_written : IsWritten empty_graft one_tree empty_graft_nodes
empty_graft_written = written _ one_tree empty_graft_nodes

pub pushed_written : IsWritten pushed two_trees (document_nodes (document (1 ∷ [])) button)
pushed_written = written _ two_trees (document_nodes (document (1 ∷ [])) button)

pub labelled_written : IsWritten labelled two_trees (document_nodes labelled_document button)
labelled_written = written _ two_trees (document_nodes labelled_document button)
