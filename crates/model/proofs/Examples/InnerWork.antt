-- The work of a label in a grafted document.
use Rattle.std.proofs.Common.{[], ◌∷◌, option_map, refl, ap}
use Rattle.model.specs.declared.FullNodeId.{FullNodeId}
use Rattle.model.specs.World.{IsNode, in_tree}
use Rattle.model.specs.Work.{HasDepthInTree, at_root, at_child}
use Rattle.model.specs.Examples.{at, document, button, pushed, labelled_button, label_inner_button, labelled_inside}
use Rattle.model.specs.ToldExamples.{InnerLabelWork}
use Rattle.model.proofs.Examples.ToldTools.{each_contained, leaf_work}
use Rattle.model.proofs.Examples.Tested.{IsWritten, node_in, is_there, among, tree_at}
use Rattle.model.proofs.Examples.Worlds.{two_trees, document_nodes, pushed_written, written}
use Rattle.model.proofs.Examples.Tools.{lists_at}

inside_written : IsWritten labelled_inside two_trees (document_nodes (document (1 ∷ [])) labelled_button)
inside_written = written _ two_trees (document_nodes (document (1 ∷ [])) labelled_button)

stays : (id : FullNodeId) → IsNode pushed id → IsNode labelled_inside id
stays id h =
    each_contained (IsNode labelled_inside) (at 0 0 ∷ at 0 1 ∷ at 1 0 ∷ at 1 1 ∷ [])
    (is_there inside_written (at 0 0) refl, (is_there inside_written (at 0 1) refl, (is_there inside_written (at 1 0) refl, (is_there inside_written (at 1 1) refl, tt)))) id (among pushed_written id h)

document_depth : HasDepthInTree labelled_inside (at 1 0) 0
document_depth = at_root 1 (at 1 0) (ap (option_map (λ t. in_tree 1 t.root)) (tree_at inside_written 1))

button_depth : HasDepthInTree labelled_inside (at 1 1) 1
button_depth = at_child (at 1 0, 0) (at 1 1) 0 document_depth (lists_at labelled_inside (at 1 0) (document (1 ∷ [])) 0 (at 1 1) (node_in inside_written (at 1 0)) refl)

pub inner_label_work : InnerLabelWork
inner_label_work = (leaf_work pushed labelled_inside label_inner_button (at 1 1) button labelled_button refl (node_in pushed_written (at 1 1)) (node_in inside_written (at 1 1)) refl refl stays button_depth, refl)
