-- Small worlds and updates, on which the definitions are worked out.
use Rattle.std.specs.Prelude.{codes, ℕ, List, [], ◌∷◌, map, true, false, Some, None}
use Rattle.std.specs.Ordering.{nat_cmp}
use Rattle.std.specs.FinMap.{from_entries}
use Rattle.schema.specs.NodeData.{NodeData, empty_node}
use Rattle.schema.specs.declared.NodeId.{NodeId}
use Rattle.schema.specs.declared.TreeId.{TreeId}
use Rattle.schema.specs.declared.Role.{Role}
use Rattle.schema.specs.declared.Role.TheVariants.{Window, GenericContainer, Document, Button, ListBox, ListBoxOption}
use Rattle.model.specs.declared.FullNodeId.{FullNodeId}
use Rattle.model.specs.World.{ROOT_NAME, World, Tree}
use Rattle.model.specs.Update.{UpdateData, InfoData}

abbrev pub node : ℕ → NodeId
node n = record { 0 = n }

abbrev pub at : ℕ → ℕ → FullNodeId
at tree n = record { tree = tree; node = node n }

-- the name whose UUID is this number, below 256
abbrev pub name : ℕ → TreeId
name n = record { 0 = 0 ∷ 0 ∷ 0 ∷ 0 ∷ 0 ∷ 0 ∷ 0 ∷ 0 ∷ 0 ∷ 0 ∷ 0 ∷ 0 ∷ 0 ∷ 0 ∷ 0 ∷ n ∷ [] }

abbrev pub window : List ℕ → NodeData
window children = record (empty_node Window) { children = map node children }

abbrev pub document : List ℕ → NodeData
document children = record (empty_node Document) { children = map node children }

abbrev pub container : List ℕ → NodeData
container children = record (empty_node GenericContainer) { children = map node children }

abbrev pub button : NodeData
button = empty_node Button

abbrev pub graft : TreeId → NodeData
graft name = record (empty_node GenericContainer) { tree_id = Some name }

-- a tree whose root and focus are 0
abbrev pub plain_tree : Tree
plain_tree = record { root = node 0; focus = node 0 }

-- a world of these names, trees and nodes, without toolkit texts, whose host isn't focused
abbrev pub world : List TreeId → List (ℕ × Tree) → List (FullNodeId × NodeData) → World
world known trees nodes =
    record {
      known = known;
      trees = from_entries {R = nat_cmp} trees;
      nodes = from_entries nodes;
      toolkit = (None, None);
      host_focused = false;
    }

-- an update of the root tree that declares 0 focused and has no tree info
abbrev pub root_update : List (NodeId × NodeData) → UpdateData
root_update nodes = record { nodes = nodes; info = None; name = ROOT_NAME; focus = node 0 }

-- that of another tree, with its root
abbrev pub tree_info : ℕ → InfoData
tree_info root = record { root = node root; toolkit_name = None; toolkit_version = None }

-- A window 0 with the containers 1 and 2, where the button 3 is in 1; and then in 2.
abbrev pub before_move : World
before_move =
    world (ROOT_NAME ∷ []) ((0, plain_tree) ∷ [])
    ((at 0 0, window (1 ∷ 2 ∷ [])) ∷ (at 0 1, container (3 ∷ [])) ∷ (at 0 2, container []) ∷ (at 0 3, button) ∷ [])

abbrev pub after_move : World
after_move =
    world (ROOT_NAME ∷ []) ((0, plain_tree) ∷ [])
    ((at 0 0, window (1 ∷ 2 ∷ [])) ∷ (at 0 1, container []) ∷ (at 0 2, container (3 ∷ [])) ∷ (at 0 3, button) ∷ [])

-- the new parent alone, and both parents
abbrev pub half_a_move : UpdateData
half_a_move = root_update ((node 2, container (3 ∷ [])) ∷ [])

abbrev pub whole_move : UpdateData
whole_move = root_update ((node 2, container (3 ∷ [])) ∷ (node 1, container []) ∷ [])

-- A window 0 whose child 1 grafts tree 1, a document 0 whose child 1 grafts tree 2, a document 0 with a button 1.
abbrev pub nested : World
nested =
    world (ROOT_NAME ∷ name 1 ∷ name 2 ∷ []) ((0, plain_tree) ∷ (1, plain_tree) ∷ (2, plain_tree) ∷ [])
    ((at 0 0, window (1 ∷ [])) ∷ (at 0 1, graft (name 1)) ∷ (at 1 0, document (1 ∷ [])) ∷ (at 1 1, graft (name 2))
    ∷ (at 2 0, document (1 ∷ [])) ∷ (at 2 1, button) ∷ [])

-- tree 2 is grafted by the window's new child 2 in place of its child 1
abbrev pub graft_moves_out : UpdateData
graft_moves_out = root_update ((node 0, window (2 ∷ [])) ∷ (node 2, graft (name 2)) ∷ [])

abbrev pub moved_out : World
moved_out =
    world (ROOT_NAME ∷ name 1 ∷ name 2 ∷ []) ((0, plain_tree) ∷ (2, plain_tree) ∷ [])
    ((at 0 0, window (2 ∷ [])) ∷ (at 0 2, graft (name 2)) ∷ (at 2 0, document (1 ∷ [])) ∷ (at 2 1, button) ∷ [])

-- A window 0 with a button 1.
abbrev pub plain : World
plain = world (ROOT_NAME ∷ []) ((0, plain_tree) ∷ []) ((at 0 0, window (1 ∷ [])) ∷ (at 0 1, button) ∷ [])

-- the update that makes it
abbrev pub first_update : UpdateData
first_update = record (root_update ((node 0, window (1 ∷ [])) ∷ (node 1, button) ∷ [])) { info = Some (tree_info 0) }

-- two new nodes that list each other
abbrev pub an_island : UpdateData
an_island = root_update ((node 5, container (6 ∷ [])) ∷ (node 6, container (5 ∷ [])) ∷ [])

abbrev pub button_twice : UpdateData
button_twice = root_update ((node 1, button) ∷ (node 1, button) ∷ [])

abbrev pub child_without_data : UpdateData
child_without_data = root_update ((node 0, window (1 ∷ 9 ∷ [])) ∷ [])

-- the window without its button
abbrev pub button_goes : UpdateData
button_goes = root_update ((node 0, window []) ∷ [])

abbrev pub window_alone : World
window_alone = world (ROOT_NAME ∷ []) ((0, plain_tree) ∷ []) ((at 0 0, window []) ∷ [])

-- A window 0 whose child 1 grafts tree 1, which isn't present.
abbrev pub empty_graft : World
empty_graft = world (ROOT_NAME ∷ []) ((0, plain_tree) ∷ []) ((at 0 0, window (1 ∷ [])) ∷ (at 0 1, graft (name 1)) ∷ [])

-- the root tree declares this node focused
abbrev pub focus_on : ℕ → UpdateData
focus_on n = record { nodes = []; info = None; name = ROOT_NAME; focus = node n }

abbrev pub focus_on_graft : UpdateData
focus_on_graft = focus_on 1

-- a tree that nothing grafts
abbrev pub ungrafted_tree : UpdateData
ungrafted_tree = record { nodes = (node 0, document []) ∷ []; info = Some (tree_info 0); name = name 2; focus = node 0 }

-- the tree that is grafted, without its first tree info
abbrev pub tree_without_info : UpdateData
tree_without_info = record { nodes = []; info = None; name = name 1; focus = node 0 }

-- the tree that is grafted: a document 0 with a button 1
abbrev pub pushed_tree : UpdateData
pushed_tree =
    record { nodes = (node 0, document (1 ∷ [])) ∷ (node 1, button) ∷ []; info = Some (tree_info 0); name = name 1; focus = node 0 }

abbrev pub pushed : World
pushed =
    world (ROOT_NAME ∷ name 1 ∷ []) ((0, plain_tree) ∷ (1, plain_tree) ∷ [])
    ((at 0 0, window (1 ∷ [])) ∷ (at 0 1, graft (name 1)) ∷ (at 1 0, document (1 ∷ [])) ∷ (at 1 1, button) ∷ [])

-- its document again, with a label, and without tree info
abbrev pub labelled_document : NodeData
labelled_document = record (document (1 ∷ [])) { label = Some (codes "a") }

abbrev pub document_again : UpdateData
document_again = record { nodes = (node 0, labelled_document) ∷ []; info = None; name = name 1; focus = node 0 }

abbrev pub labelled : World
labelled =
    world (ROOT_NAME ∷ name 1 ∷ []) ((0, plain_tree) ∷ (1, plain_tree) ∷ [])
    ((at 0 0, window (1 ∷ [])) ∷ (at 0 1, graft (name 1)) ∷ (at 1 0, labelled_document) ∷ (at 1 1, button) ∷ [])

-- The same trees, where the document's tree declares its button focused, and the root tree this node; the host is focused.
abbrev pub with_inner_focus : ℕ → World
with_inner_focus focus = record pushed {
  trees =
      from_entries {R = nat_cmp}
      ((0, record { root = node 0; focus = node focus }) ∷ (1, record { root = node 0; focus = node 1 }) ∷ []);
  host_focused = true;
}

-- the button in the document gets a label
abbrev pub labelled_button : NodeData
labelled_button = record button { label = Some (codes "OK") }

abbrev pub label_inner_button : UpdateData
label_inner_button = record { nodes = (node 1, labelled_button) ∷ []; info = None; name = name 1; focus = node 0 }

abbrev pub labelled_inside : World
labelled_inside =
    world (ROOT_NAME ∷ name 1 ∷ []) ((0, plain_tree) ∷ (1, plain_tree) ∷ [])
    ((at 0 0, window (1 ∷ [])) ∷ (at 0 1, graft (name 1)) ∷ (at 1 0, document (1 ∷ [])) ∷ (at 1 1, labelled_button) ∷ [])

-- A window 0 with a node 1 of this role, and in it the graft 2 of tree 1, whose root 0 has this role; in that is a button 1, which has
-- the focus. The host is focused.
abbrev pub holder : Role → ℕ → NodeData
holder role child = record (empty_node role) { children = node child ∷ [] }

abbrev pub dialogs : Role → Role → World
dialogs outer inner =
    record
    (world (ROOT_NAME ∷ name 1 ∷ [])
    ((0, record { root = node 0; focus = node 2 }) ∷ (1, record { root = node 0; focus = node 1 }) ∷ [])
    ((at 0 0, window (1 ∷ [])) ∷ (at 0 1, holder outer 2) ∷ (at 0 2, graft (name 1)) ∷ (at 1 0, holder inner 1) ∷ (at 1 1, button)
    ∷ [])) { host_focused = true }

-- A window 0 with a list box 1, where the focus is, and its child 2; the list box names this node as its active descendant. The host is
-- focused.
abbrev pub list_box : ℕ → NodeData
list_box active = record (empty_node ListBox) { children = node 2 ∷ []; active_descendant = Some (node active) }

abbrev pub focused_list : ℕ → World
focused_list active =
    record
    (world (ROOT_NAME ∷ []) ((0, record { root = node 0; focus = node 1 }) ∷ [])
    ((at 0 0, window (1 ∷ [])) ∷ (at 0 1, list_box active) ∷ (at 0 2, empty_node ListBoxOption) ∷ [])) { host_focused = true }

-- an update of the nested trees that cuts off the graft of tree 1, and declares it focused
abbrev pub focus_on_cut_graft : UpdateData
focus_on_cut_graft = record { nodes = (node 0, window []) ∷ []; info = None; name = ROOT_NAME; focus = node 1 }
