-- Updates of trees within trees, and their events.
use Rattle.std.specs.Prelude.{◌≡◌, ℕ, [], ◌∷◌, Some}
use Rattle.model.specs.declared.FullNodeId.{FullNodeId}
use Rattle.model.specs.Events.{NodeAdded, NodeUpdated, FocusMoved, NodeRemoved, seen_in}
use Rattle.model.specs.Run.{ToUpdate, Accepted, Does}
use Rattle.model.specs.Work.{IsWorkOf, allowance}
use Rattle.model.specs.Examples.{at, before_move, whole_move, after_move, nested, graft_moves_out, moved_out, empty_graft, pushed_tree, pushed, document_again, labelled, focus_on, with_inner_focus, label_inner_button, labelled_inside}

-- A graft moves out of a tree that is removed: its tree's root has a new place, and the node below that root isn't reported.
abbrev pub GraftMovesOut : Type 0
GraftMovesOut =
    Does nested (ToUpdate graft_moves_out) moved_out
    (NodeAdded (seen_in moved_out (at 0 2))
    ∷ NodeUpdated (seen_in nested (at 0 0)) (seen_in moved_out (at 0 0))
    ∷ NodeUpdated (seen_in nested (at 2 0)) (seen_in moved_out (at 2 0))
    ∷ NodeRemoved (seen_in nested (at 0 1)) ∷ NodeRemoved (seen_in nested (at 1 0)) ∷ NodeRemoved (seen_in nested (at 1 1)) ∷ [])
    Accepted

-- A button moves from one container to another: both containers are reported for their lists, and the button for its place.
abbrev pub ButtonMoves : Type 0
ButtonMoves =
    Does before_move (ToUpdate whole_move) after_move
    (NodeUpdated (seen_in before_move (at 0 1)) (seen_in after_move (at 0 1))
    ∷ NodeUpdated (seen_in before_move (at 0 2)) (seen_in after_move (at 0 2))
    ∷ NodeUpdated (seen_in before_move (at 0 3)) (seen_in after_move (at 0 3)) ∷ [])
    Accepted

-- The tree of an empty graft is sent: the graft itself isn't reported.
abbrev pub GraftedTreeComes : Type 0
GraftedTreeComes =
    Does empty_graft (ToUpdate pushed_tree) pushed
    (NodeAdded (seen_in pushed (at 1 0)) ∷ NodeAdded (seen_in pushed (at 1 1)) ∷ []) Accepted

-- Its root gets a label.
abbrev pub GraftedRootIsLabelled : Type 0
GraftedRootIsLabelled =
    Does pushed (ToUpdate document_again) labelled (NodeUpdated (seen_in pushed (at 1 0)) (seen_in labelled (at 1 0)) ∷ []) Accepted

-- The root tree declares another of its nodes focused, and the focus moves from x to y: both are reported as updated, and then the move.
abbrev pub InnerFocusGoes : ℕ → ℕ → FullNodeId → FullNodeId → Type 0
InnerFocusGoes before after x y =
    Does (with_inner_focus before) (ToUpdate (focus_on after)) (with_inner_focus after)
    (NodeUpdated (seen_in (with_inner_focus before) x) (seen_in (with_inner_focus after) x)
    ∷ NodeUpdated (seen_in (with_inner_focus before) y) (seen_in (with_inner_focus after) y)
    ∷ FocusMoved (Some (seen_in (with_inner_focus before) x)) (Some (seen_in (with_inner_focus after) y)) ∷ [])
    Accepted

-- from the window to the graft, and so to the document's button, which the document's tree declares focused
abbrev pub FocusGoesInside : Type 0
FocusGoesInside = InnerFocusGoes 0 1 (at 0 0) (at 1 1)

-- and back
abbrev pub FocusComesBack : Type 0
FocusComesBack = InnerFocusGoes 1 0 (at 1 1) (at 0 0)

-- The work of a label in the document: one node in the update, which lists nothing and has depth 1 in its tree, though it is three
-- levels below the window; two names are known.
abbrev pub InnerLabelWork : Type 0
InnerLabelWork =
    IsWorkOf pushed label_inner_button labelled_inside (record { named = 1; children = 0; removed = 0; depths = 1; known = 2 })
    × (allowance (record { named = 1; children = 0; removed = 0; depths = 1; known = 2 }) ≡ 96)

-- The work of the graft that moves out: two nodes in the update, whose child lists have 0:1 before and 0:2 after, three removed nodes,
-- the graft has depth 1, three names are known.
abbrev pub GraftMovesOutWork : Type 0
GraftMovesOutWork =
    IsWorkOf nested graft_moves_out moved_out (record { named = 2; children = 2; removed = 3; depths = 1; known = 3 })
    × (allowance (record { named = 2; children = 2; removed = 3; depths = 1; known = 3 }) ≡ 208)
