-- Small worlds, and the events of their changes.
use Rattle.std.specs.Prelude.{◌≡◌, ℕ, List, [], ◌∷◌, true, false, Some, None}
use Rattle.std.specs.FinMap.{from_sorted}
use Rattle.schema.specs.NodeData.{NodeData}
use Rattle.model.specs.declared.FullNodeId.{FullNodeId}
use Rattle.model.specs.World.{ROOT_NAME, World}
use Rattle.model.specs.Examples.{node, at, window, button, labelled_button}
use Rattle.model.specs.Update.{UpdateData}
use Rattle.model.specs.State.{with_host}
use Rattle.model.specs.Differences.{Added, Updated, FocusMoved, Removed, AreDifferences}
use Rattle.model.specs.Events.{NodeUpdated, seen_in}
use Rattle.model.specs.Events as handler
use Rattle.model.specs.Run.{ToHostFocus, Accepted, Runs}
use Rattle.model.specs.Work.{IsWorkOf, allowance}

-- a root tree of these nodes, whose root is node 0; the host is focused
abbrev pub root_tree : ℕ → List (FullNodeId × NodeData) → World
root_tree focus nodes = record {
  known = ROOT_NAME ∷ [];
  trees = from_sorted ((0, record { root = node 0; focus = node focus }) ∷ []);
  nodes = from_sorted nodes;
  toolkit = (None, None);
  host_focused = true;
}

abbrev pub window_alone : World
window_alone = root_tree 0 ((at 0 0, window []) ∷ [])

-- the window with button 1 in it, and the focus on one of them
abbrev pub window_with_button : ℕ → World
window_with_button focus = root_tree focus ((at 0 0, window (1 ∷ [])) ∷ (at 0 1, button) ∷ [])

-- the window with the buttons of these ids in it
abbrev pub window_with_buttons : ℕ → ℕ → World
window_with_buttons first second = root_tree 0 ((at 0 0, window (first ∷ second ∷ [])) ∷ (at 0 1, button) ∷ (at 0 2, button) ∷ [])

-- the button is removed
abbrev pub ButtonGoes : Type 0
ButtonGoes = AreDifferences (window_with_button 0) window_alone None (Updated (at 0 0) ∷ Removed (at 0 1) ∷ [])

-- the focus moves from the window to the button
abbrev pub FocusGoesToButton : Type 0
FocusGoesToButton =
    AreDifferences (window_with_button 0) (window_with_button 1) None
    (Updated (at 0 0) ∷ Updated (at 0 1) ∷ FocusMoved (Some (at 0 0)) (Some (at 0 1)) ∷ [])

-- the button is removed, and the focus was on it: the removal is reported last
abbrev pub FocusedButtonGoes : Type 0
FocusedButtonGoes =
    AreDifferences (window_with_button 1) window_alone None
    (Updated (at 0 0) ∷ FocusMoved (Some (at 0 1)) (Some (at 0 0)) ∷ Removed (at 0 1) ∷ [])

-- two buttons change places: their own data is the same
abbrev pub ButtonsChangePlaces : Type 0
ButtonsChangePlaces =
    AreDifferences (window_with_buttons 1 2) (window_with_buttons 2 1) None
    (Updated (at 0 0) ∷ Updated (at 0 1) ∷ Updated (at 0 2) ∷ [])

-- Before: a window with the buttons 1 and 2, and the focus on 1. After: button 1 is gone, button 3 is after button 2, and the focus is
-- on 2.
abbrev pub pictured_before : World
pictured_before = root_tree 1 ((at 0 0, window (1 ∷ 2 ∷ [])) ∷ (at 0 1, button) ∷ (at 0 2, button) ∷ [])

abbrev pub pictured_after : World
pictured_after = root_tree 2 ((at 0 0, window (2 ∷ 3 ∷ [])) ∷ (at 0 2, button) ∷ (at 0 3, button) ∷ [])

abbrev pub PicturedChange : Type 0
PicturedChange =
    AreDifferences pictured_before pictured_after None
    (Added (at 0 3) ∷ Updated (at 0 0) ∷ Updated (at 0 2) ∷ FocusMoved (Some (at 0 1)) (Some (at 0 2)) ∷ Removed (at 0 1) ∷ [])

-- The host loses its focus twice: the window that had the focus is updated, and then there is no focus; the second time nothing is
-- reported.
abbrev pub HostLosesFocus : Type 0
HostLosesFocus =
    Runs (window_with_button 0) (ToHostFocus false ∷ ToHostFocus false ∷ []) (with_host (window_with_button 0) false)
    (NodeUpdated (seen_in (window_with_button 0) (at 0 0)) (seen_in (with_host (window_with_button 0) false) (at 0 0))
    ∷ handler.Event.FocusMoved (Some (seen_in (window_with_button 0) (at 0 0))) None ∷ [])
    (Accepted ∷ Accepted ∷ [])

abbrev pub label_button : UpdateData
label_button = record { nodes = (node 1, labelled_button) ∷ []; info = None; name = ROOT_NAME; focus = node 0 }

abbrev pub window_with_label : World
window_with_label = root_tree 0 ((at 0 0, window (1 ∷ [])) ∷ (at 0 1, labelled_button) ∷ [])

-- the button gets a label: one node in the update, which lists nothing and has depth 1; nothing is removed; one tree is known
abbrev pub LabelIsLittleWork : Type 0
LabelIsLittleWork =
    IsWorkOf (window_with_button 0) label_button window_with_label
    (record { named = 1; children = 0; removed = 0; depths = 1; known = 1 })
    × (allowance (record { named = 1; children = 0; removed = 0; depths = 1; known = 1 }) ≡ 80)
