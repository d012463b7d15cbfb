-- Small interfaces, and the answers of filters and views for them.
use Rattle.std.specs.Prelude.{◌≡◌, ◌==◌, ℕ, ℤ, pos, negsuc, List, [], ◌∷◌, map, replicate, Bool, true, false, cond, Option, Some, None}
use Rattle.std.specs.FinMap.{from_sorted}
use Rattle.schema.specs.Actions.{with_action}
use Rattle.schema.specs.NodeData.{NodeData, empty_node}
use Rattle.schema.specs.declared.TreeId.{TreeId}
use Rattle.schema.specs.declared.Role.TheVariants.{Unknown, Window, Document, GenericContainer, Label, ScrollView, Button, ListBox, ListBoxOption, TabList, TreeItem, Link, Paragraph, TextInput, TextRun}
use Rattle.schema.specs.declared.actions.Action.TheVariants.{Click}
use Rattle.schema.specs.declared.geometry.Rect.{Rect}
use Rattle.schema.specs.declared.values.Live.TheVariants.{Off, Polite}
use Rattle.schema.specs.declared.values.Orientation.TheVariants.{Horizontal, Vertical}
use Rattle.model.specs.declared.FullNodeId.{FullNodeId}
use Rattle.model.specs.declared.filters.FilterResult.{FilterResult}
use Rattle.model.specs.declared.filters.FilterResult.TheVariants.{Include, ExcludeNode, ExcludeSubtree}
use Rattle.model.specs.World.{ROOT_NAME, World, Tree}
use Rattle.model.specs.Frontier.{filtered_children}
use Rattle.model.specs.ListExamples.{parent}
use Rattle.model.specs.Examples.{at, graft, name}
use Rattle.model.specs.FocusFound.{is_focused}
use Rattle.model.specs.Covers.{filtered_parent, following_filtered_siblings, preceding_filtered_siblings}
use Rattle.model.specs.Geometry.{bounding_box, hit}
use Rattle.model.specs.Filters.{common_filter, common_filter_with_root_exception, all_filter}
use Rattle.model.specs.Views.{orientation, is_read_only, is_read_only_or_disabled, is_selectable, supports_expand_collapse, supports_url, live, is_clickable, is_invocable, size_of_set_from_container, selection_container, controls, items, computed_size_of_set, computed_position_in_set}

-- the world of these names, trees and nodes
abbrev pub written : List TreeId → List (ℕ × Tree) → List (FullNodeId × NodeData) → Bool → World
written known ts es host =
    record { known = known; trees = from_sorted ts; nodes = from_sorted es; toolkit = (None, None); host_focused = host }

-- at 0 is the root
abbrev pub root_tree : ℕ → List (ℕ × Tree)
root_tree focus = (0, record { root = record { 0 = 0 }; focus = record { 0 = focus } }) ∷ []

-- one tree of these nodes; if a focus is given, the host is focused
abbrev pub focus_at : Option ℕ → ℕ
focus_at None = 0
focus_at (Some n) = n

abbrev pub has_host : Option ℕ → Bool
has_host None = false
has_host (Some n) = true

abbrev pub one_tree : Option ℕ → List (FullNodeId × NodeData) → World
one_tree focus es = written (ROOT_NAME ∷ []) (root_tree (focus_at focus)) es (has_host focus)

abbrev pub hidden : NodeData → NodeData
hidden d = record d { hidden = true }

abbrev pub rect : ℤ → ℤ → ℤ → ℤ → Rect
rect x0 y0 x1 y1 = record { x0 = x0; y0 = y0; x1 = x1; y1 = y1 }

-- ---- the common filter

-- a window and a hidden button
abbrev pub hidden_button : List (FullNodeId × NodeData)
hidden_button = (at 0 0, parent Window (1 ∷ [])) ∷ (at 0 1, hidden (parent Button [])) ∷ []

-- a container that is the root, and a button
abbrev pub bare : List (FullNodeId × NodeData)
bare = (at 0 0, parent GenericContainer (1 ∷ [])) ∷ (at 0 1, parent Button []) ∷ []

abbrev pub hidden_root : List (FullNodeId × NodeData)
hidden_root = (at 0 0, hidden (parent GenericContainer (1 ∷ []))) ∷ (at 0 1, parent Button []) ∷ []

-- a text input with a run
abbrev pub input : List (FullNodeId × NodeData)
input = (at 0 0, parent TextInput (1 ∷ [])) ∷ (at 0 1, parent TextRun []) ∷ []

-- a hidden window, in it a container
abbrev pub hidden_window : List (FullNodeId × NodeData)
hidden_window = (at 0 0, hidden (parent Window (1 ∷ []))) ∷ (at 0 1, parent GenericContainer []) ∷ []

-- a window with two grafts of trees that aren't present, one of them no container
abbrev pub empty_grafts : List (FullNodeId × NodeData)
empty_grafts =
    (at 0 0, parent Window (1 ∷ 2 ∷ [])) ∷ (at 0 1, graft (name 1))
    ∷ (at 0 2, record (parent Unknown []) { tree_id = Some (record { 0 = replicate 16 1 }) }) ∷ []

-- a list box that names its option, or itself, as its active descendant
abbrev pub choice : ℕ → List (FullNodeId × NodeData)
choice active =
    (at 0 0, parent Window (1 ∷ [])) ∷ (at 0 1, record (parent ListBox (2 ∷ [])) { active_descendant = Some (record { 0 = active }) })
    ∷ (at 0 2, parent Unknown []) ∷ []

pub record CommonAnswers : Type 0 where
  pub hidden : common_filter (one_tree None hidden_button) (at 0 1) ≡ ExcludeSubtree
  pub hidden_with_focus : common_filter (one_tree (Some 1) hidden_button) (at 0 1) ≡ Include
  pub container : common_filter (one_tree None bare) (at 0 0) ≡ ExcludeNode
  pub below_container : common_filter (one_tree None bare) (at 0 1) ≡ Include
  pub container_as_root : common_filter_with_root_exception (one_tree None bare) (at 0 0) ≡ Include
  pub root_hidden : common_filter (one_tree None hidden_root) (at 0 0) ≡ ExcludeSubtree
  pub below_hidden : common_filter (one_tree None hidden_root) (at 0 1) ≡ ExcludeSubtree
  pub root_without_focus : common_filter (one_tree (Some 1) hidden_root) (at 0 0) ≡ ExcludeSubtree
  pub focus_below_hidden : common_filter (one_tree (Some 1) hidden_root) (at 0 1) ≡ Include
  pub run : common_filter (one_tree None input) (at 0 1) ≡ ExcludeNode
  pub container_below_hidden : common_filter (one_tree None hidden_window) (at 0 1) ≡ ExcludeSubtree
  pub container_graft : common_filter (one_tree None empty_grafts) (at 0 1) ≡ ExcludeNode
  pub other_graft : common_filter (one_tree None empty_grafts) (at 0 2) ≡ ExcludeNode
  pub graft_is_empty : filtered_children (common_filter (one_tree None empty_grafts)) (one_tree None empty_grafts) (at 0 1) ≡ []
  pub named_option : is_focused (one_tree (Some 1) (choice 2)) (at 0 2) ≡ true
  pub names_option : is_focused (one_tree (Some 1) (choice 2)) (at 0 1) ≡ false
  pub names_itself : is_focused (one_tree (Some 1) (choice 1)) (at 0 1) ≡ false

-- ---- across grafts

-- a window with a (graft (name 1)), whose tree is a document with a button; both trees declare their at 1 focused
abbrev pub pushed_nodes : List (FullNodeId × NodeData)
pushed_nodes =
    (at 0 0, parent Window (1 ∷ [])) ∷ (at 0 1, graft (name 1)) ∷ (at 1 0, parent Document (1 ∷ [])) ∷ (at 1 1, parent Button []) ∷ []

abbrev pub pushed_trees : List (ℕ × Tree)
pushed_trees =
    (0, record { root = record { 0 = 0 }; focus = record { 0 = 1 } })
    ∷ (1, record { root = record { 0 = 0 }; focus = record { 0 = 1 } }) ∷ []

abbrev pub pushed : World
pushed = written (ROOT_NAME ∷ name 1 ∷ []) pushed_trees pushed_nodes true

pub record PushedLists : Type 0 where
  pub of_window : filtered_children (common_filter pushed) pushed (at 0 0) ≡ at 1 0 ∷ []
  pub of_document : filtered_children (common_filter pushed) pushed (at 1 0) ≡ at 1 1 ∷ []
  pub focused : map (is_focused pushed) (at 0 0 ∷ at 0 1 ∷ at 1 0 ∷ at 1 1 ∷ []) ≡ false ∷ false ∷ false ∷ true ∷ []

-- ---- clipping

abbrev pub strip : ℤ → ℤ → NodeData
strip top bottom = record (parent Unknown []) { bounds = Some (rect (pos 0) top (pos 30) bottom) }

-- a clipping view of height 30; 1 to 3 end above it or at its top, 5 to 7 lie in it, 9 to 11 begin at its bottom or below it; 4 and 8
-- are hidden
abbrev pub scrolled : List (FullNodeId × NodeData)
scrolled = (
  at 0 0,
  record
      (parent ScrollView (1 ∷ 2 ∷ 3 ∷ 4 ∷ 5 ∷ 6 ∷ 7 ∷ 8 ∷ 9 ∷ 10 ∷ 11 ∷ [])) {
        clips_children = true;
        bounds = Some
            (rect (pos 0) (pos 0) (pos 30) (pos 30));
      },
)
    ∷ (at 0 1, strip (negsuc 29) (negsuc 19)) ∷ (at 0 2, strip (negsuc 19) (negsuc 9)) ∷ (at 0 3, strip (negsuc 9) (pos 0))
    ∷ (at 0 4, hidden (parent Unknown []))
    ∷ (at 0 5, strip (pos 0) (pos 10)) ∷ (at 0 6, strip (pos 10) (pos 20)) ∷ (at 0 7, strip (pos 20) (pos 30))
    ∷ (at 0 8, hidden (parent Unknown []))
    ∷ (at 0 9, strip (pos 30) (pos 40)) ∷ (at 0 10, strip (pos 40) (pos 50)) ∷ (at 0 11, strip (pos 50) (pos 60)) ∷ []

pub record ClippedAnswers : Type 0 where
  pub each : map (λ n. common_filter (one_tree None scrolled) (at 0 n)) (1 ∷ 2 ∷ 3 ∷ 4 ∷ 5 ∷ 6 ∷ 7 ∷ 8 ∷ 9 ∷ 10 ∷ 11 ∷ [])
      ≡ ExcludeSubtree ∷ ExcludeSubtree ∷ Include ∷ ExcludeSubtree ∷ Include ∷ Include ∷ Include ∷ ExcludeSubtree ∷ Include
      ∷ ExcludeSubtree ∷ ExcludeSubtree ∷ []

-- a clipping view, in it a container, in it a strip far below the view, in it a strip that lies in the view
abbrev pub nested : List (FullNodeId × NodeData)
nested = (at 0 0, record (parent ScrollView (1 ∷ [])) { clips_children = true; bounds = Some (rect (pos 0) (pos 0) (pos 30) (pos 30)) })
    ∷ (at 0 1, parent GenericContainer (2 ∷ []))
    ∷ (at 0 2, record (parent Unknown (3 ∷ 4 ∷ [])) { bounds = Some (rect (pos 0) (pos 50) (pos 30) (pos 60)) })
    ∷ (at 0 3, strip (pos 10) (pos 20)) ∷ (at 0 4, parent GenericContainer (5 ∷ [])) ∷ (at 0 5, strip (pos 10) (pos 20)) ∷ []

-- a clipping view, in it a node without a rectangle
abbrev pub unboxed : List (FullNodeId × NodeData)
unboxed =
    (at 0 0, record (parent ScrollView (1 ∷ [])) { clips_children = true; bounds = Some (rect (pos 0) (pos 0) (pos 30) (pos 30)) })
    ∷ (at 0 1, parent Unknown []) ∷ []

-- what is in a clipped node is cut off with it, but a container in it is excluded alone, and its contents are judged again
pub record NestedAnswers : Type 0 where
  pub each : map (λ n. common_filter (one_tree None nested) (at 0 n)) (0 ∷ 1 ∷ 2 ∷ 3 ∷ 4 ∷ 5 ∷ [])
      ≡ Include ∷ ExcludeNode ∷ ExcludeSubtree ∷ ExcludeSubtree ∷ ExcludeNode ∷ Include ∷ []
  pub without_box : common_filter (one_tree None unboxed) (at 0 1) ≡ Include

-- ---- filtered lists

-- a root with children 1 to 4, and 5 below 3
abbrev pub four : List (FullNodeId × NodeData)
four =
    (at 0 0, parent Window (1 ∷ 2 ∷ 3 ∷ 4 ∷ [])) ∷ (at 0 1, parent Unknown []) ∷ (at 0 2, parent Unknown [])
    ∷ (at 0 3, parent Unknown (5 ∷ [])) ∷ (at 0 4, parent Unknown []) ∷ (at 0 5, parent Unknown []) ∷ []

-- excludes 2 alone, and 3 with its subtree
abbrev pub without_two_and_three : FullNodeId → FilterResult
without_two_and_three id = cond (id.node.0 == 2) ExcludeNode (cond (id.node.0 == 3) ExcludeSubtree Include)

-- a root with children 1 to 4; 5 and 6 below 2, 7 and 8 below 4
abbrev pub pairs : List (FullNodeId × NodeData)
pairs =
    (at 0 0, parent Window (1 ∷ 2 ∷ 3 ∷ 4 ∷ [])) ∷ (at 0 1, parent Unknown []) ∷ (at 0 2, parent Unknown (5 ∷ 6 ∷ []))
    ∷ (at 0 3, parent Unknown []) ∷ (at 0 4, parent Unknown (7 ∷ 8 ∷ []))
    ∷ (at 0 5, parent Unknown []) ∷ (at 0 6, parent Unknown []) ∷ (at 0 7, parent Unknown []) ∷ (at 0 8, parent Unknown []) ∷ []

-- excludes 2 alone, and 4 with its subtree
abbrev pub without_two_and_four : FullNodeId → FilterResult
without_two_and_four id = cond (id.node.0 == 2) ExcludeNode (cond (id.node.0 == 4) ExcludeSubtree Include)

abbrev pub after : ℕ → List FullNodeId
after n = following_filtered_siblings without_two_and_four (one_tree None pairs) (at 0 n)

abbrev pub before : ℕ → List FullNodeId
before n = preceding_filtered_siblings without_two_and_four (one_tree None pairs) (at 0 n)

pub record FilteredLists : Type 0 where
  pub shown : filtered_children without_two_and_three (one_tree None four) (at 0 0) ≡ at 0 1 ∷ at 0 4 ∷ []
  pub after_first : after 1 ≡ at 0 5 ∷ at 0 6 ∷ at 0 3 ∷ []
  pub after_inner : after 5 ≡ at 0 6 ∷ at 0 3 ∷ []
  pub after_left_out : after 2 ≡ at 0 3 ∷ []
  pub before_third : before 3 ≡ at 0 6 ∷ at 0 5 ∷ at 0 1 ∷ []
  pub before_left_out : before 2 ≡ at 0 1 ∷ []
  pub after_cut_off : (after 7 ≡ []) × (after 8 ≡ [])
  pub before_cut_off : (before 7 ≡ []) × (before 8 ≡ [])
  pub parent_of_inner : filtered_parent without_two_and_four (one_tree None pairs) (at 0 5) ≡ Some (at 0 0)
  pub parent_of_cut_off : filtered_parent without_two_and_four (one_tree None pairs) (at 0 7) ≡ Some (at 0 0)

-- ---- geometry

-- a window of 100 by 100, in it a container that is moved, in it a label
abbrev pub placed : List (FullNodeId × NodeData)
placed = (at 0 0, record (parent Window (1 ∷ [])) { bounds = Some (rect (pos 0) (pos 0) (pos 100) (pos 100)) })
    ∷ (at 0 1, record (parent GenericContainer (2 ∷ [])) { transform = Some (record { x = pos 10; y = pos 40 }) })
    ∷ (at 0 2, record (parent Label []) { bounds = Some (rect (pos 10) (pos 10) (pos 90) (pos 30)) }) ∷ []

abbrev pub hit_at : ℤ → ℤ → Option FullNodeId
hit_at x y = hit (common_filter (one_tree None placed)) (one_tree None placed) (at 0 0) (record { x = x; y = y })

pub record PlacedViews : Type 0 where
  pub box : bounding_box (one_tree None placed) (at 0 2) ≡ Some (record { x0 = pos 20; y0 = pos 50; x1 = pos 100; y1 = pos 70 })
  pub label : hit_at (pos 20) (pos 50) ≡ Some (at 0 2)
  pub window : hit_at (pos 50) (pos 20) ≡ Some (at 0 0)
  pub nothing : hit_at (pos 100) (pos 70) ≡ None

-- a rectangle from right to left
abbrev pub reversed : List (FullNodeId × NodeData)
reversed = (at 0 0, record (parent Window []) { bounds = Some (rect (pos 30) (pos 0) (pos 0) (pos 10)) }) ∷ []

-- a window that is shifted itself
abbrev pub shifted : List (FullNodeId × NodeData)
shifted = (
  at 0 0,
  record
      (parent Window []) {
        bounds = Some (rect (pos 0) (pos 0) (pos 10) (pos 10));
        transform = Some
            (record { x = pos 5; y = negsuc 4 });
      },
) ∷ []

-- a window, in it a container with a rectangle, and a hidden button with one, in that a label
abbrev pub covered : List (FullNodeId × NodeData)
covered =
    (at 0 0, record (parent Window (1 ∷ 2 ∷ [])) { bounds = Some (rect (pos 0) (pos 0) (pos 30) (pos 30)) })
    ∷ (at 0 1, record (parent GenericContainer []) { bounds = Some (rect (pos 0) (pos 0) (pos 30) (pos 30)) })
    ∷ (at 0 2, record (hidden (parent Button (3 ∷ []))) { bounds = Some (rect (pos 0) (pos 0) (pos 30) (pos 30)) })
    ∷ (at 0 3, record (parent Label []) { bounds = Some (rect (pos 0) (pos 0) (pos 30) (pos 30)) }) ∷ []

-- includes all but the button
abbrev pub without_button : FullNodeId → FilterResult
without_button id = cond (id.node.0 == 2) ExcludeSubtree Include

pub record CoveredViews : Type 0 where
  pub box_of_reversed : bounding_box (one_tree None reversed) (at 0 0) ≡ Some (record { x0 = pos 0; y0 = pos 0; x1 = pos 30; y1 = pos 10 })
  pub box_of_shifted : bounding_box (one_tree None shifted) (at 0 0) ≡ Some (record { x0 = pos 5; y0 = negsuc 4; x1 = pos 15; y1 = pos 5 })
  pub reversed_has_no_point : hit (all_filter (one_tree None reversed)) (one_tree None reversed) (at 0 0)
      (record { x = pos 10; y = pos 5 }) ≡ None
  pub container_is_not_hit : hit (common_filter (one_tree None covered)) (one_tree None covered) (at 0 0)
      (record { x = pos 10; y = pos 5 }) ≡ Some (at 0 0)
  pub cut_off_is_not_hit : hit without_button (one_tree None covered) (at 0 0) (record { x = pos 10; y = pos 5 }) ≡ Some (at 0 1)
  pub hit_from_below : hit (all_filter (one_tree None placed)) (one_tree None placed) (at 0 1) (record { x = pos 10; y = pos 10 })
      ≡ Some (at 0 2)

-- ---- views

-- a window, in it a container that is a live region, in it a label
abbrev pub polite : List (FullNodeId × NodeData)
polite =
    (at 0 0, parent Window (1 ∷ [])) ∷ (at 0 1, record (parent GenericContainer (2 ∷ [])) { live = Some Polite })
    ∷ (at 0 2, parent Label []) ∷ []

-- a window whose children can be clicked, in it a container, in it a button without actions
abbrev pub click_below : List (FullNodeId × NodeData)
click_below =
    (at 0 0, record (parent Window (1 ∷ [])) { child_actions = with_action 0 Click }) ∷ (at 0 1, parent GenericContainer (2 ∷ []))
    ∷ (at 0 2, parent Button []) ∷ []

pub record UpwardViews : Type 0 where
  pub live : map (λ n. live (one_tree None polite) (at 0 n)) (0 ∷ 1 ∷ 2 ∷ []) ≡ Off ∷ Polite ∷ Polite ∷ []
  pub clicked : is_clickable (common_filter (one_tree None click_below)) (one_tree None click_below) (at 0 2) ≡ true
  pub not_clicked : is_clickable (all_filter (one_tree None click_below)) (one_tree None click_below) (at 0 2) ≡ false
  pub invocable : is_invocable (common_filter (one_tree None click_below)) (one_tree None click_below) (at 0 2) ≡ true
  pub window_is_not_clicked : is_clickable (common_filter (one_tree None click_below)) (one_tree None click_below) (at 0 0) ≡ false

-- ---- sets

-- a list box with option 2, a container with option 4, label 5 and option 6
abbrev pub options : NodeData → NodeData → List (FullNodeId × NodeData)
options second sixth =
    (at 0 0, parent Window (1 ∷ [])) ∷ (at 0 1, parent ListBox (2 ∷ 3 ∷ 5 ∷ 6 ∷ [])) ∷ (at 0 2, second)
    ∷ (at 0 3, parent GenericContainer (4 ∷ [])) ∷ (at 0 4, parent ListBoxOption [])
    ∷ (at 0 5, parent Label []) ∷ (at 0 6, sixth) ∷ []

abbrev pub shown_options : World
shown_options = one_tree None (options (parent ListBoxOption []) (parent ListBoxOption []))

abbrev pub hidden_option : World
hidden_option = one_tree None (options (hidden (parent ListBoxOption [])) (parent ListBoxOption []))

abbrev pub sized_option : World
sized_option = one_tree None (options (parent ListBoxOption []) (record (parent ListBoxOption []) { size_of_set = Some 10 }))

-- the size of a node's set and its position in it
abbrev pub counted : World → ℕ → Option ℕ × Option ℕ
counted w n = (computed_size_of_set (common_filter w) w (at 0 n), computed_position_in_set (common_filter w) w (at 0 n))

pub record CountedSets : Type 0 where
  pub inner : counted shown_options 4 ≡ (Some 3, Some 1)
  pub last : counted shown_options 6 ≡ (Some 3, Some 2)
  pub label : counted shown_options 5 ≡ (None, None)
  pub inner_without_hidden : counted hidden_option 4 ≡ (Some 2, Some 0)
  pub hidden : counted hidden_option 2 ≡ (None, None)
  pub sent_size : counted sized_option 6 ≡ (Some 10, Some 2)

-- ---- of a node's own data

pub record OwnViews : Type 0 where
  pub list_box : orientation (empty_node ListBox) ≡ Some Vertical
  pub tab_list : orientation (empty_node TabList) ≡ Some Horizontal
  pub given_first : orientation (record (empty_node ListBox) { orientation = Some Horizontal }) ≡ Some Horizontal
  pub button : orientation (empty_node Button) ≡ None
  pub input : is_read_only (empty_node TextInput) ≡ false
  pub flagged_input : is_read_only (record (empty_node TextInput) { read_only = true }) ≡ true
  pub plain_button : is_read_only (empty_node Button) ≡ true
  pub document : is_read_only (empty_node Document) ≡ true
  pub disabled_input : is_read_only_or_disabled (record (empty_node TextInput) { disabled = true }) ≡ true
  pub selected : is_selectable (record (empty_node Button) { selected = Some false }) ≡ true
  pub disabled : is_selectable (record (empty_node Button) { selected = Some false; disabled = true }) ≡ false
  pub tree_item : supports_expand_collapse (empty_node TreeItem) ≡ true
  pub expanded : supports_expand_collapse (record (empty_node Button) { expanded = Some false }) ≡ true
  pub link_without_url : supports_url (empty_node Link) ≡ false
  pub url : supports_url (record (empty_node Link) { url = Some [] }) ≡ true
  pub button_with_url : supports_url (record (empty_node Button) { url = Some [] }) ≡ false

-- ---- of lists and containers

-- a list box of three, in it an option, and a container with an option of a size; the box has them for control
abbrev pub boxed : List (FullNodeId × NodeData)
boxed =
    (at 0 0, parent Window (1 ∷ []))
    ∷ (
      at 0 1,
      record
          (parent ListBox (2 ∷ 3 ∷ [])) { size_of_set = Some 3; controls = record { 0 = 4 } ∷ record { 0 = 9 } ∷ record { 0 = 2 } ∷ [] },
    )
    ∷ (at 0 2, parent ListBoxOption []) ∷ (at 0 3, record (parent GenericContainer (4 ∷ 5 ∷ [])) { size_of_set = Some 7 })
    ∷ (at 0 4, parent ListBoxOption []) ∷ (at 0 5, parent Paragraph (6 ∷ []))
    ∷ (at 0 6, parent ListBoxOption []) ∷ []

abbrev pub boxes : World
boxes = one_tree None boxed

pub record BoxedViews : Type 0 where
  pub items_by_all : items (all_filter boxes) boxes (at 0 1) ≡ at 0 2 ∷ at 0 4 ∷ at 0 6 ∷ []
  pub container : selection_container (common_filter boxes) boxes (at 0 4) ≡ Some (at 0 1)
  pub no_container : selection_container (common_filter boxes) boxes (at 0 1) ≡ None
  pub size : size_of_set_from_container (common_filter boxes) boxes (at 0 4) ≡ Some 3
  pub size_by_all : size_of_set_from_container (all_filter boxes) boxes (at 0 4) ≡ Some 7
  pub own_size_is_not_asked : size_of_set_from_container (all_filter boxes) boxes (at 0 1) ≡ None
  pub controlled : controls boxes (at 0 1) ≡ at 0 4 ∷ at 0 2 ∷ []
