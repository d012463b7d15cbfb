-- The results of calls on a node. A call that only tests whether a field is set needs no definition here.
use Rattle.std.specs.Prelude.{ℕ, length, count_by, List, [], find, filter, filter_map, Bool, false, not, cond, ◌&&◌, ◌||◌, Option, None, is_some, unwrap_or, option_and_then}
use Rattle.std.specs.Option.{option_map, option_or, option_map_or}
use Rattle.schema.specs.Actions.{has_action}
use Rattle.schema.specs.NodeData.{NodeData}
use Rattle.schema.specs.Roles.{same_role}
use Rattle.schema.specs.declared.NodeId.{NodeId}
use Rattle.schema.specs.declared.Role.{Role}
use Rattle.schema.specs.declared.actions.Action.{Action}
use Rattle.schema.specs.declared.actions.Action.TheVariants.{Click, Focus, Increment, Decrement}
use Rattle.schema.specs.declared.values.Live.{Live}
use Rattle.schema.specs.declared.values.Live.TheVariants.{Off}
use Rattle.schema.specs.declared.values.Orientation.{Orientation}
use Rattle.model.specs.declared.FullNodeId.{FullNodeId}
use Rattle.model.specs.declared.filters.FilterResult.{FilterResult}
use Rattle.model.specs.declared.filters.FilterResult.TheVariants.{ExcludeNode}
use Rattle.model.specs.World.{World, data_of}
use Rattle.model.specs.Lists.{ancestors}
use Rattle.model.specs.Frontier.{filtered_children}
use Rattle.model.specs.RoleClasses.{is_text_input, is_document, is_read_only_supported, is_read_only_by_default, is_item_like, is_container_with_selectable_children, is_expandable, is_link, usual_orientation}
use Rattle.model.specs.Upward.{field_at, says, nearest_given, inherited_field, says_upward, kin, is_before}
use Rattle.model.specs.FocusFound.{is_focused_in_tree}
use Rattle.model.specs.Covers.{is_included, filtered_parent, cover}

-- ---- of its data alone

abbrev pub orientation : NodeData → Option Orientation
orientation d = option_or d.orientation (usual_orientation d.role)

abbrev pub is_read_only : NodeData → Bool
is_read_only d = d.read_only || (is_read_only_by_default d.role || not (is_read_only_supported d.role))

abbrev pub is_read_only_or_disabled : NodeData → Bool
is_read_only_or_disabled d = is_read_only d || d.disabled

abbrev pub is_selectable : NodeData → Bool
is_selectable d = is_some d.selected && not d.disabled

abbrev pub supports_toggle : NodeData → Bool
supports_toggle d = is_some d.toggled

abbrev pub supports_expand_collapse : NodeData → Bool
supports_expand_collapse d = is_some d.has_popup || (is_some d.expanded || is_expandable d.role)

abbrev pub supports_url : NodeData → Bool
supports_url d = is_some d.url && is_link d.role

-- it has no text to fill in or to read, and can't be toggled, expanded or selected
abbrev pub is_only_clicked : NodeData → Bool
is_only_clicked d =
    not (is_text_input d.role || (is_document d.role || (supports_toggle d || (supports_expand_collapse d || is_some d.selected))))

-- ---- of the nodes above it

-- the live setting nearest above, or off
abbrev pub live : World → FullNodeId → Live
live w id = unwrap_or (inherited_field (λ d. d.live) w id) Off

abbrev pub is_italic : World → FullNodeId → Bool
is_italic w id = says_upward (λ d. d.italic) w id

-- the node has the action, or its filtered parent has it for its children
abbrev pub supports_action : Action → (FullNodeId → FilterResult) → World → FullNodeId → Bool
supports_action a f w id =
    says (λ d. has_action d.actions a) w id || option_map_or (says (λ d. has_action d.child_actions a) w) (filtered_parent f w id) false

abbrev pub is_clickable : (FullNodeId → FilterResult) → World → FullNodeId → Bool
is_clickable f w id = supports_action Click f w id

abbrev pub supports_increment : (FullNodeId → FilterResult) → World → FullNodeId → Bool
supports_increment f w id = supports_action Increment f w id

abbrev pub supports_decrement : (FullNodeId → FilterResult) → World → FullNodeId → Bool
supports_decrement f w id = supports_action Decrement f w id

abbrev pub is_focusable : (FullNodeId → FilterResult) → World → FullNodeId → Bool
is_focusable f w id = supports_action Focus f w id || is_focused_in_tree w id

abbrev pub is_invocable : (FullNodeId → FilterResult) → World → FullNodeId → Bool
is_invocable f w id = is_clickable f w id && says is_only_clicked w id

-- the ancestors that the filter includes, nearest first
abbrev pub included_ancestors : (FullNodeId → FilterResult) → World → FullNodeId → List FullNodeId
included_ancestors f w id = filter (λ a. is_included (f a)) (ancestors w id)

-- the size of the set, from the nearest of them that has one
abbrev pub size_of_set_from_container : (FullNodeId → FilterResult) → World → FullNodeId → Option ℕ
size_of_set_from_container f w id = nearest_given (λ d. d.size_of_set) w (included_ancestors f w id)

-- the nearest of them whose children can be selected
abbrev pub selection_container : (FullNodeId → FilterResult) → World → FullNodeId → Option FullNodeId
selection_container f w id = find (says (λ d. is_container_with_selectable_children d.role) w) (included_ancestors f w id)

-- ---- other nodes

-- the named nodes of its tree that exist, in order
abbrev pub ids_in_field : (NodeData → List NodeId) → World → FullNodeId → List FullNodeId
ids_in_field field w id = option_map_or (λ d. filter_map (kin w id) (field d)) (data_of w id) []

abbrev pub controls : World → FullNodeId → List FullNodeId
controls w id = ids_in_field (λ d. d.controls) w id

-- like f, but nodes that f includes and that are no items are excluded alone
abbrev pub item_filter : (FullNodeId → FilterResult) → World → FullNodeId → FilterResult
item_filter f w id = cond (is_included (f id) && not (says (λ d. is_item_like d.role) w id)) ExcludeNode (f id)

abbrev pub items : (FullNodeId → FilterResult) → World → FullNodeId → List FullNodeId
items f w id = filtered_children (item_filter f w) w id

-- ---- the set of a node

-- the set of a node of this role: the nodes of that role below its cover
abbrev pub set_by_role : Role → (FullNodeId → FilterResult) → World → FullNodeId → Option (List FullNodeId)
set_by_role role f w id = option_map (λ c. filter (says (λ d. same_role d.role role) w) (filtered_children f w c)) (cover f w id)

-- an item that the filter includes has a set, if it has a cover
abbrev pub set_of : (FullNodeId → FilterResult) → World → FullNodeId → Option (List FullNodeId)
set_of f w id = option_and_then (λ d. cond (is_item_like d.role && is_included (f id)) (set_by_role d.role f w id) None) (data_of w id)

-- the size as sent, or else that of its set
abbrev pub computed_size_of_set : (FullNodeId → FilterResult) → World → FullNodeId → Option ℕ
computed_size_of_set f w id = option_or (field_at (λ d. d.size_of_set) w id) (option_map length (set_of f w id))

-- the position as sent, or else the number of nodes of its set before it
abbrev pub computed_position_in_set : (FullNodeId → FilterResult) → World → FullNodeId → Option ℕ
computed_position_in_set f w id =
    option_or (field_at (λ d. d.position_in_set) w id) (option_map (λ set. count_by (λ m. is_before w m id) set) (set_of f w id))
