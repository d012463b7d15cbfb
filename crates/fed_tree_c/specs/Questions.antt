-- What is asked of a tree.
use Rattle.std.specs.Prelude.{◌≡◌, ℕ, ℤ, Bool, List, length, slice_get, is_some, Option, Some, None, MatchOption, map, option_map, option_and_then, if◌then◌else◌}
use Rattle.schema.specs.RoleNames.{role_text}
use Rattle.model.specs.World.{children, root_of}
use Rattle.model.specs.Forest.{place_of}
use Rattle.model.specs.Focus.{IsFocus}
use Rattle.model.specs.Frontier.{filtered_children}
use Rattle.model.specs.Covers.{filtered_parent}
use Rattle.model.specs.Filters.{filter_named}
use Rattle.model.specs.Geometry.{bounding_box, hit}
use Rattle.model.specs.Labels.{label_of}
use Rattle.model.specs.Values.{value_of}
use Rattle.model.specs.Queries.{text_in_runs}
use Rattle.model.specs.Ranges.{selection_anchor, selection_focus}
use Rattle.model.specs.declared.FullNodeId.{FullNodeId}
use Rattle.model.specs.declared.queries.Side.TheVariants.{Start}
use Rattle.fed_tree.specs.Fed.{Fed}
use Rattle.fed_tree.specs.Flags.{says}
use Rattle.fed_tree.specs.Reads.{read_of}
use Rattle.session.specs.Texts.{in_text, text_from}
use Rattle.fed_tree.specs.Texts.{place_at, place_after, place_found}
use Rattle.fed_tree_c.specs.Answers.{LOST, NOTHING}
use Rattle.fed_tree_c.specs.Numbers.{all_flags, all_filters, all_moves, answer_number, at_index, role_code}
use Rattle.fed_tree_c.specs.Records.{bounds_of, event_of, id_of, position_of}
use Rattle.fed_tree_c.specs.declared.records.AkBounds.{AkBounds}
use Rattle.fed_tree_c.specs.declared.records.AkEvent.{AkEvent}
use Rattle.fed_tree_c.specs.declared.records.AkId.{AkId}
use Rattle.fed_tree_c.specs.declared.records.AkPosition.{AkPosition}

abbrev pub role_in : FullNodeId → Fed → Option (List ℕ)
role_in id fed = read_of fed.world id (λ w node. Some (role_text node.role))

abbrev pub label_in : FullNodeId → Fed → Option (List ℕ)
label_in id fed = read_of fed.world id (λ w node. label_of w id)

abbrev pub value_in : FullNodeId → Fed → Option (List ℕ)
value_in id fed = read_of fed.world id (λ w node. value_of w id)

abbrev pub text_in : FullNodeId → Fed → Option (List ℕ)
text_in id fed = read_of fed.world id (λ w node. text_in_runs w id)

abbrev pub parent_in : FullNodeId → Fed → Option AkId
parent_in id fed = option_map id_of (read_of fed.world id (λ w node. option_map (λ place. place.0) (place_of w id)))

abbrev pub children_in : FullNodeId → Fed → Option (List AkId)
children_in id fed = option_map (map id_of) (read_of fed.world id (λ w node. Some (children w id)))

abbrev pub root_in : Fed → Option AkId
root_in fed = option_map id_of (option_and_then (λ w. root_of w 0) fed.world)

-- the focus of the tree of a handle; none where there is no tree
abbrev pub IsFocusIn : Option Fed → Option FullNodeId → Type 0
IsFocusIn handle found = MatchOption (option_and_then (λ fed. fed.world) handle) (found ≡ None) (λ w. IsFocus w found)

abbrev pub event_at : ℕ → Fed → Option AkEvent
event_at index fed = option_map event_of (option_and_then (λ events. slice_get events index) fed.events)

-- where there is no event with an index: there are fewer, or they are lost
abbrev pub lack_of_event : Fed → ℕ
lack_of_event fed = if is_some fed.events then NOTHING else LOST

abbrev pub event_count : Fed → Option ℕ
event_count fed = option_map length fed.events

-- ---- where a node lies, and what it is

abbrev pub role_number_in : FullNodeId → Fed → Option ℕ
role_number_in id fed = read_of fed.world id (λ w node. Some (role_code node.role))

abbrev pub bounds_in : FullNodeId → Fed → Option AkBounds
bounds_in id fed = option_map bounds_of (read_of fed.world id (λ w node. bounding_box w id))

-- the answer to the flag with this number
abbrev pub flag_in : ℕ → FullNodeId → Fed → Option Bool
flag_in number id fed = option_and_then (λ flag. read_of fed.world id (λ w node. Some (says flag w id node))) (slice_get all_flags number)

-- ---- by the filter with this number

abbrev pub answer_in : ℕ → FullNodeId → Fed → Option ℕ
answer_in number id fed =
    option_and_then (λ filter. read_of fed.world id (λ w node. Some (answer_number (filter_named filter w id))))
    (slice_get all_filters number)

abbrev pub hit_in : ℕ → ℤ → ℤ → FullNodeId → Fed → Option AkId
hit_in number x y id fed =
    option_map id_of
    (option_and_then (λ filter. read_of fed.world id (λ w node. hit (filter_named filter w) w id (record { x = x; y = y })))
    (slice_get all_filters number))

abbrev pub filtered_parent_in : ℕ → FullNodeId → Fed → Option AkId
filtered_parent_in number id fed =
    option_map id_of
    (option_and_then (λ filter. read_of fed.world id (λ w node. filtered_parent (filter_named filter w) w id))
    (slice_get all_filters number))

abbrev pub filtered_children_in : ℕ → FullNodeId → Fed → Option (List AkId)
filtered_children_in number id fed =
    option_map (map id_of)
    (option_and_then (λ filter. read_of fed.world id (λ w node. Some (filtered_children (filter_named filter w) w id)))
    (slice_get all_filters number))

-- ---- in the text of a node

abbrev pub position_in : ℕ → Bool → FullNodeId → Fed → Option AkPosition
position_in index is_end id fed = option_map position_of (read_of fed.world id (λ w node. in_text (place_at (at_index index is_end)) w id))

-- where the movement with this number ends
abbrev pub position_after : ℕ → ℕ → Bool → FullNodeId → Fed → Option AkPosition
position_after number index is_end id fed =
    option_map position_of
    (option_and_then (λ move. read_of fed.world id (λ w node. in_text (place_after (at_index index is_end) move) w id))
    (slice_get all_moves number))

abbrev pub selection_anchor_in : FullNodeId → Fed → Option AkPosition
selection_anchor_in id fed = option_map position_of (read_of fed.world id (λ w node. place_found w id (selection_anchor w id)))

abbrev pub selection_focus_in : FullNodeId → Fed → Option AkPosition
selection_focus_in id fed = option_map position_of (read_of fed.world id (λ w node. place_found w id (selection_focus w id)))

abbrev pub text_between_in : ℕ → ℕ → FullNodeId → Fed → Option (List ℕ)
text_between_in from to id fed =
    read_of fed.world id (λ w node. in_text (text_from (record { index = from; side = Start }) (record { index = to; side = Start })) w id)
