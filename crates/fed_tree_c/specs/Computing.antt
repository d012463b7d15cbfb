-- What is asked of what the library computes.
use Rattle.std.specs.Prelude.{◌≡◌, ℕ, ℤ, ◌-ℤ◌, ◌&&◌, Bool, List, map, slice_get, Option, Some, None, MatchOption, is_some, option_and_then, option_map, if◌then◌else◌}
use Rattle.std.specs.Int.{saturate_signed, w64}
use Rattle.schema.specs.declared.TreeId.{TreeId}
use Rattle.schema.specs.declared.geometry.WideTranslation.{WideTranslation}
use Rattle.model.specs.declared.FullNodeId.{FullNodeId}
use Rattle.model.specs.World.{local_id_of, root_named, toolkit_name, toolkit_version}
use Rattle.model.specs.Filters.{filter_named}
use Rattle.model.specs.Focus.{IsActiveDialog}
use Rattle.model.specs.FocusFound.{effective_focus}
use Rattle.model.specs.Geometry.{transform}
use Rattle.model.specs.Views.{live, orientation, supports_action}
use Rattle.views.specs.Counted.{filtered_child}
use Rattle.fed_tree.specs.Computed.{count_of, list_of, relative_of}
use Rattle.fed_tree.specs.Fed.{Fed}
use Rattle.fed_tree.specs.Flags.{said_bits, says}
use Rattle.fed_tree.specs.Reads.{read_of}
use Rattle.fed_tree_c.specs.Answers.{CLOSED, GivesList, NOTHING, NO_SUCH, lack_at, lack_where}
use Rattle.fed_tree_c.specs.ChoiceNumbers.{live_number, orientation_number, toggled_number}
use Rattle.fed_tree_c.specs.Kinds.{action_said, all_states, all_counts, all_lists, all_relatives}
use Rattle.fed_tree_c.specs.Numbers.{all_filters, all_flags}
use Rattle.fed_tree_c.specs.Records.{id_of}
use Rattle.fed_tree_c.specs.Updates.{tree_said}
use Rattle.fed_tree_c.specs.declared.computed.AkPoint.{AkPoint}
use Rattle.fed_tree_c.specs.declared.kinds.State.{State}
use Rattle.fed_tree_c.specs.declared.kinds.State.TheVariants as state
use Rattle.fed_tree_c.specs.declared.records.AkId.{AkId}

-- ---- states, by the numbers that updates have for them

abbrev pub yes_number : Bool → ℕ
yes_number b = if b then 1 else 0

abbrev pub state_of : State → FullNodeId → Fed → Option ℕ
state_of state.Toggled id fed = option_map toggled_number (read_of fed.world id (λ w node. node.toggled))
state_of state.Selected id fed = option_map yes_number (read_of fed.world id (λ w node. node.selected))
state_of state.Orientation id fed = option_map orientation_number (read_of fed.world id (λ w node. orientation node))
state_of state.Live id fed = option_map live_number (read_of fed.world id (λ w node. Some (live w id)))

-- the state that has this number
abbrev pub state_in : ℕ → FullNodeId → Fed → Option ℕ
state_in number id fed = option_and_then (λ state. state_of state id fed) (slice_get all_states number)

-- ---- by the filter with this number

-- what is answered where nothing is found of a node that is asked about by two numbers, that of a kind of question and that of a filter
abbrev pub lack_by_two : {A : Type 0} → List A → ℕ → ℕ → FullNodeId → Fed → ℕ
lack_by_two table number filter = lack_where (is_some (slice_get table number) && is_some (slice_get all_filters filter))

abbrev pub count_in : ℕ → ℕ → FullNodeId → Fed → Option ℕ
count_in number filter id fed =
    option_and_then (λ count. option_and_then (λ f. read_of fed.world id
    (λ w node. count_of count (filter_named f w) w id)) (slice_get all_filters filter))
    (slice_get all_counts number)

abbrev pub relative_in : ℕ → ℕ → FullNodeId → Fed → Option AkId
relative_in number filter id fed =
    option_map id_of
    (option_and_then (λ relative. option_and_then (λ f. read_of fed.world id
    (λ w node. relative_of relative (filter_named f w) w id)) (slice_get all_filters filter))
    (slice_get all_relatives number))

abbrev pub child_at : ℕ → ℕ → FullNodeId → Fed → Option AkId
child_at filter index id fed =
    option_map id_of
    (option_and_then (λ f. read_of fed.world id (λ w node. filtered_child index (filter_named f w) w id)) (slice_get all_filters filter))

abbrev pub ids_listed : ℕ → ℕ → FullNodeId → Fed → Option (List FullNodeId)
ids_listed number filter id fed =
    option_and_then (λ list. option_and_then (λ f. read_of fed.world id
    (λ w node. Some (list_of list (filter_named f w) w id))) (slice_get all_filters filter))
    (slice_get all_lists number)

abbrev pub list_in : ℕ → ℕ → FullNodeId → Fed → Option (List AkId)
list_in number filter id fed = option_map (map id_of) (ids_listed number filter id fed)

abbrev pub action_in : ℕ → ℕ → FullNodeId → Fed → Option Bool
action_in number filter id fed =
    option_and_then (λ action. option_and_then (λ f. read_of fed.world id
    (λ w node. Some (supports_action action (filter_named f w) w id))) (slice_get all_filters filter))
    (action_said number)

-- of the flags whose bits are wanted, the bits of those that hold
abbrev pub flags_in : ℕ → FullNodeId → Fed → Option ℕ
flags_in wanted id fed = read_of fed.world id (λ w node. Some (said_bits (λ flag. says flag w id node) all_flags wanted))

-- ---- where a node lies

-- the shift, as numbers of 64 bits
abbrev pub shift_of : WideTranslation → AkPoint
shift_of by = record { x = saturate_signed w64 by.x; y = saturate_signed w64 by.y }

abbrev pub transform_in : FullNodeId → Fed → Option AkPoint
transform_in id fed = option_map shift_of (read_of fed.world id (λ w node. Some (transform w id)))

-- a point as something that is shifted by so much sees it
abbrev pub shifted_back : ℤ → ℤ → WideTranslation → AkPoint
shifted_back x y by = record { x = saturate_signed w64 (x -ℤ by.x); y = saturate_signed w64 (y -ℤ by.y) }

abbrev pub point_in : ℤ → ℤ → FullNodeId → Fed → Option AkPoint
point_in x y id fed = option_map (shifted_back x y) (read_of fed.world id (λ w node. Some (transform w id)))

-- ---- of the whole tree

abbrev pub declared_focus_in : Fed → Option AkId
declared_focus_in fed = option_map id_of (option_and_then effective_focus fed.world)

abbrev pub host_in : Fed → Option Bool
host_in fed = option_map (λ w. w.host_focused) fed.world

-- the active dialog of the tree of a handle; none where there is no tree
abbrev pub IsDialogIn : Option Fed → Option FullNodeId → Type 0
IsDialogIn handle found = MatchOption (option_and_then (λ fed. fed.world) handle) (found ≡ None) (λ w. IsActiveDialog w found)

abbrev pub toolkit_name_in : Fed → Option (List ℕ)
toolkit_name_in fed = option_map toolkit_name fed.world

abbrev pub toolkit_version_in : Fed → Option (List ℕ)
toolkit_version_in fed = option_and_then toolkit_version fed.world

-- the root of the tree that these bytes name
abbrev pub subtree_root_in : List ℕ → Fed → Option AkId
subtree_root_in bytes fed = option_map id_of
    (option_and_then (λ name. option_and_then (λ w. root_named w name) fed.world) (tree_said bytes))

-- the bytes of the UUID of a node's tree
abbrev pub tree_id_in : FullNodeId → Fed → Option (List ℕ)
tree_id_in id fed = option_map (λ named. named.1.0) (read_of fed.world id (λ w node. local_id_of w id))

-- where there is no such tree: the bytes name none, or it isn't there
abbrev pub lack_named : List ℕ → Fed → ℕ
lack_named bytes fed = if is_some (tree_said bytes) then NOTHING else NO_SUCH

-- the bytes are answered, for which no memory is needed
abbrev pub AnswersBytes : Option Fed → FullNodeId → ℕ → List ℕ → List ℕ → ℕ → ℕ → Type 0
AnswersBytes None id status old new old_length new_length = (status ≡ CLOSED) × (new ≡ old) × (new_length ≡ old_length)
AnswersBytes (Some fed) id status old new old_length new_length =
    GivesList (lack_at id fed) (tree_id_in id fed) status old new old_length new_length
