-- What C learns of an update that it builds call by call.
use Rattle.std.specs.Prelude.{◌≡◌, ◌⊎◌, ◌==◌, ℕ, Bool, List, length, Option, Some, None, MatchOption, is_some, Result, Ok, Err, if◌then◌else◌}
use Rattle.schema.specs.UpdateData.{UpdateData}
use Rattle.schema.specs.TreeIds.{root_tree_id}
use Rattle.schema.specs.declared.NodeId.{NodeId}
use Rattle.schema.specs.declared.Role.{Role}
use Rattle.schema.specs.declared.TreeId.{TreeId}
use Rattle.schema.specs.declared.values.TextPosition.{TextPosition}
use Rattle.fed_tree.specs.Begun.{Builds, Sends, SetsHostFocus, WantsMemory, bare_update, with_new_node}
use Rattle.fed_tree.specs.Fed.{Fed}
use Rattle.fed_tree.specs.declared.feeding.FeedError.{FeedError}
use Rattle.fed_tree.specs.declared.updating.BuildError.{BuildError}
use Rattle.fed_tree.specs.declared.updating.BuildError.TheVariants as build
use Rattle.fed_tree_c.specs.Answers.{DONE, NO_MEMORY, CLOSED, NO_SUCH, OUT_OF_PLACE}
use Rattle.fed_tree_c.specs.Numbers.{IsRoleNumbered}
use Rattle.fed_tree_c.specs.Stops.{status_of, stop_of}
use Rattle.fed_tree_c.specs.declared.records.AkStop.{AkStop}

abbrev pub node_numbered : ℕ → NodeId
node_numbered number = record { 0 = number }

-- so many characters of a run are before it
abbrev pub place_numbered : ℕ → ℕ → TextPosition
place_numbered run character = record { node = node_numbered run; character_index = character }

-- the tree that these bytes name: none of them the root tree, and sixteen that with this id
abbrev pub tree_said : List ℕ → Option TreeId
tree_said bytes = if length bytes == 0 then Some root_tree_id else if length bytes == 16 then Some (record { 0 = bytes }) else None

-- an update of that tree is begun; else nothing has changed
abbrev pub BeginsHeld : List ℕ → ℕ → Option Fed → ℕ → Option Fed → Type 0
BeginsHeld bytes focus None status new = (status ≡ CLOSED) × (new ≡ None)
BeginsHeld bytes focus (Some old) status new =
    MatchOption (tree_said bytes) ((status ≡ NO_SUCH) × (new ≡ Some old))
    (λ name. (status ≡ DONE) × (new ≡ Some (record old { begun = Some (bare_update name (node_numbered focus)) })))

abbrev pub build_status : Result Unit BuildError → ℕ
build_status (Ok done) = DONE
build_status (Err build.OutOfPlace) = OUT_OF_PLACE
build_status (Err build.NoSuch) = NO_SUCH
build_status (Err build.Memory) = NO_MEMORY

-- the begun update becomes that, or there was no memory for it
abbrev pub BuildsHeld : (UpdateData → Result UpdateData BuildError) → Option Fed → ℕ → Option Fed → Type 0
BuildsHeld change None status new = (status ≡ CLOSED) × (new ≡ None)
BuildsHeld change (Some old) status new =
    (fed : Fed) × (result : Result Unit BuildError) × (WantsMemory old result fed ⊎ Builds change old result fed)
    × (status ≡ build_status result) × (new ≡ Some fed)

-- a number means nothing, and nothing has changed
abbrev pub LeavesHeld : Option Fed → ℕ → Option Fed → Type 0
LeavesHeld old status new = (status ≡ (if is_some old then NO_SUCH else CLOSED)) × (new ≡ old)

-- a node is begun, if there is a role with this number
abbrev pub BeginsNodeHeld : ℕ → NodeId → Option Fed → ℕ → Option Fed → Type 0
BeginsNodeHeld number id old status new =
    (found : Option Role) × IsRoleNumbered number found
    × MatchOption found (LeavesHeld old status new) (λ role. BuildsHeld (with_new_node id role) old status new)

-- the begun update is carried out, and what became of it is answered, if one is begun
abbrev pub SendsHeld : Option Fed → ℕ → Option Fed → AkStop → AkStop → Type 0
SendsHeld None status new old_stop new_stop = (status ≡ CLOSED) × (new ≡ None) × (new_stop ≡ old_stop)
SendsHeld (Some old) status new old_stop new_stop =
    (fed : Fed) × (sent : Option (Result Unit FeedError)) × (new ≡ Some fed) × Sends old sent fed
    × MatchOption sent ((status ≡ OUT_OF_PLACE) × (new_stop ≡ old_stop))
    (λ result. (status ≡ status_of result) × (new_stop ≡ stop_of result))

-- the host's focus is set
abbrev pub SetsHostFocusHeld : Option Fed → Bool → ℕ → Option Fed → Type 0
SetsHostFocusHeld None focused status new = (status ≡ CLOSED) × (new ≡ None)
SetsHostFocusHeld (Some old) focused status new =
    (fed : Fed) × (result : Result Unit FeedError) × (new ≡ Some fed) × SetsHostFocus old focused result fed
    × (status ≡ status_of result)
