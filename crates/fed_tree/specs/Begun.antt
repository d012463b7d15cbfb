-- An update that is begun: what a call makes of it, and what is carried out where it is sent.
use Rattle.std.specs.Bool.{⊤}
use Rattle.std.specs.Prelude.{◌≡◌, ◌-◌, ℕ, Bool, false, List, [], ◌∷◌, length, slice_get, slice_set, Option, Some, None, MatchResult, option_and_then, Result, Ok, Err, if◌then◌else◌}
use Rattle.std.specs.Option.{option_map_or}
use Rattle.std.specs.Str.{is_utf8}
use Rattle.schema.specs.NodeData.{NodeData, empty_node}
use Rattle.schema.specs.UpdateData.{InfoData, UpdateData, update_data}
use Rattle.schema.specs.declared.NodeId.{NodeId}
use Rattle.schema.specs.declared.Role.{Role}
use Rattle.schema.specs.declared.TreeId.{TreeId}
use Rattle.schema.specs.declared.update.TreeUpdate.{TreeUpdate}
use Rattle.script_nodes.specs.Given.{Given, with_given}
use Rattle.script_nodes.specs.FieldNumbers.{numbered_fields}
use Rattle.script_lines.specs.Taking.{with_entry}
use Rattle.script_lines.specs.declared.reader.ScriptCommand.{ScriptCommand}
use Rattle.script_lines.specs.declared.reader.ScriptCommand.TheVariants as command
use Rattle.fed_tree.specs.Fed.{Fed}
use Rattle.fed_tree.specs.Feeding.{CarriesOutAll, stage_of}
use Rattle.fed_tree.specs.declared.feeding.FeedError.{FeedError}
use Rattle.fed_tree.specs.declared.updating.BuildError.{BuildError}
use Rattle.fed_tree.specs.declared.updating.BuildError.TheVariants.{OutOfPlace, NoSuch, Memory}

-- an update without nodes
abbrev pub bare_update : TreeId → NodeId → UpdateData
bare_update name focus = record { nodes = []; info = None; name = name; focus = focus }

-- ---- what a call makes of the update, or why it makes nothing of it

abbrev pub with_root : NodeId → UpdateData → Result UpdateData BuildError
with_root root u = Ok (record u { info = Some (record { root = root; toolkit_name = None; toolkit_version = None }) })

-- the tree info with a text; a root was said before
abbrev pub with_info_text : (InfoData → InfoData) → List ℕ → UpdateData → Result UpdateData BuildError
with_info_text gets text u =
    option_map_or (λ info. if is_utf8 text then Ok (record u { info = Some (gets info) }) else Err NoSuch) u.info (Err OutOfPlace)

abbrev pub with_toolkit_name : List ℕ → UpdateData → Result UpdateData BuildError
with_toolkit_name text u = with_info_text (λ info. record info { toolkit_name = Some text }) text u

abbrev pub with_toolkit_version : List ℕ → UpdateData → Result UpdateData BuildError
with_toolkit_version text u = with_info_text (λ info. record info { toolkit_version = Some text }) text u

-- one node more, which has a role alone
abbrev pub with_new_node : NodeId → Role → UpdateData → Result UpdateData BuildError
with_new_node id role u = Ok (with_entry u id (empty_node role))

-- the node that was begun last, with its id
abbrev pub last_entry : UpdateData → Option (NodeId × NodeData)
last_entry u = slice_get u.nodes (length u.nodes - 1)

-- with another in its place
abbrev pub with_last : NodeId × NodeData → UpdateData → UpdateData
with_last entry u = record u { nodes = slice_set u.nodes (length u.nodes - 1) entry }

-- a node whose field with this number gets this value
abbrev pub given_at : ℕ → Given → NodeData → Option NodeData
given_at number value n = option_and_then (λ which. with_given value which n) (slice_get numbered_fields number)

-- the node that was begun last gets it
abbrev pub with_value : ℕ → Given → UpdateData → Result UpdateData BuildError
with_value number value u =
    option_map_or (λ entry. option_map_or (λ n. Ok (with_last (entry.0, n) u)) (given_at number value entry.1) (Err NoSuch))
    (last_entry u) (Err OutOfPlace)

-- ---- whether that is done

-- an update becomes that; else why not is answered, and it is as it was
abbrev pub Changes : Result UpdateData BuildError → UpdateData → Result Unit BuildError → UpdateData → Type 0
Changes wanted old result new = MatchResult wanted (λ u. (result ≡ Ok tt) × (new ≡ u)) (λ why. (result ≡ Err why) × (new ≡ old))

-- the begun update becomes that, and all else is as it was; out of place where none is begun
abbrev pub Builds : (UpdateData → Result UpdateData BuildError) → Fed → Result Unit BuildError → Fed → Type 0
Builds change old result new =
    MatchResult (option_map_or change old.begun (Err OutOfPlace)) (λ u. (result ≡ Ok tt) × (new ≡ record old { begun = Some u }))
    (λ why. (result ≡ Err why) × (new ≡ old))

-- or there was no memory for it, and all is as it was
abbrev pub WantsMemory : {A : Type 0} → A → Result Unit BuildError → A → Type 0
WantsMemory old result new = (result ≡ Err Memory) × (new ≡ old)

-- why a text isn't taken
abbrev pub RefusesText : List ℕ → BuildError → Type 0
RefusesText text OutOfPlace = ⊥
RefusesText text NoSuch = is_utf8 text ≡ false
RefusesText text Memory = ⊤

-- ---- sending

-- this command is carried out, as if it had been fed alone
abbrev pub CarriesOutOne : Fed → ScriptCommand → Result Unit FeedError → Fed → Type 0
CarriesOutOne old c result new = CarriesOutAll (stage_of old) (c ∷ []) result (stage_of new) new.events

-- the begun update is carried out, and none is begun then; nothing happens where none is begun
abbrev pub Sends : Fed → Option (Result Unit FeedError) → Fed → Type 0
Sends old None new = (old.begun ≡ None) × (new ≡ old)
Sends old (Some result) new =
    (update : TreeUpdate) × (old.begun ≡ Some (update_data update)) × CarriesOutOne old (command.Update update) result new
    × (new.begun ≡ None)

-- the host's focus is set, and an update that is begun stays so
abbrev pub SetsHostFocus : Fed → Bool → Result Unit FeedError → Fed → Type 0
SetsHostFocus old focused result new = CarriesOutOne old (command.HostFocus focused) result new × (new.begun ≡ old.begun)
