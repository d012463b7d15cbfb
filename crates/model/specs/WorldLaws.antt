-- What is proved of worlds, updates, states and focus.
use Rattle.std.specs.Prelude.{◌≡◌, ◌≢◌, ℕ, Bool, Option, Some, None, ◌⊎◌, ◌↔◌}
use Rattle.std.specs.FinMap.{get}
use Rattle.schema.specs.declared.TreeId.{TreeId}
use Rattle.model.specs.declared.FullNodeId.{FullNodeId}
use Rattle.model.specs.World.{World, Tree, IsNode, graft_name, index_of, name_of, root_of, local_id_of, Place, StandsAt}
use Rattle.model.specs.Focus.{IsEffectiveFocus, IsFocusId, IsFocus, IsFocusedNode, IsActiveDialog}
use Rattle.model.specs.Update.{UpdateData, InfoData, Fault, Stands, KeepsRules, IsRebuild, IsAccepted, index_for, merged_world}
use Rattle.model.specs.State.{IsState, IsLater, empty_world, with_host, idle_update}
use Rattle.model.specs.Run.{Begins}

-- a merged world has one rebuild
abbrev pub RebuildIsOne : Type 0
RebuildIsOne = (m a b : World) → IsRebuild m a → IsRebuild m b → a ≡ b

-- each world has one
abbrev pub RebuildIsThere : Type 0
RebuildIsThere = (m : World) → (new : World) × IsRebuild m new

-- an update is accepted and leaves some world, or breaks some rule
abbrev pub AcceptedOrFault : Type 0
AcceptedOrFault = (old : World) (u : UpdateData) → ((new : World) × IsAccepted old u new) ⊎ ((f : Fault) × Stands old u f)

-- the rules of an update are kept exactly if none is broken
abbrev pub RulesOrFault : Type 0
RulesOrFault = (old : World) (u : UpdateData) → KeepsRules old u ↔ ((f : Fault) → ¬ (Stands old u f))

-- a state breaks no rule and is its own rebuild
abbrev pub StateIsItsOwnRebuild : Type 0
StateIsItsOwnRebuild =
    (w : World) (t : Tree) → IsState w → get w.trees 0 ≡ Some t
    → (merged_world w (idle_update t.focus) ≡ w) × IsAccepted w (idle_update t.focus) w

-- an accepted update of a state leaves a state
abbrev pub UpdateLeavesState : Type 0
UpdateLeavesState = (old : World) (u : UpdateData) (new : World) → IsState old → IsAccepted old u new → IsState new

-- and so does a first update
abbrev pub FirstLeavesState : Type 0
FirstLeavesState = (host_focused : Bool) (u : UpdateData) (new : World) → Begins host_focused u new → IsState new

-- and a change of the host's focus
abbrev pub HostFocusLeavesState : Type 0
HostFocusLeavesState = (w : World) (host_focused : Bool) → IsState w → IsState (with_host w host_focused)

-- so, from nothing on, each world is still empty or a state
abbrev pub LaterWorldsAreStates : Type 0
LaterWorldsAreStates =
    (host_focused : Bool) (w : World) → IsLater (empty_world host_focused) w → (w ≡ empty_world w.host_focused) ⊎ IsState w

-- a name keeps its index: an update for it gets that index, whether or not the tree was dropped in between
abbrev pub NamesKeepTheirIndex : Type 0
NamesKeepTheirIndex =
    (w later : World) (name : TreeId) (index : ℕ) → IsLater w later → index_of w name ≡ Some index
    → (index_of later name ≡ Some index) × (index_for later name ≡ index)

-- each node of a state but the root tree's root has one place, and its parent is a node
abbrev pub PlaceIsOne : Type 0
PlaceIsOne =
    (w : World) → IsState w → (id : FullNodeId) → IsNode w id → root_of w 0 ≢ Some id
    → (p : Place) × StandsAt w p id × IsNode w p.0 × ((q : Place) → StandsAt w q id → q ≡ p)

-- the root of another tree has the place (graft of its tree, 0)
abbrev pub RootStandsAtGraft : Type 0
RootStandsAtGraft =
    (w : World) → IsState w → (index : ℕ) (id : FullNodeId) → index ≢ 0 → root_of w index ≡ Some id
    → (graft : FullNodeId) × (name : TreeId) × (graft_name w graft ≡ Some name) × (index_of w name ≡ Some index)
    × StandsAt w (graft, 0) id

-- the root tree's root has no place
abbrev pub RootHasNoPlace : Type 0
RootHasNoPlace = (w : World) → IsState w → (p : Place) (id : FullNodeId) → root_of w 0 ≡ Some id → ¬ (StandsAt w p id)

-- a world has at most one effective focus
abbrev pub EffectiveFocusIsOne : Type 0
EffectiveFocusIsOne = (w : World) (a b : FullNodeId) → IsEffectiveFocus w a → IsEffectiveFocus w b → a ≡ b

-- a state has one
abbrev pub EffectiveFocusIsThere : Type 0
EffectiveFocusIsThere = (w : World) → IsState w → (id : FullNodeId) × IsEffectiveFocus w id × IsNode w id

-- a world has at most one answer of `focus`
abbrev pub FocusIsOne : Type 0
FocusIsOne = (w : World) (a b : Option FullNodeId) → IsFocus w a → IsFocus w b → a ≡ b

-- a state has one
abbrev pub FocusIsThere : Type 0
FocusIsThere = (w : World) → IsState w → (answer : Option FullNodeId) × IsFocus w answer

-- a world has at most one answer of `focus_id`
abbrev pub FocusIdIsOne : Type 0
FocusIdIsOne = (w : World) (a b : Option FullNodeId) → IsFocusId w a → IsFocusId w b → a ≡ b

-- a state has one
abbrev pub FocusIdIsThere : Type 0
FocusIdIsThere = (w : World) → IsState w → (answer : Option FullNodeId) × IsFocusId w answer

-- a node of which `is_focused` holds is the answer of `focus`; so it holds of none while the host isn't focused
abbrev pub FocusedNodeIsTheFocus : Type 0
FocusedNodeIsTheFocus = (w : World) (id : FullNodeId) → IsFocusedNode w id → IsFocus w (Some id)

-- a state has at most one answer of `active_dialog`
abbrev pub ActiveDialogIsOne : Type 0
ActiveDialogIsOne = (w : World) (a b : Option FullNodeId) → IsState w → IsActiveDialog w a → IsActiveDialog w b → a ≡ b

-- and it has one
abbrev pub ActiveDialogIsThere : Type 0
ActiveDialogIsThere = (w : World) → IsState w → (answer : Option FullNodeId) × IsActiveDialog w answer

-- a node of a state is located by its id in its tree and by the name of that tree, and what is no node isn't located
abbrev pub NodesAreLocated : Type 0
NodesAreLocated =
    (w : World) → IsState w → (id : FullNodeId)
    → (IsNode w id → (name : TreeId) × (name_of w id.tree ≡ Some name) × (local_id_of w id ≡ Some (id.node, name)))
    × (¬ (IsNode w id) → local_id_of w id ≡ None)

-- tree info for the root tree replaces both toolkit texts, that of another tree replaces neither
abbrev pub ToolkitIsTheRootTrees : Type 0
ToolkitIsTheRootTrees =
    (old : World) (u : UpdateData) (info : InfoData) → u.info ≡ Some info
    → ((index_for old u.name ≡ 0) → (merged_world old u).toolkit ≡ (info.toolkit_name, info.toolkit_version))
    × ((index_for old u.name ≢ 0) → (merged_world old u).toolkit ≡ old.toolkit)
