-- How two worlds differ, as a list in the order in which they are reported.
use Rattle.std.specs.Prelude.{◌≡◌, ◌≢◌, ℕ, List, [], ◌∷◌, ◌++◌, map, Contains, Option, Some, None, ◌⊎◌, ◌↔◌, ◌==◌, if◌then◌else◌}
use Rattle.std.specs.Option.{option_map}
use Rattle.std.specs.List.Sorted.{IsStrictlySortedBy}
use Rattle.model.specs.declared.FullNodeId.{FullNodeId}
use Rattle.model.specs.FullIds.{full_cmp}
use Rattle.model.specs.World.{World, data_of, in_tree, IsNode}
use Rattle.model.specs.Forest.{place_of}
use Rattle.model.specs.Update.{InfoData}
use Rattle.model.specs.Focus.{IsFocus}
pub use Rattle.model.specs.declared.events.PlanEvent.{PlanEvent}
pub use Rattle.model.specs.declared.events.PlanEvent.TheVariants.{Added, Updated, FocusMoved, Removed}
use Rattle.model.specs.Events.{Event, NodeAdded, NodeUpdated, NodeRemoved, seen_in}
use Rattle.model.specs.Events as handler

-- the call that reports a difference
abbrev pub event : World → World → PlanEvent → Event
event old new (Added id) = NodeAdded (seen_in new id)
event old new (Updated id) = NodeUpdated (seen_in old id) (seen_in new id)
event old new (FocusMoved before after) = handler.Event.FocusMoved (option_map (seen_in old) before) (option_map (seen_in new) after)
event old new (Removed id) = NodeRemoved (seen_in old id)

abbrev pub events : World → World → List PlanEvent → List Event
events old new differences = map (event old new) differences

-- the ids with P, ascending, each once
pub record IsAscendingListOf (P : FullNodeId → Type 0) (ids : List FullNodeId) : Type 0 where
  pub ascending : IsStrictlySortedBy full_cmp ids
  pub members : (id : FullNodeId) → Contains ids id ↔ P id

abbrev pub IsAdded : World → World → FullNodeId → Type 0
IsAdded old new id = IsNode new id × ¬ (IsNode old id)

abbrev pub IsInBoth : World → World → FullNodeId → Type 0
IsInBoth old new id = IsNode old id × IsNode new id

-- The root that is reported even if it is unchanged: the one in the update's tree info, if that isn't for the root tree.
abbrev pub told_root : ℕ → Option InfoData → Option FullNodeId
told_root index None = None
told_root index (Some info) = if index == 0 then None else Some (in_tree index info.root)

-- in both worlds, with other data, or at another place, or the told root
abbrev pub IsUpdated : World → World → Option FullNodeId → FullNodeId → Type 0
IsUpdated old new root id = IsInBoth old new id × (data_of old id ≢ data_of new id ⊎ place_of old id ≢ place_of new id ⊎ root ≡ Some id)

-- the id alone if P holds of it, and otherwise nothing
abbrev pub IsAloneIf : Type 0 → FullNodeId → List FullNodeId → Type 0
IsAloneIf P id ids = (P × (ids ≡ id ∷ [])) ⊎ (¬ P × (ids ≡ []))

-- a focus is reported as updated if it is in both worlds and wasn't reported before
abbrev pub IsToldForFocus : World → World → List FullNodeId → Option FullNodeId → List FullNodeId → Type 0
IsToldForFocus old new told None ids = ids ≡ []
IsToldForFocus old new told (Some id) ids = IsAloneIf (IsInBoth old new id × ¬ (Contains told id)) id ids

-- What is reported of the focus, after these ids were reported as updated: nothing if it is the same; otherwise its old node, its new
-- node, and the move.
abbrev pub AreOfFocus : World → World → List FullNodeId → List PlanEvent → Type 0
AreOfFocus old new told differences =
    (before after : Option FullNodeId) × IsFocus old before × IsFocus new after
    × (((before ≡ after) × (differences ≡ []))
    ⊎ ((before ≢ after) × (left entered : List FullNodeId) × IsToldForFocus old new told before left
    × IsToldForFocus old new told after entered
    × (differences ≡ map Updated left ++ map Updated entered ++ FocusMoved before after ∷ [])))

-- All that is reported of a change of worlds, in order. The root is the one that is reported as updated even if it is unchanged.
pub record AreDifferences (old new : World) (root : Option FullNodeId) (differences : List PlanEvent) : Type 0 where
  pub added : List FullNodeId
  pub updated : List FullNodeId
  pub of_focus : List PlanEvent
  pub removed : List FullNodeId
  pub are_added : IsAscendingListOf (IsAdded old new) added
  pub are_updated : IsAscendingListOf (IsUpdated old new root) updated
  pub are_of_focus : AreOfFocus old new updated of_focus
  pub are_removed : IsAscendingListOf (IsAdded new old) removed
  pub all : differences ≡ map Added added ++ map Updated updated ++ of_focus ++ map Removed removed
