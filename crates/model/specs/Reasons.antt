-- Why each difference is reported, and in which order.
use Rattle.std.specs.Prelude.{◌≡◌, ◌≢◌, ℕ, ◌≤◌, Option, Some, ◌⊎◌}
use Rattle.model.specs.declared.FullNodeId.{FullNodeId}
use Rattle.model.specs.World.{World, data_of, IsNode}
use Rattle.model.specs.Forest.{place_of}
use Rattle.model.specs.Focus.{IsFocus}
use Rattle.model.specs.Differences.{PlanEvent, Added, Updated, FocusMoved, Removed}

-- the focus moves from the one to the other
abbrev pub FocusGoes : World → World → Option FullNodeId → Option FullNodeId → Type 0
FocusGoes old new before after = IsFocus old before × IsFocus new after × (before ≢ after)

-- the focus leaves the node or comes to it
abbrev pub FocusGoesAt : World → World → FullNodeId → Type 0
FocusGoesAt old new id = (before after : Option FullNodeId) × FocusGoes old new before after × ((before ≡ Some id) ⊎ (after ≡ Some id))

abbrev pub Reason : World → World → Option FullNodeId → PlanEvent → Type 0
Reason old new root (Added id) = IsNode new id × ¬ (IsNode old id)
Reason old new root (Updated id) =
    (IsNode old id × IsNode new id)
    × (data_of old id ≢ data_of new id ⊎ place_of old id ≢ place_of new id ⊎ root ≡ Some id ⊎ FocusGoesAt old new id)
Reason old new root (FocusMoved before after) = FocusGoes old new before after
Reason old new root (Removed id) = IsNode old id × ¬ (IsNode new id)

-- added nodes, then updated ones, then the move of the focus, then removed nodes
abbrev pub rank : PlanEvent → ℕ
rank (Added id) = 0
rank (Updated id) = 1
rank (FocusMoved before after) = 2
rank (Removed id) = 3

abbrev pub MayPrecede : PlanEvent → PlanEvent → Type 0
MayPrecede d e = (rank d ≤ rank e) × (d ≢ e)
