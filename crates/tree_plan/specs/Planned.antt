-- The meaning of a plan of an update.
use Rattle.std.specs.Prelude.{Bool, ◌≡◌, ◌≢◌, ℕ, ◌+◌, ◌*◌, ◌≤◌, List, [], ◌∷◌, length, slice_get, AllPairs, Contains, Option, Some, None, ◌↔◌, if◌then◌else◌}
use Rattle.std.specs.Option.{option_and_then, option_map_or}
use Rattle.std.specs.List.Sorted.{IsStrictlySortedBy}
use Rattle.schema.specs.NodeData.{NodeData}
use Rattle.schema.specs.declared.TreeId.{TreeId}
use Rattle.model.specs.declared.FullNodeId.{FullNodeId}
use Rattle.model.specs.FullIds.{full_cmp}
use Rattle.model.specs.World.{World, Place, StandsAt, data_of}
use Rattle.model.specs.Focus.{IsEffectiveFocus}
use Rattle.model.specs.Update.{UpdateData, InfoData, IsFirst, IsAccepted}
use Rattle.model.specs.Run.{AreToldBy}
use Rattle.model.specs.Work.{Work, IsWorkOf, allowance}
use Rattle.tree_changes.specs.declared.look_ups.TreeRecord.{TreeRecord}
use Rattle.tree_changes.specs.declared.decision.NodeChange.{NodeChange}
use Rattle.tree_changes.specs.declared.decision.NodeChange.TheVariants as node
use Rattle.tree_plan.specs.declared.plan.Change.{Change}
use Rattle.tree_plan.specs.declared.plan.Change.TheVariants.{Put, Gone, Tree as TreeChange}
use Rattle.tree_plan.specs.declared.plan.Plan.{Plan}
use Rattle.tree_changes.specs.LookUps.{IsPlaceOf, IsTreeRecord}
use Rattle.tree_changes.specs.Changes.{entry_of, tree_after}
use Rattle.tree_changes.specs.Decisions.{Differs, TreeDiffers, names_of}
use Rattle.tree_plan.specs.Plans.{tree_changes, planned_world}

-- the nodes whose records change
abbrev pub changed_nodes : List Change → List FullNodeId
changed_nodes [] = []
changed_nodes (Put id place given ∷ cs) = id ∷ changed_nodes cs
changed_nodes (Gone id ∷ cs) = id ∷ changed_nodes cs
changed_nodes (TreeChange t ∷ cs) = changed_nodes cs

-- The plan of an accepted update: its changes make the rebuilt world, and are exactly those of the records that differ, one for each;
-- data is given only if it differs from before; the focus is the effective one there; and the events are the differences. Of the first
-- update has no events.
pub record IsPlan (w : World) (u : UpdateData) (p : Plan) : Type 0 where
  pub accepted : IsAccepted w u (planned_world w p)
  pub once : IsStrictlySortedBy full_cmp (changed_nodes p.changes.items)
  pub changes : (id : FullNodeId) → Contains (changed_nodes p.changes.items) id ↔ Differs w (planned_world w p) id
  pub places : (id : FullNodeId) (place : Option Place) (given : Option NodeData) → Contains p.changes.items (Put id place given)
      → IsPlaceOf (planned_world w p) id place
  pub given : (id : FullNodeId) (place : Option Place) (d : NodeData) → Contains p.changes.items (Put id place (Some d))
      → data_of w id ≢ Some d
  pub others : (id : FullNodeId) → ¬ (Contains (changed_nodes p.changes.items) id)
      → (data_of w id ≡ data_of (planned_world w p) id) × ((at : Place) → StandsAt w at id ↔ StandsAt (planned_world w p) at id)
  pub trees_once : AllPairs (λ a b. a.id ≢ b.id) (tree_changes p.changes.items)
  pub trees_listed : (name : TreeId) → Contains (names_of (tree_changes p.changes.items)) name ↔ TreeDiffers w (planned_world w p) name
  pub trees : (name : TreeId) (r : Option TreeRecord) → IsTreeRecord w name r
      → IsTreeRecord (planned_world w p) name (tree_after (tree_changes p.changes.items) name r)
  pub focus : IsEffectiveFocus (planned_world w p) p.focus
  pub told : ¬ (IsFirst w) → AreToldBy w u (planned_world w p) p.events.items
  pub quiet : IsFirst w → p.events.items ≡ []

-- The look-ups, from `before` to `after`, with two for each event and each change, are within the bound.
abbrev pub IsPlannedWithin : World → UpdateData → Plan → ℕ → ℕ → Type 0
IsPlannedWithin w u p before after =
    (work : Work) → IsWorkOf w u (planned_world w p) work
    → after + 2 * (length p.events.items + length p.changes.items) ≤ before + allowance work

-- what a slot has, if it is there and isn't taken
abbrev pub slot_data : List (Option NodeData) → ℕ → Option NodeData
slot_data slots k = option_and_then (λ s. s) (slice_get slots k)

-- the change of a node's record, with its data out of these slots
abbrev pub plan_change : List (Option NodeData) → FullNodeId × NodeChange → Change
plan_change slots (id, node.Put place (Some k)) = Put id place (slot_data slots k)
plan_change slots (id, node.Put place None) = Put id place None
plan_change slots (id, node.Gone) = Gone id

-- the entry whose data the change at this index takes
abbrev pub taken_at : List (FullNodeId × NodeChange) → ℕ → Option ℕ
taken_at changes i = option_and_then (λ c. entry_of c.1) (slice_get changes i)

-- no two changes take the data of one entry
abbrev pub AreTakenOnce : List (FullNodeId × NodeChange) → Type 0
AreTakenOnce changes = (i j k : ℕ) → taken_at changes i ≡ Some k → taken_at changes j ≡ Some k → i ≡ j

-- the texts of tree info for the root tree replace the toolkit's
abbrev pub replaces : Option InfoData → Bool → Option (List ℕ) × Option (List ℕ) → Option (List ℕ) × Option (List ℕ)
replaces info is_root before = option_map_or (λ info. if is_root then (info.toolkit_name, info.toolkit_version) else before) info before
