-- The effect of an accepted update on a node.
use Rattle.std.specs.Prelude.{◌≡◌, ◌≢◌, List, Contains, Option, Some, None}
use Rattle.model.specs.declared.FullNodeId.{FullNodeId}
use Rattle.model.specs.World.{World, Place, IsNode, data_of}
use Rattle.model.specs.Forest.{place_of}
use Rattle.model.specs.Update.{UpdateData, IsRebuild, KeepsRules, index_for, merged_world}
use Rattle.model.specs.Differences.{IsAdded, IsInBoth, told_root}
use Rattle.model.specs.Surgery.{IsOld}
use Rattle.tree_changes.specs.declared.decision.NodeChange.{NodeChange}
use Rattle.tree_changes.specs.declared.decision.NodeChange.TheVariants.{Put}
use Rattle.tree_changes.specs.LookUps.{IsPlaceOf}
use Rattle.tree_changes.specs.Changes.{changed_data}
use Rattle.tree_changes.specs.Decisions.{IsChangeOf}
use Rattle.tree_plan.specs.declared.verdicts.Verdict.{Verdict}
use Rattle.tree_plan.specs.declared.verdicts.Verdict.TheVariants.{Added, Renewed, Moved, Told, Removed}
use Rattle.tree_plan.specs.declared.verdicts.Found.{Found}
use Rattle.tree_plan.specs.Passes.{at, HoldsOpened, HoldsCompared, HoldsRemoved, HoldsRegrafted}

-- an update, and the worlds before and after it
pub record Transition : Type 0 where
  pub old : World
  pub update : UpdateData
  pub new : World

-- the passes have found this, and the update is accepted
pub record IsFound (s : Transition) (f : Found) : Type 0 where
  pub old : IsOld s.old
  pub opening : HoldsOpened s.old s.update f.opened
  pub comparison : HoldsCompared s.old s.update f.compared
  pub removal : HoldsRemoved s.old s.update f.removed
  pub regrafting : HoldsRegrafted s.old s.update f.regrafted.trees.items f.regrafted.moved_in
  pub kept : KeepsRules s.old s.update
  pub rebuilt : IsRebuild (merged_world s.old s.update) s.new
  pub told : f.told ≡ told_root (index_for s.old s.update.name) s.update.info

-- the change is one of this node, and gives it its data
abbrev pub Makes : Transition → FullNodeId → NodeChange → Type 0
Makes s id c = IsChangeOf s.old s.update s.new id c × (changed_data s.update.nodes c (data_of s.old id) ≡ data_of s.new id)

-- the node has the data and the place that it had
abbrev pub Stays : Transition → FullNodeId → Type 0
Stays s id = (data_of s.old id ≡ data_of s.new id) × (place_of s.old id ≡ place_of s.new id)

-- the node's place differs from before and is this one, or it is unchanged
abbrev pub Moves : Transition → FullNodeId → Option (Option Place) → Type 0
Moves s id None = place_of s.old id ≡ place_of s.new id
Moves s id (Some place) = IsNode s.new id × IsPlaceOf s.new id place × (IsNode s.old id → place_of s.old id ≢ place_of s.new id)

-- the verdict is right for the node
abbrev pub Becomes : Transition → FullNodeId → Option Verdict → Type 0
Becomes s id (Some (Added place entry)) = IsAdded s.old s.new id × Makes s id (Put place (Some entry))
Becomes s id (Some (Renewed place entry)) = IsInBoth s.old s.new id × Makes s id (Put place (Some entry))
Becomes s id (Some (Moved place)) = IsInBoth s.old s.new id × Makes s id (Put place None)
Becomes s id (Some Told) = IsInBoth s.old s.new id × Stays s id × (told_root (index_for s.old s.update.name) s.update.info ≡ Some id)
Becomes s id (Some Removed) = IsAdded s.new s.old id
Becomes s id None = Stays s id × (told_root (index_for s.old s.update.name) s.update.info ≢ Some id)

abbrev pub Verdicts : Type 0
Verdicts = List (FullNodeId × Verdict)

-- each verdict is right for its node
abbrev pub AreSound : Transition → Verdicts → Type 0
AreSound s vs = (id : FullNodeId) (v : Verdict) → Contains vs (id, v) → Becomes s id (Some v)

-- The verdicts on these nodes are added to verdicts that are all right.
pub record Adds (s : Transition) (ids : List FullNodeId) (before after : Verdicts) : Type 0 where
  pub sound : AreSound s after
  pub judged : (id : FullNodeId) → Contains ids id → Becomes s id (at after id)
  pub kept : (id : FullNodeId) → Becomes s id (at before id) → Becomes s id (at after id)
