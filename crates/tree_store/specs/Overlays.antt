-- The world that an update's changes make, laid over a state.
use Rattle.std.specs.Prelude.{◌≡◌, Option, None, option_and_then, ◌==◌, if◌then◌else◌}
use Rattle.schema.specs.UpdateData.{update_data, InfoData, UpdateData}
use Rattle.schema.specs.declared.TreeId.{TreeId}
use Rattle.std.specs.Option.{option_map}
use Rattle.model.specs.declared.FullNodeId.{FullNodeId}
use Rattle.model.specs.World.{World, in_tree}
use Rattle.tree_changes.specs.declared.look_ups.TreeRecord.{TreeRecord}
use Rattle.tree_changes.specs.LookUps.{IsTreeRecord}
use Rattle.model.specs.Update.{index_for}
use Rattle.tree_changes.specs.Changes.{overlaid_world, tree_after}
use Rattle.tree_changes.specs.Decisions.{IsDecision}
use Rattle.tree_store.specs.declared.overlay.Overlay.{Overlay}

abbrev pub laid_over : World → Overlay → World
laid_over w o = overlaid_world w (update_data o.update.now) o.decision.now

-- the decision is one on the update of this world
abbrev pub IsLaidOver : World → Overlay → Type 0
IsLaidOver w o = ∥ IsDecision w (update_data o.update.now) o.decision.now ∥₁

-- it is the record of the name before, or the changed one
abbrev pub IsRecordAfter : World → Overlay → TreeId → Option TreeRecord → Type 0
IsRecordAfter w o name r =
    (before : Option TreeRecord) × IsTreeRecord w name before × (r ≡ tree_after o.decision.now.trees.items name before)

-- the tree info that replaces the toolkit's texts: that of an update of the root tree, if it has one
abbrev pub replacing : World → UpdateData → Option InfoData
replacing w u = if index_for w u.name == 0 then u.info else None

-- the root of the tree of a record
abbrev pub root_recorded : Option TreeRecord → Option FullNodeId
root_recorded r = option_and_then (λ t. option_and_then (λ i. option_map (in_tree i) t.root) t.index) r
