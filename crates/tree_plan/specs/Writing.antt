-- The lists of a decision.
use Rattle.std.specs.Prelude.{◌≡◌, ◌≢◌, ◌+◌, ◌*◌, ◌≤◌, length, List, [], ◌∷◌, ◌++◌, Option, Some, None, is_some, option_to_list, if◌then◌else◌, ◌⊎◌, map}
use Rattle.std.specs.Option.{option_map}
use Rattle.std.specs.List.{flat_map}
use Rattle.schema.specs.declared.TreeId.{TreeId}
use Rattle.schema.specs.declared.NodeId.{NodeId}
use Rattle.model.specs.declared.FullNodeId.{FullNodeId}
use Rattle.model.specs.declared.events.PlanEvent.{PlanEvent}
use Rattle.model.specs.declared.events.PlanEvent.TheVariants as event
use Rattle.tree_changes.specs.declared.look_ups.TreeRecord.{TreeRecord}
use Rattle.model.specs.Work.{Work}
use Rattle.tree_changes.specs.declared.decision.Decision.{Decision}
use Rattle.tree_changes.specs.declared.decision.NodeChange.{NodeChange}
use Rattle.tree_changes.specs.declared.decision.NodeChange.TheVariants.{Put, Gone}
use Rattle.tree_plan.specs.declared.passes.Opened.{Opened}
use Rattle.tree_plan.specs.declared.passes.Compared.{Compared}
use Rattle.tree_plan.specs.declared.passes.Removed.{Removed}
use Rattle.tree_plan.specs.declared.passes.Focused.{Focused}
use Rattle.tree_plan.specs.declared.regrafting.Regrafted.{Regrafted}
use Rattle.tree_plan.specs.declared.verdicts.Found.{Found}
use Rattle.tree_plan.specs.declared.walking.Walked.{Walked}
use Rattle.tree_plan.specs.declared.verdicts.Verdict.{Verdict}
use Rattle.tree_plan.specs.declared.verdicts.Verdict.TheVariants as verdict
use Rattle.tree_plan.specs.declared.writing.Group.{Group}
use Rattle.tree_plan.specs.Passes.{at}
use Rattle.tree_plan.specs.Verdicts.{Verdicts}
use Rattle.tree_plan.specs.declared.writing.Group.TheVariants as group

-- the change of a node's record
abbrev pub change_of : Verdict → Option NodeChange
change_of (verdict.Added place entry) = Some (Put place (Some entry))
change_of (verdict.Renewed place entry) = Some (Put place (Some entry))
change_of (verdict.Moved place) = Some (Put place None)
change_of verdict.Told = None
change_of verdict.Removed = Some Gone

-- the change of a node's record, with the id
abbrev pub change_entry : FullNodeId × Verdict → List (FullNodeId × NodeChange)
change_entry e = option_to_list (option_map (λ c. (e.0, c)) (change_of e.1))

abbrev pub group_of : Verdict → Group
group_of (verdict.Added place entry) = group.Added
group_of (verdict.Renewed place entry) = group.Updated
group_of (verdict.Moved place) = group.Updated
group_of verdict.Told = group.Updated
group_of verdict.Removed = group.Removed

-- the event of a node, if it belongs to the group
abbrev pub event_in : Group → Group → FullNodeId → List PlanEvent
event_in group.Added group.Added id = event.Added id ∷ []
event_in group.Updated group.Updated id = event.Updated id ∷ []
event_in group.Removed group.Removed id = event.Removed id ∷ []
event_in group.Added group.Updated id = []
event_in group.Added group.Removed id = []
event_in group.Updated group.Added id = []
event_in group.Updated group.Removed id = []
event_in group.Removed group.Added id = []
event_in group.Removed group.Updated id = []

abbrev pub event_of : Group → FullNodeId → PlanEvent
event_of group.Added id = event.Added id
event_of group.Updated id = event.Updated id
event_of group.Removed id = event.Removed id

-- the events of a group of verdicts
abbrev pub told_of : Group → FullNodeId × Verdict → List PlanEvent
told_of g e = event_in (group_of e.1) g e.0

-- a focused node, unless there is a verdict on it, or a change of it
abbrev pub untold_updates : {V : Type 0} → (FullNodeId → Option V) → Option FullNodeId → List PlanEvent
untold_updates verdicts None = []
untold_updates verdicts (Some id) = if is_some (verdicts id) then [] else event.Updated id ∷ []

-- the events of a moved focus
abbrev pub IsMove : {V : Type 0} → (FullNodeId → Option V) → Option FullNodeId → Option FullNodeId → List PlanEvent → Type 0
IsMove verdicts before after events =
    ((before ≡ after) × (events ≡ []))
    ⊎ ((before ≢ after) × (events ≡ untold_updates verdicts before ++ untold_updates verdicts after ++ event.FocusMoved before after ∷ []))

-- the record of the update's tree afterwards, if the update declares this focus
abbrev pub own_record : TreeId → NodeId → Opened → TreeRecord
own_record name focus o = record { id = name; index = Some o.index; graft = o.record.graft; root = Some o.root; focus = Some focus }

-- the events of verdicts and of a moved focus, in order
pub record AreEvents (vs : Verdicts) (f : Focused) (events : List PlanEvent) : Type 0 where
  pub moved : List PlanEvent
  pub is_move : IsMove (at vs) f.before f.after moved
  pub all : events
      ≡ flat_map (told_of group.Added) vs ++ flat_map (told_of group.Updated) vs ++ moved ++ flat_map (told_of group.Removed) vs

-- the events of what a walk has written and of a moved focus, in order
pub record AreEventsOf (w : Walked) (f : Focused) (events : List PlanEvent) : Type 0 where
  pub moved : List PlanEvent
  pub is_move : IsMove (at w.nodes) f.before f.after moved
  pub all : events
      ≡ map (event_of group.Added) w.added.items ++ map (event_of group.Updated) w.updated.items ++ moved ++ map (event_of group.Removed) w.removed.items

-- the record of the update's tree, if it differs from before
abbrev pub IsOwnPart : TreeRecord → TreeRecord → List TreeRecord → Type 0
IsOwnPart before own named = ((own ≡ before) × (named ≡ [])) ⊎ ((own ≢ before) × (named ≡ own ∷ []))

-- the trees that were cut off, those that were gained, and the update's tree if its record differs from before
abbrev pub AreTrees : Found → TreeRecord → List TreeRecord → Type 0
AreTrees f own trees =
    (named : List TreeRecord) × (trees ≡ f.removed.trees.items ++ f.regrafted.trees.items ++ named) × IsOwnPart f.opened.record own named

-- The lengths of lists against the numbers that bound the look-ups.
pub record IsSmall (c : Compared) (r : Removed) (g : Regrafted) (d : Decision) (work : Work) : Type 0 where
  pub entered : length c.entered ≤ work.children + 1
  pub gone : length r.gone.keys ≤ work.removed
  pub nodes : length d.nodes.items ≤ 2 * work.named + work.children + work.removed + 1
  pub trees : length d.trees.items ≤ length r.trees.items + length g.trees.items + 1
  pub events : length d.events.items ≤ 2 * work.named + work.children + work.removed + 4
