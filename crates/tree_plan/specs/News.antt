-- An update that gives nodes of a tree other data, and changes nothing else.
use Rattle.std.specs.Prelude.{◌≡◌, ◌≢◌, ℕ, ◌<◌, ◌≤◌, [], ◌∷◌, ◌++◌, length, map, slice_get, Contains, Option, Some, None, ◌⊎◌}
use Rattle.std.specs.Map.{keys_of}
use Rattle.values_by_id.specs.Rows.{IsTwice}
use Rattle.schema.specs.NodeData.{NodeData}
use Rattle.schema.specs.declared.NodeId.{NodeId}
use Rattle.model.specs.declared.FullNodeId.{FullNodeId}
use Rattle.model.specs.World.{World, Place, HasData, data_of, in_tree}
use Rattle.model.specs.Update.{UpdateData, index_for, named_at}
use Rattle.model.specs.Differences.{told_root}
use Rattle.model.specs.Focus.{IsEffectiveFocus}
use Rattle.model.specs.declared.events.PlanEvent.TheVariants as told
use Rattle.tree_changes.specs.declared.decision.Decision.{Decision}
use Rattle.tree_changes.specs.declared.decision.NodeChange.{NodeChange}
use Rattle.tree_changes.specs.declared.decision.NodeChange.TheVariants.{Put}
use Rattle.tree_changes.specs.LookUps.{IsPlaceOf}
use Rattle.tree_changes.specs.Changes.{NodeChanges, entry_data}
use Rattle.tree_changes.specs.Decisions.{IsDecision}
use Rattle.tree_plan.specs.declared.passes.Opened.{Opened}
use Rattle.tree_plan.specs.Writing.{own_record}

-- with these data a node lists and grafts what it did, and has the active descendant that it had
pub record KeepsForest (old d : NodeData) : Type 0 where
  pub children : old.children ≡ d.children
  pub graft : old.tree_id ≡ d.tree_id
  pub active : old.active_descendant ≡ d.active_descendant

-- it is an old node, whose forest these data keep
abbrev pub KeepsOld : World → FullNodeId → NodeData → Type 0
KeepsOld w id d = (old : NodeData) × HasData w id old × KeepsForest old d

-- each entry names an old node, and keeps its forest
abbrev pub AllKeep : World → UpdateData → Type 0
AllKeep w u = (k : ℕ) (e : NodeId × NodeData) → slice_get u.nodes k ≡ Some e → KeepsOld w (in_tree (index_for w u.name) e.0) e.1

-- each node is named by one entry
abbrev pub IsNamedOnce : UpdateData → Type 0
IsNamedOnce u = (i j : ℕ) (n : NodeId) → named_at u i ≡ Some n → named_at u j ≡ Some n → i ≡ j

-- the change gives an old node the data of the entry that names it, which are others than before, and the place where it stands
pub record IsNewsOf (w : World) (u : UpdateData) (id : FullNodeId) (c : NodeChange) : Type 0 where
  pub entry : ℕ
  pub place : Option Place
  pub is : c ≡ Put place (Some entry)
  pub stands : IsPlaceOf w id place
  pub tree : id.tree ≡ index_for w u.name
  pub named : named_at u entry ≡ Some id.node
  pub news : data_of w id ≢ entry_data u.nodes entry

-- a node that was there keeps its data, or other data that keep the forest come to the list
pub record AddsNews (w : World) (id : FullNodeId) (entry : ℕ) (d : NodeData) (before after : NodeChanges) : Type 0 where
  pub old : NodeData
  pub was : HasData w id old
  pub keeps : KeepsForest old d
  pub added : ((old ≡ d) × (after ≡ before))
      ⊎ ((old ≢ d) × (place : Option Place) × IsPlaceOf w id place × (after ≡ before ++ (id, Put place (Some entry)) ∷ []))

-- The first so many entries name old nodes, which keep the forest, and the list has the changes of those with other data.
pub record AreNews (w : World) (u : UpdateData) (count : ℕ) (list : NodeChanges) : Type 0 where
  pub keep : (k : ℕ) (e : NodeId × NodeData) → k < count → slice_get u.nodes k ≡ Some e → KeepsOld w (in_tree (index_for w u.name) e.0) e.1
  pub found : (id : FullNodeId) (c : NodeChange) → Contains list (id, c) → IsNewsOf w u id c
  pub each : (k : ℕ) (e : NodeId × NodeData) → k < count → slice_get u.nodes k ≡ Some e
      → HasData w (in_tree (index_for w u.name) e.0) e.1 ⊎ ((c : NodeChange) × Contains list (in_tree (index_for w u.name) e.0, c))
  pub few : length list ≤ count
  pub early : (id : FullNodeId) → Contains (keys_of list) id → (k : ℕ) × (k < count) × (named_at u k ≡ Some id.node)
  pub once : IsNamedOnce u → (id : FullNodeId) → ¬ (IsTwice list id)

-- the record of the named tree stays as it was, and no root is told
pub record KeepsTree (u : UpdateData) (o : Opened) : Type 0 where
  pub same : own_record u.name u.focus o ≡ o.record
  pub untold : told_root o.index u.info ≡ None

-- the update gives nodes other data, and changes nothing else
pub record GivesDataAlone (w : World) (u : UpdateData) (o : Opened) : Type 0 where
  pub tree : KeepsTree u o
  pub nodes : AllKeep w u

-- a decision of these changes, with an event for each, and with the focus that was effective before
pub record IsOfChanges (w : World) (rows : NodeChanges) (d : Decision) : Type 0 where
  pub nodes : d.nodes.items ≡ rows
  pub trees : d.trees.items ≡ []
  pub events : d.events.items ≡ map (λ e. told.Updated e.0) rows
  pub focus : IsEffectiveFocus w d.focus

-- a decision of these changes alone is one on the update
abbrev pub AreAllChanges : World → UpdateData → NodeChanges → Type 0
AreAllChanges w u rows = (d : Decision) → IsOfChanges w rows d → IsDecision w u d
