-- The meaning of a decision on an update.
use Rattle.std.specs.Prelude.{◌≡◌, ◌≢◌, ℕ, ◌+◌, ◌*◌, ◌≤◌, List, [], length, map, AllPairs, Contains, Option, Some, None, IsSome, ◌⊎◌, ◌↔◌}
use Rattle.std.specs.List.Sorted.{IsStrictlySortedBy}
use Rattle.schema.specs.declared.TreeId.{TreeId}
use Rattle.model.specs.declared.FullNodeId.{FullNodeId}
use Rattle.model.specs.FullIds.{full_cmp}
use Rattle.model.specs.World.{World, Place, StandsAt, IsNode, data_of}
use Rattle.model.specs.Forest.{place_of}
use Rattle.model.specs.Focus.{IsEffectiveFocus}
use Rattle.model.specs.Update.{UpdateData, IsFirst, IsAccepted, index_for, named_at}
use Rattle.model.specs.Run.{AreToldBy}
use Rattle.model.specs.Work.{Work, IsWorkOf, allowance}
use Rattle.tree_changes.specs.declared.look_ups.TreeRecord.{TreeRecord}
use Rattle.tree_changes.specs.declared.decision.NodeChange.{NodeChange}
use Rattle.tree_changes.specs.declared.decision.NodeChange.TheVariants.{Put, Gone}
use Rattle.tree_changes.specs.declared.decision.Decision.{Decision}
use Rattle.tree_changes.specs.LookUps.{IsPlaceOf, IsTreeRecord}
use Rattle.tree_changes.specs.Changes.{change_at, place_in, entry_of, overlaid_world, tree_after}

-- the change gives data of an entry that names the node, or keeps the old ones; what is removed existed before
abbrev pub FindsData : World → UpdateData → FullNodeId → NodeChange → Type 0
FindsData w u id (Put place (Some k)) = (id.tree ≡ index_for w u.name) × (named_at u k ≡ Some id.node)
FindsData w u id (Put place None) = IsNode w id
FindsData w u id Gone = IsNode w id

-- the node's data or its place differs
abbrev pub Differs : World → World → FullNodeId → Type 0
Differs w new id = (data_of w id ≢ data_of new id) ⊎ (place_of w id ≢ place_of new id)

-- the tree's record differs: none is its record both before and after
abbrev pub TreeDiffers : World → World → TreeId → Type 0
TreeDiffers w new name = (r : Option TreeRecord) → IsTreeRecord w name r → ¬ (IsTreeRecord new name r)

-- a change of a node: the place after it is the node's, its data is found, and something does change; data is given only if it
-- differs from before
pub record IsChangeOf (w : World) (u : UpdateData) (new : World) (id : FullNodeId) (c : NodeChange) : Type 0 where
  pub place : IsPlaceOf new id (place_in c)
  pub data_found : FindsData w u id c
  pub differs : Differs w new id
  pub given : IsSome (entry_of c) → data_of w id ≢ data_of new id

-- the nodes, and the names of the trees, whose records a decision lists
abbrev pub listed_nodes : Decision → List FullNodeId
listed_nodes d = map (λ e. e.0) d.nodes.items

abbrev pub names_of : List TreeRecord → List TreeId
names_of rs = map (λ r. r.id) rs

-- The decision on an accepted update: the changes make the rebuilt world, and are exactly the records that differ, each once; the focus is
-- the effective one there; and the events are the differences. The first update has no events.
pub record IsDecision (w : World) (u : UpdateData) (d : Decision) : Type 0 where
  pub accepted : IsAccepted w u (overlaid_world w u d)
  pub ascending : IsStrictlySortedBy full_cmp (listed_nodes d)
  pub nodes_listed : (id : FullNodeId) → Contains (listed_nodes d) id ↔ Differs w (overlaid_world w u d) id
  pub changes : (id : FullNodeId) (c : NodeChange) → change_at d.nodes.items id ≡ Some c → IsChangeOf w u (overlaid_world w u d) id c
  pub others : (id : FullNodeId) (p : Place) → change_at d.nodes.items id ≡ None → StandsAt w p id → StandsAt (overlaid_world w u d) p id
  pub others_back : (id : FullNodeId) (p : Place) → change_at d.nodes.items id ≡ None → StandsAt (overlaid_world w u d) p id
      → StandsAt w p id
  pub trees : (name : TreeId) (r : Option TreeRecord) → IsTreeRecord w name r
      → IsTreeRecord (overlaid_world w u d) name (tree_after d.trees.items name r)
  pub trees_once : AllPairs (λ a b. a.id ≢ b.id) d.trees.items
  pub trees_listed : (name : TreeId) → Contains (names_of d.trees.items) name ↔ TreeDiffers w (overlaid_world w u d) name
  pub focus : IsEffectiveFocus (overlaid_world w u d) d.focus
  pub told : ¬ (IsFirst w) → AreToldBy w u (overlaid_world w u d) d.events.items
  pub quiet : IsFirst w → d.events.items ≡ []

-- The look-ups, from `before` to `after`, with two for each event and each change, are within the bound.
abbrev pub IsWithinWork : World → UpdateData → Decision → ℕ → ℕ → Type 0
IsWithinWork w u d before after =
    (work : Work) → IsWorkOf w u (overlaid_world w u d) work
    → after + 2 * (length d.events.items + (length d.nodes.items + length d.trees.items)) ≤ before + allowance work
