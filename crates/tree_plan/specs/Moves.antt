-- An update of a few nodes that gives them other data, or moves a few nodes to other places in the lists of their tree.
use Rattle.std.specs.Prelude.{◌≡◌, ◌≢◌, ℕ, ◌<◌, List, slice_get, Contains, Option, Some, None, ◌⊎◌, ◌↔◌}
use Rattle.schema.specs.NodeData.{NodeData}
use Rattle.schema.specs.declared.NodeId.{NodeId}
use Rattle.model.specs.declared.FullNodeId.{FullNodeId}
use Rattle.model.specs.World.{World, Place, StandsAt, HasData, data_of, in_tree}
use Rattle.model.specs.Update.{UpdateData, index_for, merged_world, named_at}
use Rattle.model.specs.Surgery.{Seat, Left, Entered}
use Rattle.tree_changes.specs.declared.decision.NodeChange.{NodeChange}
use Rattle.tree_changes.specs.declared.decision.NodeChange.TheVariants.{Put, Gone}
use Rattle.tree_changes.specs.LookUps.{IsPlaceOf}
use Rattle.tree_changes.specs.Changes.{NodeChanges, place_in}
use Rattle.tree_plan.specs.declared.moves.Moving.{Moving}
use Rattle.tree_plan.specs.declared.passes.Opened.{Opened}
use Rattle.tree_plan.specs.Passes.{at, HoldsOpened}
use Rattle.tree_plan.specs.Comparisons.{IsNamedBefore, OnlyIn, child_ids}
use Rattle.tree_plan.specs.News.{KeepsTree}

-- with these data a node grafts what it did, and has the active descendant that it had
pub record KeepsLinks (old d : NodeData) : Type 0 where
  pub graft : old.tree_id ≡ d.tree_id
  pub active : old.active_descendant ≡ d.active_descendant

-- the links are kept, and the list may be another if nothing is grafted
abbrev pub KeepsGrafts : NodeData → NodeData → Type 0
KeepsGrafts old d = KeepsLinks old d × ((old.children ≡ d.children) ⊎ (d.tree_id ≡ None))

-- it is an old node, whose data and these are so
abbrev pub KeepsNode : World → FullNodeId → NodeData → Type 0
KeepsNode w id d = (old : NodeData) × HasData w id old × KeepsGrafts old d

-- the place to which a change moves a node that keeps its data
abbrev pub came_to : NodeChange → Option Place
came_to (Put place None) = place
came_to (Put place (Some k)) = None
came_to Gone = None

-- the nodes that P finds have come to those that left, with the parent, and those that Q finds to the changes, each with its spot
pub record Compares (P Q : FullNodeId → Seat → Type 0) (parent : FullNodeId) (a b : Moving) : Type 0 where
  pub left : (c q : FullNodeId) → Contains b.left.items (c, q) ↔ (Contains a.left.items (c, q) ⊎ ((q ≡ parent) × (s : Seat) × P c s))
  pub changes : (c : FullNodeId) (x : NodeChange)
      → Contains b.changes (c, x) ↔ (Contains a.changes (c, x) ⊎ ((s : Seat) × (x ≡ Put s None) × Q c s))

-- the change gives the node the data of this entry, which are others than before, and the place where it stands
abbrev pub IsRenewal : World → FullNodeId → ℕ → NodeData → NodeChange → Type 0
IsRenewal w id entry d x =
    (old : NodeData) × HasData w id old × (old ≢ d) × (place : Option Place) × IsPlaceOf w id place × (x ≡ Put place (Some entry))

-- a node of the update is compared with its old record
pub record AddsNode (w : World) (id : FullNodeId) (entry : ℕ) (d : NodeData) (a b : Moving) : Type 0 where
  pub old : NodeData
  pub was : HasData w id old
  pub links : KeepsLinks old d
  pub plain : (old.children ≡ d.children) ⊎ (d.tree_id ≡ None)
  pub left : (c q : FullNodeId)
      → Contains b.left.items (c, q) ↔ (Contains a.left.items (c, q) ⊎ ((q ≡ id) × (s : Seat) × OnlyIn id (child_ids id old) (child_ids id d) c s))
  pub changes : (c : FullNodeId) (x : NodeChange)
      → Contains b.changes (c, x)
      ↔ (Contains a.changes (c, x)
      ⊎ (((c ≡ id) × IsRenewal w id entry d x) ⊎ ((s : Seat) × (x ≡ Put s None) × OnlyIn id (child_ids id d) (child_ids id old) c s)))

-- the change gives other data to a node that one of the first so many entries names
abbrev pub IsRenewedBefore : World → UpdateData → ℕ → FullNodeId → NodeChange → Type 0
IsRenewedBefore w u count id x =
    (k : ℕ) × (k < count) × (named_at u k ≡ Some id.node) × (id.tree ≡ index_for w u.name) × (data_of w id ≢ data_of (merged_world w u) id)
    × (place : Option Place) × IsPlaceOf w id place × (x ≡ Put place (Some k))

-- the change moves a node to a place in the list of a node that one of the first so many entries names
abbrev pub IsMovedBefore : World → UpdateData → ℕ → FullNodeId → NodeChange → Type 0
IsMovedBefore w u count id x = (p : Place) × IsNamedBefore w u count p.0 × Entered w u (Some p) id × (x ≡ Put (Some p) None)

-- the nodes that the first so many entries name are compared with their old records
pub record AreMoves (w : World) (u : UpdateData) (count : ℕ) (m : Moving) : Type 0 where
  pub keep : (k : ℕ) (e : NodeId × NodeData) → k < count → slice_get u.nodes k ≡ Some e → KeepsNode w (in_tree (index_for w u.name) e.0) e.1
  pub left : (c q : FullNodeId) → Contains m.left.items (c, q) ↔ (IsNamedBefore w u count q × (k : ℕ) × Left w u (Some (q, k)) c)
  pub changes : (c : FullNodeId) (x : NodeChange)
      → Contains m.changes (c, x) ↔ (IsRenewedBefore w u count c x ⊎ IsMovedBefore w u count c x)

-- the parent after the changes, from the node's change, or from its old place if it has none
abbrev pub IsAbove : World → NodeChanges → FullNodeId → FullNodeId → Type 0
IsAbove w rows id parent =
    (p : Place) × (parent ≡ p.0)
    × (((x : NodeChange) × (at rows id ≡ Some x) × (place_in x ≡ Some p)) ⊎ ((at rows id ≡ None) × StandsAt w p id))

-- parents lead up from the node to the root
pub data LeadsUp (w : World) (rows : NodeChanges) (root : FullNodeId) : FullNodeId → Type 0 where
  ends : LeadsUp w rows root root
  goes : (id parent : FullNodeId) → id ≢ root → IsAbove w rows id parent → LeadsUp w rows root parent → LeadsUp w rows root id

-- the node has come to this place from the list of the same parent, or parents lead up from the new one to the root
abbrev pub HasWay : World → NodeChanges → List (FullNodeId × FullNodeId) → FullNodeId → FullNodeId → Place → Type 0
HasWay w rows left root id p = (q : FullNodeId) × Contains left (id, q) × ((q ≡ p.0) ⊎ LeadsUp w rows root p.0)

-- each node that has come to a place has a way up
abbrev pub HaveWays : World → NodeChanges → List (FullNodeId × FullNodeId) → FullNodeId → Type 0
HaveWays w rows left root = (id : FullNodeId) (x : NodeChange) (p : Place) → at rows id ≡ Some x → came_to x ≡ Some p → HasWay w rows left root id p

-- each node that left a place has come to one
abbrev pub HaveMoved : NodeChanges → List (FullNodeId × FullNodeId) → Type 0
HaveMoved rows left = (c q : FullNodeId) → Contains left (c, q) → (x : NodeChange) × (p : Place) × (at rows c ≡ Some x) × (came_to x ≡ Some p)

-- the record of the update's tree stays as it was, and this is its root
abbrev pub IsKeptRoot : World → UpdateData → FullNodeId → Type 0
IsKeptRoot w u root = (o : Opened) × HoldsOpened w u o × KeepsTree u o × (root ≡ in_tree o.index o.root)
