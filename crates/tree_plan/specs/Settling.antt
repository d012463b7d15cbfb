-- The nodes that entered, one after another, by their old places.
use Rattle.std.specs.Prelude.{◌≡◌, ◌≢◌, ◌++◌, ℕ, true, false, ◌||◌, is_some, Contains, Option, Some, None, ◌↔◌, option_and_then, if◌then◌else◌}
use Rattle.std.specs.Option.{option_map, option_to_list}
use Rattle.model.specs.declared.FullNodeId.{FullNodeId}
use Rattle.model.specs.World.{World, Place, IsNode, root_of}
use Rattle.model.specs.State.{Lists}
use Rattle.model.specs.Update.{UpdateData, index_for, merged_world}
use Rattle.model.specs.Surgery.{Seat, Left, Entered, HasEntered, Adopts}
use Rattle.tree_plan.specs.declared.passes.Settled.{Settled}
use Rattle.tree_plan.specs.declared.settling.Before.{Before}
use Rattle.tree_plan.specs.Passes.{has}

-- the node entered, and no place as the root that it is
pub record Comes (w : World) (u : UpdateData) (c : FullNodeId) : Type 0 where
  pub entered : HasEntered w u c
  pub root : root_of (merged_world w u) (index_for w u.name) ≡ Some c → Entered w u None c

-- the old place of a node: for an old one a place in a list, or none, and for a new one nothing
pub record StoodAt (w : World) (id : FullNodeId) (was : Option (Option Place)) : Type 0 where
  pub new : was ≡ None → ¬ (IsNode w id)
  pub old : (s : Option Place) → was ≡ Some s → IsNode w id
  pub place : (s : Option Place) (p : Place) → was ≡ Some s → (s ≡ Some p) ↔ Lists w p id

-- where a node stood before, and whether it left that spot
pub record StoodBefore (w : World) (u : UpdateData) (id : FullNodeId) (b : Before) : Type 0 where
  pub stood : StoodAt w id b.was
  pub left : b.has_left ≡ true → (s : Option Place) → b.was ≡ Some s → Left w u s id
  pub stays : b.has_left ≡ false → (s : Option Place) → ¬ (Left w u s id)

-- the old place in a list, if the node hasn't left it
abbrev pub place_kept : Before → Option Place
place_kept b = if b.has_left then None else option_and_then (λ s. s) b.was

-- b has the node with this place too, if there is one
pub record KeepsDouble (id : FullNodeId) (place : Option Place) (a b : Settled) : Type 0 where
  pub doubles : b.doubles.items ≡ a.doubles.items ++ option_to_list (option_map (λ p. (id, p)) place)
  pub adopters : b.adopters ≡ a.adopters
  pub moved : b.has_moved ≡ a.has_moved

-- the node was in the list of this parent
abbrev pub WasBelow : Option (Option Place) → FullNodeId → Type 0
WasBelow was parent = (k : ℕ) × (was ≡ Some (Some (parent, k)))

-- b has the parent as an adopter too, unless the node was below it
pub record KeepsAdopter (parent : FullNodeId) (was : Option (Option Place)) (a b : Settled) : Type 0 where
  pub below : WasBelow was parent → b ≡ a
  pub here : ¬ (WasBelow was parent) → has b.adopters parent × (b.has_moved ≡ (a.has_moved || is_some was))
  pub others : (n : FullNodeId) → parent ≢ n → has b.adopters n ↔ has a.adopters n
  pub doubles : b.doubles ≡ a.doubles

-- what is kept is so
pub record IsSettledSoFar (w : World) (u : UpdateData) (a : Settled) : Type 0 where
  pub found : (c : FullNodeId) (q : Place) → Contains a.doubles.items (c, q) → HasEntered w u c × Lists w q c × Lists (merged_world w u) q c
  pub adopters : (n : FullNodeId) → has a.adopters n → Adopts w u n

-- b has what a has
pub record Settles (a b : Settled) : Type 0 where
  pub doubles : (c : FullNodeId) (q : Place) → Contains a.doubles.items (c, q) → Contains b.doubles.items (c, q)
  pub adopters : (n : FullNodeId) → has a.adopters n → has b.adopters n
  pub moved : b.has_moved ≡ false → a.has_moved ≡ false

-- a node that entered this spot is settled
pub record IsSettledAt (w : World) (u : UpdateData) (c : FullNodeId) (s : Seat) (a : Settled) : Type 0 where
  pub is_node : IsNode (merged_world w u) c
  pub unlisted : (p : Place) → s ≡ Some p → root_of (merged_world w u) (index_for w u.name) ≢ Some c
  pub doubled : (q : Place) → Lists w q c → Lists (merged_world w u) q c → Contains a.doubles.items (c, q)
  pub adopter : (p : Place) → s ≡ Some p → ((j : ℕ) → ¬ (Lists w (p.0, j) c)) → has a.adopters p.0
  pub unmoved : a.has_moved ≡ false → (p : Place) → s ≡ Some p → IsNode w c → (k : ℕ) × Lists w (p.0, k) c

-- one node that entered this spot is settled, from a to b
pub record SettlesOne (w : World) (u : UpdateData) (c : FullNodeId) (s : Seat) (a b : Settled) : Type 0 where
  pub so_far : IsSettledSoFar w u b
  pub keeps : Settles a b
  pub here : IsSettledAt w u c s b
