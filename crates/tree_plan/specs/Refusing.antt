-- What is listed nowhere or twice, and a search for what is reached.
use Rattle.std.specs.Prelude.{◌≡◌, ℕ, List, Contains, Some, None, IsSome, slice_get, ◌⊎◌, ◌↔◌}
use Rattle.std.specs.BTreeSet.{BTreeSet}
use Rattle.model.specs.declared.FullNodeId.{FullNodeId}
use Rattle.model.specs.World.{World, Place, Reached}
use Rattle.model.specs.State.{Lists}
use Rattle.model.specs.Update.{UpdateData, index_for, merged_world}
use Rattle.model.specs.Surgery.{Seat, Entered, Gone}
use Rattle.tree_changes.specs.declared.error.UpdateError.{UpdateError}
use Rattle.tree_changes.specs.declared.error.UpdateError.TheVariants as error
use Rattle.tree_plan.specs.declared.passes.Named.{Named}
use Rattle.tree_plan.specs.declared.passes.Compared.{Compared}
use Rattle.tree_plan.specs.declared.passes.Removed.{Removed}
use Rattle.tree_plan.specs.declared.refusing.Search.{Search}
use Rattle.tree_plan.specs.Passes.{at, has}

-- it is new and entered no spot
abbrev pub IsNowhere : Compared → FullNodeId → Named → Type 0
IsNowhere c id n = (n.was ≡ None) × (at c.entered id ≡ None)

-- a new named node that entered no spot
abbrev pub IsUnlisted : Compared → FullNodeId → Type 0
IsUnlisted c id = (n : Named) × (at c.named id ≡ Some n) × IsNowhere c id n

abbrev pub AreListed : Compared → Type 0
AreListed c = (id : FullNodeId) → ¬ (IsUnlisted c id)

-- the error names such a node
abbrev pub IsOfUnlisted : Compared → UpdateError → Type 0
IsOfUnlisted c e = (id : FullNodeId) × IsUnlisted c id × (e ≡ error.NotReached id.node)

-- the parent of this place doesn't go
abbrev pub IsKept : Removed → Place → Type 0
IsKept r place = ¬ (has r.gone place.0)

-- a node that entered is still listed where it was, by a node that doesn't go
abbrev pub IsListedStill : World → UpdateData → FullNodeId → Type 0
IsListedStill w u c = (s : Seat) × (q : Place) × Entered w u s c × Lists w q c × Lists (merged_world w u) q c × ¬ (Gone w u q.0)

-- what is seen is what the queue has
abbrev pub IsSearch : Search → Type 0
IsSearch s = (id : FullNodeId) → has s.seen id ↔ Contains s.queue.items id

-- b has what a has, in its order, and these
pub record Enqueues (ids : List FullNodeId) (a b : Search) : Type 0 where
  pub search : IsSearch b
  pub queue : (i : ℕ) (id : FullNodeId) → slice_get a.queue.items i ≡ Some id → slice_get b.queue.items i ≡ Some id
  pub added : (id : FullNodeId) → Contains ids id → Contains b.queue.items id
  pub only : (id : FullNodeId) → Contains b.queue.items id → Contains a.queue.items id ⊎ Contains ids id

-- b has what a has and what these list afterwards, and so on, and nothing that isn't reached where those are
pub record SearchesAll (w : World) (u : UpdateData) (a b : Search) : Type 0 where
  pub search : IsSearch b
  pub kept : (id : FullNodeId) → Contains a.queue.items id → Contains b.queue.items id
  pub closed : (p : Place) (c : FullNodeId) → Contains b.queue.items p.0 → Lists (merged_world w u) p c → Contains b.queue.items c
  pub reached : ((id : FullNodeId) → Contains a.queue.items id → Reached (merged_world w u) id × (id.tree ≡ index_for w u.name))
      → (id : FullNodeId) → Contains b.queue.items id → Reached (merged_world w u) id × (id.tree ≡ index_for w u.name)

-- the nodes of the named tree that are reached afterwards
abbrev pub HasReached : World → UpdateData → BTreeSet FullNodeId → Type 0
HasReached w u s = (id : FullNodeId) → has s id ↔ (Reached (merged_world w u) id × (id.tree ≡ index_for w u.name))

-- the error names a node of the update that isn't reached, or, if all are reached, the double
abbrev pub Explains : Compared → BTreeSet FullNodeId → FullNodeId → UpdateError → Type 0
Explains c reached double e =
    ((id : FullNodeId) × IsSome (at c.named id) × ¬ (has reached id) × (e ≡ error.NotReached id.node))
    ⊎ (((id : FullNodeId) → IsSome (at c.named id) → has reached id) × (e ≡ error.ListedTwice double.node))
