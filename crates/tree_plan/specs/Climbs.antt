-- The way up from a node, by the parents after the update.
use Rattle.std.specs.Prelude.{◌≡◌, ℕ, ◌+◌, List, [], ◌∷◌, Contains, MatchOption, Some, None, IsSome, false, ◌⊎◌, slice_get, take}
use Rattle.std.specs.BTreeMap.{BTreeMap}
use Rattle.model.specs.declared.FullNodeId.{FullNodeId}
use Rattle.model.specs.World.{World, in_tree, StandsAt, IsNode, Reached}
use Rattle.model.specs.Update.{UpdateData, merged_world}
use Rattle.model.specs.Surgery.{Adopts, LeadsDown}
use Rattle.model.specs.Work.{named_ids}
use Rattle.tree_changes.specs.LookUps.{IsPlaceOf}
use Rattle.tree_plan.specs.declared.passes.Opened.{Opened}
use Rattle.tree_plan.specs.declared.passes.Named.{Named}
use Rattle.tree_plan.specs.declared.passes.Settled.{Settled}
use Rattle.tree_plan.specs.declared.passes.Compared.{Compared}
use Rattle.tree_plan.specs.Passes.{at, entered_at}

-- the parent of the spot that the node entered, or, where it entered none, of its old place
abbrev pub IsNext : World → Compared → FullNodeId → FullNodeId → Type 0
IsNext w c id parent = (k : ℕ) × ((entered_at c id ≡ Some (Some (parent, k))) ⊎ ((at c.entered id ≡ None) × StandsAt w (parent, k) id))

-- the old place of a named node, if it is an old node
abbrev pub IsOldPlace : World → FullNodeId → Named → Type 0
IsOldPlace w id n = MatchOption n.was (¬ (IsNode w id)) (λ was. IsPlaceOf w id was)

-- the node is the root, or an old node of the update if no old node has moved
abbrev pub IsKnown : Opened → Compared → Settled → FullNodeId → Type 0
IsKnown o c s id = (id ≡ in_tree o.index o.root) ⊎ ((s.has_moved ≡ false) × (n : Named) × (at c.named id ≡ Some n) × IsSome n.was)

-- the nodes of the first entries
abbrev pub first_ids : World → UpdateData → ℕ → List FullNodeId
first_ids w u n = take n (named_ids w u)

-- the nodes that climbs from these nodes came to, each with the node from which it was: all of them are reached
pub record AreClimbed (w : World) (u : UpdateData) (starts : List FullNodeId) (climbed : BTreeMap FullNodeId FullNodeId) : Type 0 where
  pub reached : (n q : FullNodeId) → at climbed.entries n ≡ Some q → Reached (merged_world w u) n
  pub begun : (n q : FullNodeId) → at climbed.entries n ≡ Some q → Contains starts q

-- in this many steps a climb from q came to a reached node, or it stayed where it began
abbrev pub IsWay : World → UpdateData → FullNodeId → ℕ → Type 0
IsWay w u q steps = (x : FullNodeId) × LeadsDown (merged_world w u) x q steps × (Reached (merged_world w u) x ⊎ (x ≡ q))

-- the node of this entry is reached if it got a child, and this many steps are climbed from it
pub record IsClimbedFrom (w : World) (u : UpdateData) (entry steps : ℕ) : Type 0 where
  pub start : FullNodeId
  pub at : slice_get (named_ids w u) entry ≡ Some start
  pub reached : Adopts w u start → Reached (merged_world w u) start
  pub way : IsWay w u start steps

-- the steps of climbs from these nodes, in sum
abbrev pub AreWays : World → UpdateData → List FullNodeId → ℕ → Type 0
AreWays w u [] sum = sum ≡ 0
AreWays w u (q ∷ qs) sum = (steps others : ℕ) × IsWay w u q steps × AreWays w u qs others × (sum ≡ steps + others)
