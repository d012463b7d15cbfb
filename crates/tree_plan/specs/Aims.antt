-- The end of the focus's chain, and what is read of a node on the way.
use Rattle.std.specs.Prelude.{◌≡◌, Option, Some, None, IsSome, MatchOption, true, false, ◌⊎◌}
use Rattle.std.specs.Option.{option_map}
use Rattle.schema.specs.NodeData.{NodeData}
use Rattle.model.specs.declared.FullNodeId.{FullNodeId}
use Rattle.model.specs.World.{World, IsNode, HasData, in_tree, graft_name, Reached}
use Rattle.model.specs.Focus.{OnChain}
use Rattle.model.specs.Update.{UpdateData, IsNamed, merged_world}
use Rattle.model.specs.Surgery.{Gone}
use Rattle.tree_plan.specs.declared.passes.Compared.{Compared}
use Rattle.tree_plan.specs.declared.passes.Removed.{Removed}
use Rattle.tree_plan.specs.declared.focusing.Aim.{Aim}
use Rattle.tree_plan.specs.declared.focusing.End.{End}
use Rattle.tree_plan.specs.Passes.{at, has}

abbrev pub IsAimOf : NodeData → Aim → Type 0
IsAimOf d a = (a.graft ≡ d.tree_id) × (a.active ≡ d.active_descendant)

-- what is read of a node of the world
abbrev pub IsAimIn : World → FullNodeId → Aim → Type 0
IsAimIn w id a = (d : NodeData) × HasData w id d × IsAimOf d a

-- the effective focus, with its active descendant
abbrev pub IsEnd : World → End → Type 0
IsEnd w e =
    OnChain w e.id × (d : NodeData) × HasData w e.id d × (d.tree_id ≡ None)
    × (e.active ≡ option_map (in_tree e.id.tree) d.active_descendant)

-- the active descendant if it exists, and otherwise the effective focus itself
abbrev pub Answers : (FullNodeId → Type 0) → End → FullNodeId → Type 0
Answers IsThere e id = ((e.active ≡ Some id) × IsThere id) ⊎ ((id ≡ e.id) × ((a : FullNodeId) → e.active ≡ Some a → ¬ (IsThere a)))

-- the node is in the update, or existed before and isn't removed
abbrev pub IsStaying : World → Compared → Removed → FullNodeId → Type 0
IsStaying w c r id = IsSome (at c.named id) ⊎ (IsNode w id × ¬ (has r.gone id))

-- the node isn't in the update, and is removed or didn't exist
abbrev pub IsLost : World → UpdateData → FullNodeId → Type 0
IsLost w u id = ¬ (IsNamed w u id) × (Gone w u id ⊎ ¬ (IsNode w id))

-- what is read of a node after the update, and nothing for a lost one
abbrev pub FindsAim : World → UpdateData → Compared → Removed → FullNodeId → Option Aim → Type 0
FindsAim w u c r id aim = MatchOption aim (IsLost w u id) (λ a. IsStaying w c r id × IsAimIn (merged_world w u) id a)

-- the result if the host is focused, and otherwise none
abbrev pub AnswersHost : World → (FullNodeId → Type 0) → End → Option FullNodeId → Type 0
AnswersHost w IsThere e answer = MatchOption answer (w.host_focused ≡ false) (λ id. (w.host_focused ≡ true) × Answers IsThere e id)

-- a reached node on the chain of the focus that grafts nothing
abbrev pub EndsWell : World → FullNodeId → Type 0
EndsWell m id = OnChain m id × Reached m id × (graft_name m id ≡ None)
