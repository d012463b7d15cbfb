-- The ends of what a filter shows below a node.
use Rattle.std.specs.Prelude.{◌≡◌, ◌-◌, length, slice_get, Option, Some, None}
use Rattle.model.specs.declared.FullNodeId.{FullNodeId}
use Rattle.model.specs.declared.filters.FilterResult.{FilterResult}
use Rattle.model.specs.World.{World}
use Rattle.model.specs.Frontier.{filtered_children}
use Rattle.views.specs.declared.node.node_ref.NodeRef.{NodeRef}
use Rattle.views.specs.Follows.{Follows}

abbrev pub first_shown : (FullNodeId → FilterResult) → World → FullNodeId → Option FullNodeId
first_shown f w id = slice_get (filtered_children f w id) 0

abbrev pub last_shown : (FullNodeId → FilterResult) → World → FullNodeId → Option FullNodeId
last_shown f w id = slice_get (filtered_children f w id) (length (filtered_children f w id) - 1)

-- from a node, step by step, to one from which there is no step
pub data LeadsToEnd (step : FullNodeId → Option FullNodeId) : FullNodeId → FullNodeId → Type 0 where
  ends : (id : FullNodeId) → step id ≡ None → LeadsToEnd step id id
  goes : (id next last : FullNodeId) → step id ≡ Some next → LeadsToEnd step next last → LeadsToEnd step id last

-- the first step leads to a node, and on from there to the last; or there is none
abbrev pub IsDeepest : (FullNodeId → Option FullNodeId) → FullNodeId → Option FullNodeId → Type 0
IsDeepest step id None = step id ≡ None
IsDeepest step id (Some last) = (next : FullNodeId) × (step id ≡ Some next) × LeadsToEnd step next last

-- by a function that the filter follows in this world, the steps go where it shows
abbrev pub LeadsByFilter : (NodeRef → FilterResult → Type 0) → ((FullNodeId → FilterResult) → World → FullNodeId → Option FullNodeId)
    → World → (FullNodeId → Option FullNodeId) → Type 0
LeadsByFilter answers shown w step = (f : FullNodeId → FilterResult) × Follows answers w f × (step ≡ shown f w)
