-- The events of a moved focus, as a list.
use Rattle.std.proofs.Common.{◌≡◌, List, [], ◌∷◌, ◌++◌, map, Option, Some, refl, sym, subst, inl}
use Rattle.model.specs.declared.FullNodeId.{FullNodeId}
use Rattle.model.specs.World.{World, IsNode}
use Rattle.model.specs.declared.events.PlanEvent.{PlanEvent}
use Rattle.model.specs.declared.events.PlanEvent.TheVariants.{Updated}
use Rattle.model.specs.Differences.{IsToldForFocus}
use Rattle.model.proofs.Members.{contains_none}

-- a node that is in both states is added
pub added_in_both : (old new : World) (o : Option FullNodeId) (id : FullNodeId) (xs ys : List PlanEvent) → o ≡ Some id → IsNode old id
    → IsNode new id → ys ≡ xs ++ Updated id ∷ []
    → (ids : List FullNodeId) × IsToldForFocus old new [] o ids × (ys ≡ xs ++ map Updated ids)
added_in_both old new o id xs ys is before after e =
    subst (λ x. (ids : List FullNodeId) × IsToldForFocus old new [] x ids × (ys ≡ xs ++ map Updated ids)) (sym is)
    (id ∷ [], inl (((before, after), contains_none id), refl), e)
