-- A plan's events as differences.
use Rattle.std.proofs.Common.{◌≡◌, List, [], subst}
use Rattle.model.specs.World.{World}
use Rattle.model.specs.declared.events.PlanEvent.{PlanEvent}
use Rattle.model.specs.Events.{Event, Told}
use Rattle.model.specs.Differences.{AreOfFocus, events}

-- what is told between views of these worlds is told of these worlds
pub told_differences : {H : Type 0} (steps : H → Event → H → Type 0) (s t : H) (v old u new : World) (es fs : List PlanEvent) → v ≡ old → u ≡ new → es ≡ fs → Told steps s (events v u es) t → Told steps s (events old new fs) t
told_differences steps s t v old u new es fs is_old is_new same h =
    let a : Told steps s (events old u es) t = subst (λ x. Told steps s (events x u es) t) is_old h in
    let b : Told steps s (events old new es) t = subst (λ x. Told steps s (events old x es) t) is_new a in
    subst (λ x. Told steps s (events old new x) t) same b

-- and so is what is told of the focus
pub told_refocused : {H : Type 0} (steps : H → Event → H → Type 0) (s t : H) (v old u new : World) → v ≡ old → u ≡ new
    → (differences : List PlanEvent) × AreOfFocus v u [] differences × Told steps s (events v u differences) t
    → (differences : List PlanEvent) × AreOfFocus old new [] differences × Told steps s (events old new differences) t
told_refocused steps s t v old u new is_old is_new h =
    subst (λ x. (differences : List PlanEvent) × AreOfFocus old x [] differences × Told steps s (events old x differences) t) is_new
    (subst (λ x. (differences : List PlanEvent) × AreOfFocus x u [] differences × Told steps s (events x u differences) t) is_old h)
