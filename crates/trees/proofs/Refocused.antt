-- What is told of the focus.
use Rattle.std.proofs.Common.{◌≡◌, List, [], ◌∷◌, ◌++◌, map, Option, Some, refl, sym, subst, inl, inr}
use Rattle.std.specs.Prelude.{◌≢◌}
use Rattle.std.proofs.lemmas.List.{map-append}
use Rattle.model.specs.declared.FullNodeId.{FullNodeId}
use Rattle.model.specs.World.{World, IsNode}
use Rattle.model.specs.Focus.{IsFocus}
use Rattle.model.specs.Events.{Event, Told}
use Rattle.model.specs.declared.events.PlanEvent.{PlanEvent}
use Rattle.model.specs.declared.events.PlanEvent.TheVariants.{Updated, FocusMoved as Refocused}
use Rattle.model.specs.Differences.{IsToldForFocus, AreOfFocus, event, events}
use Rattle.model.proofs.Differences.Tellings.{told_append, told_more}
use Rattle.model.proofs.Members.{contains_none}

-- a handler that is told of a change from one world to another
module _ {H : Type 0} (steps : H → Event → H → Type 0) (old new : World) where
  pub told_in_both : (o : Option FullNodeId) (id : FullNodeId) (s t : H) → o ≡ Some id → IsNode old id → IsNode new id → steps s (event old new (Updated id)) t
      → (ids : List FullNodeId) × IsToldForFocus old new [] o ids × Told steps s (events old new (map Updated ids)) t
  told_in_both o id s t is before after step =
      subst (λ x. (ids : List FullNodeId) × IsToldForFocus old new [] x ids × Told steps s (events old new (map Updated ids)) t) (sym is)
      (id ∷ [], inl (((before, after), contains_none id), refl), (t, (step, refl)))

  told_parts : (s m n t : H) (xs ys : List PlanEvent) (d : PlanEvent) → Told steps s (events old new xs) m → Told steps m (events old new ys) n → steps n (event old new d) t → Told steps s (events old new (xs ++ ys ++ d ∷ [])) t
  told_parts s m n t xs ys d first second third =
      let both : Told steps s (events old new (xs ++ ys)) n =
      subst (λ es. Told steps s es n) (sym (map-append (event old new) xs ys)) (told_append steps s m n (events old new xs) (events old new ys) first second) in
      subst (λ es. Told steps s es t) (sym (map-append (event old new) (xs ++ ys) (d ∷ []))) (told_more steps s n t (events old new (xs ++ ys)) (event old new d) both third)

  pub told_of_focus : (before after : Option FullNodeId) (s m n t : H) → IsFocus old before → IsFocus new after → before ≢ after
      → (left : (ids : List FullNodeId) × IsToldForFocus old new [] before ids × Told steps s (events old new (map Updated ids)) m)
      → (entered : (ids : List FullNodeId) × IsToldForFocus old new [] after ids × Told steps m (events old new (map Updated ids)) n)
      → steps n (event old new (Refocused before after)) t
      → (differences : List PlanEvent) × AreOfFocus old new [] differences × Told steps s (events old new differences) t
  told_of_focus before after s m n t focus_before focus_after differ left entered step = (
    map Updated left.0 ++ map Updated entered.0 ++ Refocused before after ∷ [],
    (before, after, focus_before, focus_after, inr (differ, left.0, entered.0, left.1, entered.1, refl)),
    told_parts s m n t (map Updated left.0) (map Updated entered.0) (Refocused before after) left.2 entered.2 step,
  )
