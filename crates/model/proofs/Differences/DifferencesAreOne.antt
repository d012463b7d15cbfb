-- Two worlds have one list of differences.
use Rattle.std.proofs.Common.{◌≡◌, List, [], ◌∷◌, ◌++◌, Option, Some, None, ◌⊎◌, inl, inr, sym, ap, subst, ◌∙◌, map}
use Rattle.model.specs.declared.FullNodeId.{FullNodeId}
use Rattle.model.specs.World.{World}
use Rattle.model.specs.Differences.{PlanEvent, Added, Updated, FocusMoved, Removed, IsAloneIf, IsToldForFocus, AreOfFocus, AreDifferences}
use Rattle.model.proofs.Focus.FocusIsOne.{focus_unique}
use Rattle.model.proofs.Ascending.{ascending_list_unique}

alone_unique : (P : Type 0) (id : FullNodeId) (xs ys : List FullNodeId) → IsAloneIf P id xs → IsAloneIf P id ys → xs ≡ ys
alone_unique P id xs ys (inl a) (inl b) = a.1 ∙ sym b.1
alone_unique P id xs ys (inl a) (inr b) = absurd (b.0 a.0)
alone_unique P id xs ys (inr a) (inl b) = absurd (a.0 b.0)
alone_unique P id xs ys (inr a) (inr b) = a.1 ∙ sym b.1

told_for_focus_unique : (old new : World) (told : List FullNodeId) (focus : Option FullNodeId) (xs ys : List FullNodeId) → IsToldForFocus old new told focus xs → IsToldForFocus old new told focus ys → xs ≡ ys
told_for_focus_unique old new told None xs ys a b = a ∙ sym b
told_for_focus_unique old new told (Some id) xs ys a b = alone_unique _ id xs ys a b

-- the part of the focus, where the two foci are known
abbrev IsMove : World → World → List FullNodeId → Option FullNodeId → Option FullNodeId → List PlanEvent → Type 0
IsMove old new told before after ds =
    ((before ≡ after) × (ds ≡ []))
    ⊎ ((¬ (before ≡ after)) × (left entered : List FullNodeId) × IsToldForFocus old new told before left × IsToldForFocus old new told after entered
    × (ds ≡ map Updated left ++ map Updated entered ++ FocusMoved before after ∷ []))

move_unique : (old new : World) (told : List FullNodeId) (before after : Option FullNodeId) (xs ys : List PlanEvent) → IsMove old new told before after xs → IsMove old new told before after ys → xs ≡ ys
move_unique old new told before after xs ys (inl a) (inl b) = a.1 ∙ sym b.1
move_unique old new told before after xs ys (inl a) (inr b) = absurd (b.0 a.0)
move_unique old new told before after xs ys (inr a) (inl b) = absurd (a.0 b.0)
move_unique old new told before after xs ys (inr a) (inr b) =
    let left : a.1 ≡ b.1 = told_for_focus_unique old new told before a.1 b.1 a.3 b.3 in
    let entered : a.2 ≡ b.2 = told_for_focus_unique old new told after a.2 b.2 a.4 b.4 in
    a.5 ∙ ap (λ l. map Updated l ++ map Updated a.2 ++ FocusMoved before after ∷ []) left ∙ ap (λ e. map Updated b.1 ++ map Updated e ++ FocusMoved before after ∷ []) entered ∙ sym b.5

pub of_focus_unique : (old new : World) (told : List FullNodeId) (xs ys : List PlanEvent) → AreOfFocus old new told xs → AreOfFocus old new told ys → xs ≡ ys
of_focus_unique old new told xs ys a b =
    let before : a.0 ≡ b.0 = focus_unique old a.0 b.0 a.2 b.2 in
    let after : a.1 ≡ b.1 = focus_unique new a.1 b.1 a.3 b.3 in
    move_unique old new told b.0 b.1 xs ys (subst (λ f. IsMove old new told f b.1 xs) before (subst (λ f. IsMove old new told a.0 f xs) after a.4)) b.4

pub differences_unique : (old new : World) (root : Option FullNodeId) (xs ys : List PlanEvent) → AreDifferences old new root xs → AreDifferences old new root ys → xs ≡ ys
differences_unique old new root xs ys a b =
    let added : a.added ≡ b.added = ascending_list_unique _ a.added b.added a.are_added b.are_added in
    let updated : a.updated ≡ b.updated = ascending_list_unique _ a.updated b.updated a.are_updated b.are_updated in
    let removed : a.removed ≡ b.removed = ascending_list_unique _ a.removed b.removed a.are_removed b.are_removed in
    let focus : a.of_focus ≡ b.of_focus = of_focus_unique old new b.updated a.of_focus b.of_focus (subst (λ u. AreOfFocus old new u a.of_focus) updated a.are_of_focus) b.are_of_focus in
    let left : xs ≡ map Added a.added ++ map Updated a.updated ++ a.of_focus ++ map Removed a.removed = a.all in
    let right : ys ≡ map Added b.added ++ map Updated b.updated ++ b.of_focus ++ map Removed b.removed = b.all in
    cc
