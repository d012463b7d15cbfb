use Rattle.std.proofs.Common.{◌≡◌, ◌≢◌, ◌++◌, Option, Some, None, slice_get, option_map, option_to_list, rules, refl, sym, ap, subst, ◌∙◌}
use Rattle.model.specs.declared.FullNodeId.{FullNodeId}
use Rattle.model.specs.Surgery.{Seat}
use Rattle.tree_changes.specs.declared.decision.NodeChange.TheVariants.{Put}
use Rattle.tree_changes.specs.Changes.{NodeChanges}
use Rattle.tree_plan.specs.declared.moves.Moving.{Moving}
use Rattle.tree_plan.specs.Comparisons.{OnlyAt, ids_before, ids_after}
use Rattle.tree_plan.specs.Moves.{Compares}
use Rattle.tree_plan.proofs.MoveSteps.{compares_same, compares_here}
use Rattle.tree_plan.proofs.moves.Moving.compare_at.Goals as goal

pub returns-then-eq-clause-ok : goal.returns-then-eq-clause-ok
returns-then-eq-clause-ok c =
    let lists = c.args.lists.now in
    let k = c.args.index in
    let same : c.child_at-was.result ≡ c.child_at-is.result = search rules in
    λ _. compares_same (Some (lists.parent, k)) (slice_get (ids_before lists) k) (slice_get (ids_after lists) k) lists.parent c.args.self.now c.args.self.now (sym c.child_at-was.ensures ∙ same ∙ c.child_at-is.ensures) refl

pub returns-clause-ok : goal.returns-clause-ok
returns-clause-ok c =
    let lists = c.args.lists.now in
    let k = c.args.index in
    let parent = lists.parent in
    let spot : Seat = Some (parent, k) in
    let a : Moving = c.args.self.now in
    let b : Moving = c.enter.new.self in
    let was = c.child_at-was.result in
    let is = c.child_at-is.result in
    let apart : was ≢ is = search rules in
    let left : b.left.items ≡ a.left.items ++ option_to_list (option_map (λ id. (id, parent)) was) = ap (λ x. x.items) c.enter.ensures.rest ∙ c.in_ok-leave.ensures.ok in
    let changes : b.changes ≡ a.changes ++ option_to_list (option_map (λ id. (id, Put spot None)) is) = c.in_ok-enter.ensures.ok ∙ ap (λ (xs : NodeChanges). xs ++ option_to_list (option_map (λ id. (id, Put spot None)) is)) c.leave.ensures.rest in
    let here : Compares (OnlyAt spot was is) (OnlyAt spot is was) parent a b = compares_here spot was is parent a b apart left changes in
    let P : Option FullNodeId → Option FullNodeId → Type 0 = λ x y. Compares (OnlyAt spot x y) (OnlyAt spot y x) parent a b in
    λ _. subst (λ y. P (slice_get (ids_before lists) k) y) c.child_at-is.ensures (subst (λ x. P x is) c.child_at-was.ensures here)
