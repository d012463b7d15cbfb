use Rattle.std.proofs.Common.{rules, ◌≡◌, ◌∙◌, Some, None, inl, inr, refl, sym}
use Rattle.model.specs.World.{Place}
use Rattle.tree_changes.specs.declared.decision.NodeChange.{NodeChange}
use Rattle.tree_plan.specs.Passes.{at}
use Rattle.tree_plan.proofs.moves.parent_after.Goals as goal

pub returns-in-Some-clause-above : goal.returns-in-Some-clause-above
returns-in-Some-clause-above g c =
    let x : NodeChange = c.in-Some.change in
    let p : Place = (c.in_ok-parent.parent, c.in_ok-parent.field-0-1) in
    let found : at c.args.rows.now c.args.id ≡ Some x = sym c.change_of.ensures ∙ c.in-Some.is in
    let placed : c.place_after.result ≡ Some p = search rules in
    (p, refl, inl (x, found, sym c.place_after.ensures ∙ placed))

pub returns-clause-above : goal.returns-clause-above
returns-clause-above g c =
    let p : Place = (c.in_ok-parent-2.parent, c.in_ok-parent-2.field-0-1) in
    let none : at c.args.rows.now c.args.id ≡ None = sym c.change_of.ensures ∙ c.in_default.is in
    let placed : c.in_ok-record.record.place ≡ Some p = search rules in
    (p, refl, inr (none, (c.in_ok-record.ensures.given.place p).0 placed))
