use Rattle.std.proofs.Common.{refl, sym, ap, ◌∙◌}
use Rattle.schema.specs.UpdateData.{UpdateData}
use Rattle.model.specs.World.{World, focus_named}
use Rattle.model.specs.Update.{merged_world}
use Rattle.tree_plan.specs.Cases.{sent}
use Rattle.tree_plan.proofs.FocusWays.{focus_here, focus_elsewhere}
use Rattle.tree_plan.proofs.focusing.declared_after.Goals as goal

pub returns-then-is_same_tree-clause-focus : goal.returns-then-is_same_tree-clause-focus
returns-then-is_same_tree-clause-focus g c =
    let w : World = g.L.LookUps.world c.args.look_ups.now in
    let u : UpdateData = sent c.args.case.now in
    sym (focus_here w u c.requires.case.old c.args.case.now.opened.now c.requires.case.opening) ∙ ap (focus_named (merged_world w u)) (sym (c.if-is_same_tree.ensures.0 refl))

pub returns-clause-focus : goal.returns-clause-focus
returns-clause-focus g c =
    let w : World = g.L.LookUps.world c.args.look_ups.now in
    let u : UpdateData = sent c.args.case.now in
    c.declared.ensures.focus ∙ sym (focus_elsewhere w u c.requires.case.old c.args.name.now (λ same. let no = c.if-is_same_tree.ensures.1 same in cc))
