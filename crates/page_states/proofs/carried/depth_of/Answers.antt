use Rattle.std.proofs.Common.{◌+◌, ◌-◌, ◌^◌, min, Some, ap, subst, ◌∙◌}
use Rattle.model.specs.Forest.{IsFormed}
use Rattle.views.specs.Nodes.{world_at, id_at}
use Rattle.page_states.specs.Known.{IsStepAbove}
use Rattle.page_states.proofs.Carrying.{depth_below}
use Rattle.page_states.proofs.carried.depth_of.Goals as goal

pub returns-in-Some : goal.returns-in-Some
returns-in-Some c =
    let w = world_at c.args.node in
    let above : IsStepAbove w (id_at c.args.node) (Some c.in-Some.step) = subst (IsStepAbove w (id_at c.args.node)) c.in-Some.is c.requires in
    c.saturating_add.ensures ∙ ap (λ n. min (n + 1) (2 ^ 64 - 1)) above.1.depth
    ∙ depth_below w (subst IsFormed c.tree_state.ensures c.know.ensures.formed) (id_at c.args.node) c.in-Some.step.id above.0
