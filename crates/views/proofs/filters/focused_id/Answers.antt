use Rattle.std.proofs.Common.{◌∙◌, sym, subst, Some, None}
use Rattle.model.specs.Focus.{Resolves}
use Rattle.views.specs.ShownWorlds.{world_of}
use Rattle.views.specs.Nodes.{id_at, ShowsThe}
use Rattle.views.proofs.Focusing.{is_not}
use Rattle.views.proofs.FocusTests.{focus_itself, focus_names_itself, focus_names_another}
use Rattle.views.proofs.filters.focused_id.Goals as goal

pub returns-in_default : goal.returns-in_default
returns-in_default c =
    let f = c.focus_in_tree-focus in
    focus_itself (world_of c.args.state) c.know.ensures.state (id_at f.result) f.ensures.node (sym c.is_host_focused.ensures ∙ c.if-not-is_host_focused.false)
    (subst (λ v. ShowsThe v (Resolves v (id_at f.result)) None) f.ensures.world c.in_default.ensures)

pub returns-then-is_same : goal.returns-then-is_same
returns-then-is_same c =
    let f = c.focus_in_tree-focus in
    focus_names_itself (world_of c.args.state) c.know.ensures.state (id_at f.result) f.ensures.node (sym c.is_host_focused.ensures ∙ c.if-not-is_host_focused.false) c.in-Some.active
    (subst (λ v. ShowsThe v (Resolves v (id_at f.result)) (Some c.in-Some.active)) f.ensures.world c.in-Some.ensures) (c.is_same.ensures.0 c.if-is_same.true)

pub returns : goal.returns
returns c =
    let f = c.focus_in_tree-focus in
    focus_names_another (world_of c.args.state) c.know.ensures.state (id_at f.result) f.ensures.node (sym c.is_host_focused.ensures ∙ c.if-not-is_host_focused.false) c.in-Some.active
    (subst (λ v. ShowsThe v (Resolves v (id_at f.result)) (Some c.in-Some.active)) f.ensures.world c.in-Some.ensures) (is_not c.is_same.result _ c.is_same.ensures c.if-is_same.false)
