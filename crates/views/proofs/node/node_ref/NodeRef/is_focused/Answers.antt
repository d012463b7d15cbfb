use Rattle.std.proofs.Common.{◌∙◌, sym, subst, Some, None}
use Rattle.model.specs.Focus.{Resolves}
use Rattle.views.specs.Nodes.{world_at, id_at, ShowsThe}
use Rattle.views.proofs.Focusing.{is_not, at_focus, elsewhere, nowhere}
use Rattle.views.proofs.node.node_ref.NodeRef.is_focused.Goals as goal

pub returns-then-is_same : goal.returns-then-is_same
returns-then-is_same c =
    let f = c.focus_in_tree-focus in
    at_focus (world_at c.args.self.now) (id_at c.args.self.now) (id_at f.result) (sym c.is_host_focused.ensures ∙ c.if-not-is_host_focused.false) f.ensures.node c.active_descendant-active.result c.is_none.result (c.is_same.ensures.0 c.if-is_same.true)
    (subst (λ v. ShowsThe v (Resolves v (id_at f.result)) c.active_descendant-active.result) f.ensures.world c.active_descendant-active.ensures) c.is_none.ensures

pub returns-in-Some : goal.returns-in-Some
returns-in-Some c =
    let f = c.focus_in_tree-focus in
    elsewhere (world_at c.args.self.now) (id_at c.args.self.now) (id_at f.result) (sym c.is_host_focused.ensures ∙ c.if-not-is_host_focused.false) f.ensures.node c.in-Some.active c.is_same-in-Some.result (is_not c.is_same.result _ c.is_same.ensures c.if-is_same.false)
    (subst (λ v. ShowsThe v (Resolves v (id_at f.result)) (Some c.in-Some.active)) f.ensures.world c.in-Some.ensures) c.is_same-in-Some.ensures

pub returns-in-None : goal.returns-in-None
returns-in-None c =
    let f = c.focus_in_tree-focus in
    nowhere (world_at c.args.self.now) (id_at c.args.self.now) (id_at f.result) (sym c.is_host_focused.ensures ∙ c.if-not-is_host_focused.false) f.ensures.node (is_not c.is_same.result _ c.is_same.ensures c.if-is_same.false)
    (subst (λ v. ShowsThe v (Resolves v (id_at f.result)) None) f.ensures.world c.in-None.ensures)
