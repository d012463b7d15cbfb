use Rattle.std.proofs.Common.{◌∙◌, sym, subst, Some, None}
use Rattle.model.specs.Focus.{Resolves}
use Rattle.views.specs.ShownWorlds.{world_of}
use Rattle.views.specs.Nodes.{id_at, ShowsThe}
use Rattle.views.proofs.Focusing.{active_shown, itself_shown}
use Rattle.views.proofs.state_ref.StateRef.focus.Goals as goal

pub returns-in-Some-clause-node : goal.returns-in-Some-clause-node
returns-in-Some-clause-node c =
    let f = c.focus_in_tree-focus in
    active_shown (world_of c.args.self.now) (id_at f.result) (id_at f.result) (sym c.is_host_focused.ensures ∙ c.if-not-is_host_focused.false) f.ensures.node c.in-Some.active
    (subst (λ v. ShowsThe v (Resolves v (id_at f.result)) (Some c.in-Some.active)) f.ensures.world c.in-Some.ensures)

pub returns-in-None-clause-node : goal.returns-in-None-clause-node
returns-in-None-clause-node c =
    let f = c.focus_in_tree-focus in
    itself_shown (world_of c.args.self.now) (id_at f.result) (id_at f.result) (sym c.is_host_focused.ensures ∙ c.if-not-is_host_focused.false) f.ensures.node
    (subst (λ v. ShowsThe v (Resolves v (id_at f.result)) None) f.ensures.world c.in-None.ensures)
