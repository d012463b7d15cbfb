use Rattle.std.proofs.Common.{◌∙◌, sym, ap}
use Rattle.views.specs.ShownWorlds.{world_of}
use Rattle.trees.proofs.PlanEvents.{told_refocused}
use Rattle.trees.proofs.state.TreeState.refocus.Goals as goal

pub returns-clause-told : goal.returns-clause-told
returns-clause-told g c =
    told_refocused g.H.TreeChangeHandler.steps c.args.handler.now c.tell_focus.new.handler (world_of c.new-old.result) c.args.self.now (world_of c.of_laid.result) c.set_host_focused.new.self.world
    (c.new-old.ensures ∙ c.self.view_is) (c.of_laid.ensures ∙ c.with_host_focused-laid.ensures ∙ sym (ap (λ k. k.world) c.set_host_focused.ensures)) c.tell_focus.ensures
