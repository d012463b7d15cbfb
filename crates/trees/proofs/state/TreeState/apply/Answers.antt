use Rattle.std.proofs.Common.{◌*◌, ◌∙◌, sym, ap, subst}
use Rattle.schema.specs.UpdateData.{update_data}
use Rattle.model.specs.Differences.{events}
use Rattle.model.specs.State.{IsState}
use Rattle.tree_changes.specs.Changes.{overlaid_world}
use Rattle.tree_changes.specs.Decisions.{IsDecision}
use Rattle.tree_changes.specs.LookUps.{IsRaisedBy}
use Rattle.trees.proofs.PlanEvents.{told_differences}
use Rattle.trees.proofs.Deciding.{views_tellable, does_accepted, events_counted}
use Rattle.trees.proofs.state.TreeState.apply.Goals as goal

pub tell_all-requires : goal.tell_all-requires
tell_all-requires g c =
    let old = c.new-old.ensures ∙ c.reserve.ensures.same ∙ c.self.view_is in
    let new = c.of_laid-new.ensures ∙ c.over-laid.ensures ∙ ap (λ w. overlaid_world w (update_data c.args.update) c.args.decision) (c.reserve.ensures.same ∙ c.self.view_is) in
    views_tellable c.args.self.now (update_data c.args.update) c.args.decision (subst IsState old c.know.ensures.state) c.requires _ _ _ old new c.as_slice.ensures.value

pub commit-requires-clause-decided : goal.commit-requires-clause-decided
commit-requires-clause-decided g c = subst (λ w. IsDecision w (update_data c.args.update) c.args.decision) (sym (c.reserve.ensures.same ∙ c.self.view_is)) c.requires

pub returns-clause-does : goal.returns-clause-does
returns-clause-does g c =
    let old = c.new-old.ensures ∙ c.reserve.ensures.same ∙ c.self.view_is in
    let same = ap (λ w. overlaid_world w (update_data c.args.update) c.args.decision) (c.reserve.ensures.same ∙ c.self.view_is) in (
      events c.args.self.now c.commit.new.self.world c.args.decision.events.items,
      does_accepted c.args.self.now (update_data c.args.update) c.args.decision (subst IsState old c.know.ensures.state) c.requires c.commit.new.self.world (c.commit.ensures.world ∙ same),
      told_differences g.H.TreeChangeHandler.steps c.args.handler.now c.tell_all.new.handler _ c.args.self.now _ c.commit.new.self.world _ c.args.decision.events.items
          old (c.of_laid-new.ensures ∙ c.over-laid.ensures ∙ sym c.commit.ensures.world) c.as_slice.ensures.value c.tell_all.ensures,
    )

pub returns-clause-counted : goal.returns-clause-counted
returns-clause-counted g c =
    let w = c.args.self.now in
    let u = update_data c.args.update in
    let old = c.new-old.ensures ∙ c.reserve.ensures.same ∙ c.self.view_is in
    let same = ap (λ x. overlaid_world x u c.args.decision) (c.reserve.ensures.same ∙ c.self.view_is) in
    events_counted w c.commit.new.self.world u c.args.decision c.args.steps.now c.add.new.self
    (does_accepted w u c.args.decision (subst IsState old c.know.ensures.state) c.requires c.commit.new.self.world (c.commit.ensures.world ∙ same))
    (subst (λ n. IsRaisedBy c.args.steps.now (2 * n) c.add.new.self) c.change_count.ensures.is c.add.ensures.raised)
