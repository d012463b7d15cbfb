use Rattle.std.proofs.Common.{refl, [], ◌*◌, length, ◌∙◌, sym, ap, subst}
use Rattle.std.proofs.lemmas.Result.{err_from_is_err_and}
use Rattle.schema.specs.UpdateData.{update_data}
use Rattle.model.specs.Run.{ToUpdate, Accepted, Does}
use Rattle.tree_changes.specs.Changes.{overlaid_world}
use Rattle.tree_changes.specs.Decisions.{IsWithinWork}
use Rattle.tree_changes.specs.Refusals.{IsRefusal}
use Rattle.trees.specs.Replies.{reply_of}
use Rattle.trees.proofs.Deciding.{within, raised_further, done_moved, does_refused}
use Rattle.trees.proofs.tree_handle.Tree.update_and_process_changes_counted.Goals as goal

pub returns-in_err-decision-clause-does : goal.returns-in_err-decision-clause-does
returns-in_err-decision-clause-does g c =
    let w = c.args.self.now in
    let u = update_data c.args.update in
    let e = err_from_is_err_and c.from_residual.result c.from_residual.ensures.1 in
    let refusal = subst (λ x. IsRefusal x u e.0) c.self.view_is (subst (IsRefusal c.self.inside.state u) (sym e.2) c.in_err-decision.ensures.err) in
    let left = c.self.inside.state in
    ([], subst (λ r. Does w (ToUpdate u) left [] (reply_of r)) (sym e.1) (does_refused w left u e.0 refusal c.self.view_is), refl)

pub returns-clause-does : goal.returns-clause-does
returns-clause-does g c =
    done_moved g.H.TreeChangeHandler.steps c.args.handler.now c.apply.new.handler c.self.inside.state c.args.self.now c.apply.new.self (ToUpdate (update_data c.args.update)) Accepted c.self.view_is
    c.in_ok-apply.ensures.does

pub returns-clause-steps : goal.returns-clause-steps
returns-clause-steps g c =
    let u = update_data c.args.update in
    let d = c.in_ok-decision.decision in
    within c.args.self.now c.apply.new.self u d d.looked c.args.steps.now c.decide.new.steps c.apply.new.steps
    (c.in_ok-apply.ensures.state ∙ ap (λ w. overlaid_world w u d) c.self.view_is)
    (subst (λ w. IsWithinWork w u d 0 d.looked) c.self.view_is c.in_ok-decision.ensures.work) c.in_ok-decision.ensures.counted.0 c.in_ok-apply.ensures.steps.0

pub returns-clause-counted : goal.returns-clause-counted
returns-clause-counted g c = λ told does.
    let u = update_data c.args.update in
    raised_further c.args.steps.now c.in_ok-decision.decision.looked (length u.nodes) c.decide.new.steps (2 * length told) c.apply.new.steps
    c.in_ok-decision.ensures.counted c.in_ok-decision.ensures.named
    (c.in_ok-apply.ensures.counted told (subst (λ w. Does w (ToUpdate u) c.apply.new.self told Accepted) (sym c.self.view_is) does))
