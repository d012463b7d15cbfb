use Rattle.std.proofs.Common.{◌≤◌, ◌*◌, ◌+◌, ap, subst, ◌∙◌, arith}
use Rattle.schema.specs.UpdateData.{update_data}
use Rattle.tree_changes.specs.Changes.{overlaid_world}
use Rattle.tree_changes.specs.Decisions.{IsWithinWork}
use Rattle.tree_changes.specs.Refusals.{IsRefusal}
use Rattle.trees.specs.Counts.{change_count}
use Rattle.trees.proofs.Deciding.{within}
use Rattle.trees.proofs.tree_handle.Tree.prepare_counted.Goals as goal

pub returns-in-Err-clause-err : goal.returns-in-Err-clause-err
returns-in-Err-clause-err c = (c.self.view_is, subst (λ w. IsRefusal w (update_data c.args.update) c.in-Err.why) c.self.view_is c.in-Err.ensures.err)

pub returns-in-Ok-prepare-clause-steps : goal.returns-in-Ok-prepare-clause-steps
returns-in-Ok-prepare-clause-steps c =
    let w = c.args.self in
    let u = update_data c.args.update in
    let d = c.in-Ok.decision in
    let n = c.decide.new.steps in
    let same : n ≤ n + 2 * change_count d = omega arith in
    within w c.in-Ok-prepare.prepared.after u d d.looked c.args.steps.now n n
    (c.in-Ok-prepare.ensures.ok.1 ∙ ap (λ x. overlaid_world x u d) c.self.view_is)
    (subst (λ x. IsWithinWork x u d 0 d.looked) c.self.view_is c.in-Ok.ensures.work) c.in-Ok.ensures.counted.0 same
