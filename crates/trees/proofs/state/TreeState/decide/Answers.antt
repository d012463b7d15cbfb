use Rattle.std.proofs.Common.{◌∙◌, length, ap, subst}
use Rattle.schema.specs.UpdateData.{update_data}
use Rattle.tree_changes.specs.LookUps.{IsRaisedBy}
use Rattle.trees.proofs.Deciding.{looked_counted, looked_least, looked_within}
use Rattle.trees.proofs.state.TreeState.decide.Goals as goal

pub returns-clause-counted : goal.returns-clause-counted
returns-clause-counted c =
    looked_counted _ _ c.new-look_ups.ensures.count c.decide_with-decided.result c.args.steps.now c.add.new.self c.decide_with-decided.ensures.looked
    (subst (λ n. IsRaisedBy c.args.steps.now n c.add.new.self) c.count.ensures c.add.ensures.raised)

pub returns-clause-named : goal.returns-clause-named
returns-clause-named c =
    looked_least _ _ c.new-look_ups.ensures.count c.decide_with-decided.result (length (update_data c.args.update.now).nodes) c.decide_with-decided.ensures.looked c.decide_with-decided.ensures.named

pub returns-clause-work : goal.returns-clause-work
returns-clause-work c =
    looked_within _ _ c.new-look_ups.ensures.count c.decide_with-decided.result _ c.args.self.now (update_data c.args.update.now)
    (ap (λ s. s.world) c.new-look_ups.ensures.store ∙ c.self.view_is) c.decide_with-decided.ensures.looked c.decide_with-decided.ensures.work
