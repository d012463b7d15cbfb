use Rattle.std.proofs.Common.{subst, ◌∙◌, arith}
use Rattle.model.specs.Work.{named_ids}
use Rattle.model.specs.Surgery.{AreSteps}
use Rattle.tree_plan.specs.Cases.{sent}
use Rattle.tree_plan.proofs.deciding.find_removed.Goals as goal

pub returns-clause-count : goal.returns-clause-count
returns-clause-count g c =
    let climbs = c.in_ok-climb_all.ensures.counts in
    let settles = c.in_ok-settled.ensures.count in
    let removes = c.in_ok-removed.ensures.count in
    let refuses = c.in_ok-refuse_misplaced.ensures.count in
    record {
      steps = climbs.0;
      are_steps = subst (λ v. AreSteps v (sent c.args.case.now) (named_ids v (sent c.args.case.now)) climbs.0) (c.refuse_misplaced.ensures.world ∙ c.remove.ensures.world ∙ c.settle.ensures.world) climbs.1;
      cut = c.in_ok-removed.ensures.trees;
      asked = (omega (arith, settles.0, removes.0, refuses, climbs.2.0), omega (arith, settles.1, removes.1, refuses, climbs.2.1));
    }
