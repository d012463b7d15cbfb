use Rattle.tree_plan.specs.Cases.{sent}
use Rattle.tree_plan.proofs.RefusingSteps.{explained}
use Rattle.tree_plan.proofs.refusing.explain.Goals as goal

pub returns-in-Ok-clause-stands : goal.returns-in-Ok-clause-stands
returns-in-Ok-clause-stands g c =
    explained (g.L.LookUps.world c.args.look_ups.now) (sent c.args.case.now) c.requires.case.old c.args.case.now.compared.now c.requires.case.comparison c.args.removed.now c.requires.removal c.in-Ok.reached c.in-Ok.ensures.ok
    c.args.double c.requires.double c.fault_of_double.result c.fault_of_double.ensures
