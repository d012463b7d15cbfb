use Rattle.std.proofs.Common.{refl}
use Rattle.tree_plan.specs.declared.passes.Removed.{Removed}
use Rattle.tree_plan.specs.Cases.{sent}
use Rattle.tree_plan.proofs.RemovingSteps.{removal}
use Rattle.tree_plan.proofs.removing.remove.Goals as goal

pub returns-clause-ok : goal.returns-clause-ok
returns-clause-ok g c =
    let w = g.L.LookUps.world c.args.look_ups.now in
    let r = c.find_all.new.removing in
    let out : Removed = record { gone = r.gone; trees = r.trees } in
    removal w (sent c.args.case.now) c.requires.case.old c.args.case.now.compared.now r c.in_ok-find_all.ensures.ok c.requires.settled out refl refl
