use Rattle.tree_plan.specs.declared.refusing.Search.{Search}
use Rattle.tree_plan.specs.Cases.{sent}
use Rattle.tree_plan.proofs.RefusingSteps.{has_reached}
use Rattle.tree_plan.proofs.refusing.find_reached.Goals as goal

pub returns-clause-ok : goal.returns-clause-ok
returns-clause-ok g c =
    let a : Search = record { seen = c.new.result; queue = c.new-2.result } in
    has_reached (g.L.LookUps.world c.args.look_ups.now) (sent c.args.case.now) c.requires.case.old c.args.case.now.opened.now c.requires.case.opening a c.add.new.search c.work_off.new.search
    c.new-2.ensures.items c.in_ok-add.ensures.ok c.in_ok-work_off.ensures.ok
