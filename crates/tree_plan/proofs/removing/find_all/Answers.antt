use Rattle.std.proofs.lemmas.Result.{on_ok_weaker}
use Rattle.tree_plan.specs.Cases.{sent}
use Rattle.tree_plan.proofs.RemovingSteps.{worked_off}
use Rattle.tree_plan.proofs.removing.find_all.Goals as goal

pub returns-clause-ok : goal.returns-clause-ok
returns-clause-ok g c =
    on_ok_weaker c.follow.result (worked_off g.before (sent c.args.case.now) c.args.case.now.compared.now c.args.removing.now c.lose_left.new.removing c.drop_lost.new.removing c.follow.new.removing c.requires.1.1.1
    c.in_ok-lose_left.ensures.ok c.in_ok-drop_lost.ensures.ok) c.follow.ensures.ok
