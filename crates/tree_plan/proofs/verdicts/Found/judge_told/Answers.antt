use Rattle.std.proofs.Common.{sym, ap}
use Rattle.model.specs.World.{at_most_one}
use Rattle.tree_plan.proofs.Adding.{adds_nothing, adds_of}
use Rattle.tree_plan.proofs.verdicts.Found.judge_told.Goals as goal

pub returns-in_default-clause-ok : goal.returns-in_default-clause-ok
returns-in_default-clause-ok g c = adds_of g.step _ _ c.args.verdicts.now c.args.verdicts.now (sym (ap at_most_one c.in_default.is)) (adds_nothing g.step c.args.verdicts.now c.requires.1)

pub returns-clause-ok : goal.returns-clause-ok
returns-clause-ok g c = adds_of g.step _ _ c.args.verdicts.now c.judge.new.verdicts (sym (ap at_most_one c.in-Some.is)) c.in_ok-judge.ensures.ok
