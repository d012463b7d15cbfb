use Rattle.std.proofs.Common.{subst}
use Rattle.tree_plan.specs.Verdicts.{Becomes}
use Rattle.tree_plan.proofs.Adding.{adds_none, adds_one}
use Rattle.tree_plan.proofs.verdicts.Found.judge_as.Goals as goal

pub returns-in_default-clause-ok : goal.returns-in_default-clause-ok
returns-in_default-clause-ok g c = adds_none g.step c.args.verdicts.now c.args.id c.requires.1.1 (subst (Becomes g.step c.args.id) c.in_default.is c.verdict.ensures)

pub returns-clause-ok : goal.returns-clause-ok
returns-clause-ok g c = adds_one g.step c.args.verdicts.now c.push.new.self c.args.id c.in-Some.verdict c.requires.1.1 c.in-Some.ensures c.in_ok-push.ensures.ok
