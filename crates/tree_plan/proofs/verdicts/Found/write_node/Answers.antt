use Rattle.std.proofs.Common.{subst}
use Rattle.tree_plan.specs.Verdicts.{Becomes}
use Rattle.tree_plan.proofs.Walked.{writes_one, writes_none}
use Rattle.tree_plan.proofs.verdicts.Found.write_node.Goals as goal

pub returns-in_default-clause-ok : goal.returns-in_default-clause-ok
returns-in_default-clause-ok g c = writes_none g.step c.args.self.now c.requires.0 c.args.id c.args.written.now (subst (Becomes g.step c.args.id) c.in_default.is c.verdict_by.ensures)

pub returns-clause-ok : goal.returns-clause-ok
returns-clause-ok g c =
    let up = c.in_ok-push.ensures in
    writes_one g.step c.args.self.now c.requires.0 c.requires.1.0 c.args.id c.in-Some.verdict c.args.written.now c.push.new.self c.in-Some.ensures up.nodes up.added up.updated up.removed
