use Rattle.std.proofs.Common.{[]}
use Rattle.tree_plan.proofs.Walked.{walks_on}
use Rattle.tree_plan.proofs.verdicts.Found.write_before.Goals as goal

pub returns-clause-ok : goal.returns-clause-ok
returns-clause-ok g c =
    walks_on g.step c.args.self.now c.requires.0 [] [] c.args.rows c.in_ok-rows.rows (record { named = c.in_ok-named.named; entered = c.in_ok-rows.rows.entered }) c.args.written.now c.write_entered.new.written c.write_named.new.written
    c.in_ok-rows.ensures.ok c.in_ok-named.ensures.ok
