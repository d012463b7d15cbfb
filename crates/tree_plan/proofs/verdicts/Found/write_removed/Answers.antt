use Rattle.tree_plan.proofs.Walked.{walks_nothing, next_gone}
use Rattle.tree_plan.proofs.verdicts.Found.write_removed.Goals as goal

pub loop-id-init : goal.loop-id-init
loop-id-init g c = walks_nothing g.step c.args.self.now c.requires.0 (record { named = 0; entered = 0 }) c.args.written.now

pub loop-id-preserved : goal.loop-id-preserved
loop-id-preserved g c =
    next_gone g.step c.args.self.now c.requires.0 c.loop-id.yielded c.in-Some.id (record { named = 0; entered = 0 }) c.loop-id.rows c.in_ok-rows.rows c.args.written.now c.loop-id.written c.write_before.new.written c.write_gone.new.written
    c.loop-id.invariant c.in_ok-rows.ensures.ok c.in_ok-write_gone.ensures.ok
