use Rattle.std.proofs.Common.{map}
use Rattle.std.specs.Map.Iter.{deref}
use Rattle.tree_plan.specs.Verdicts.{Adds}
use Rattle.tree_plan.proofs.verdicts.Found.judge_moved_in.Given as goal

abbrev pub ghost-judge : goal.ghost-judge
ghost-judge g a = g.step

abbrev pub invariant-loop-id : goal.invariant-loop-id
invariant-loop-id g l = Adds g.step (map deref l.yielded) l.fn.verdicts l.verdicts
