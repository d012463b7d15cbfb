use Rattle.std.proofs.Common.{take}
use Rattle.std.specs.Map.{keys_of}
use Rattle.tree_plan.specs.Verdicts.{Adds}
use Rattle.tree_plan.proofs.verdicts.Found.judge_named.Given as goal

abbrev pub ghost-judge_as : goal.ghost-judge_as
ghost-judge_as g a = g.step

abbrev pub invariant-loop-item : goal.invariant-loop-item
invariant-loop-item g l = Adds g.step (take l.item-index (keys_of l.fn.self.compared.named)) l.fn.verdicts l.verdicts
