use Rattle.std.proofs.Common.{take}
use Rattle.std.specs.Map.{keys_of}
use Rattle.tree_plan.specs.Verdicts.{Adds}
use Rattle.tree_plan.proofs.verdicts.Found.judge_entered.Given as goal

abbrev pub ghost-judge_unnamed : goal.ghost-judge_unnamed
ghost-judge_unnamed g a = g.step

abbrev pub invariant-loop-item : goal.invariant-loop-item
invariant-loop-item g l = Adds g.step (take l.item-index (keys_of l.fn.self.compared.entered)) l.fn.verdicts l.verdicts
