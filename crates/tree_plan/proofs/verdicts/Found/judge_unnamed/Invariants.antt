use Rattle.tree_plan.proofs.verdicts.Found.judge_unnamed.Given as goal

abbrev pub ghost-judge_as : goal.ghost-judge_as
ghost-judge_as g a = g.step
