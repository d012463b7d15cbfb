use Rattle.tree_plan.proofs.verdicts.Found.judge.Given as goal

abbrev pub ghost-judge_as : goal.ghost-judge_as
ghost-judge_as g a = g.step
