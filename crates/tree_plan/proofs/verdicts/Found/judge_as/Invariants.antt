use Rattle.tree_plan.proofs.verdicts.Found.judge_as.Given as goal

abbrev pub ghost-verdict : goal.ghost-verdict
ghost-verdict g a = g.step
