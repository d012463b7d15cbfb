use Rattle.tree_plan.proofs.writing.write.Given as goal

abbrev pub ghost-verdicts : goal.ghost-verdicts
ghost-verdicts g a = g.step

abbrev pub ghost-walked : goal.ghost-walked
ghost-walked g a = g.step
