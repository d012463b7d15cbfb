use Rattle.tree_plan.proofs.verdicts.Found.walked.Given as goal

abbrev pub ghost-write_all : goal.ghost-write_all
ghost-write_all g a = g.step
