use Rattle.tree_plan.proofs.verdicts.Found.write_all.Given as goal

abbrev pub ghost-write_removed : goal.ghost-write_removed
ghost-write_removed g a = g.step

abbrev pub ghost-write_before : goal.ghost-write_before
ghost-write_before g a = g.step
