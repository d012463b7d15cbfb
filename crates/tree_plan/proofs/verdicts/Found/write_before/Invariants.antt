use Rattle.tree_plan.proofs.verdicts.Found.write_before.Given as goal

abbrev pub ghost-write_entered : goal.ghost-write_entered
ghost-write_entered g a = g.step

abbrev pub ghost-write_named : goal.ghost-write_named
ghost-write_named g a = g.step
