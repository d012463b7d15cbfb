use Rattle.tree_plan.proofs.verdicts.Found.write_named.Given as goal

abbrev pub ghost-write_named_on : goal.ghost-write_named_on
ghost-write_named_on g a = g.step
