use Rattle.tree_plan.proofs.verdicts.Found.write_gone.Given as goal

abbrev pub ghost-write_node : goal.ghost-write_node
ghost-write_node g a = g.step
