use Rattle.tree_plan.proofs.removing.drop_tree.Given as goal

abbrev pub ghost-lose : goal.ghost-lose
ghost-lose g a = g.before
