use Rattle.tree_plan.proofs.removing.expand.Given as goal

abbrev pub ghost-lose_children : goal.ghost-lose_children
ghost-lose_children g a = g.before

abbrev pub ghost-drop_tree : goal.ghost-drop_tree
ghost-drop_tree g a = g.before
