use Rattle.tree_plan.proofs.removing.find_all.Given as goal

abbrev pub ghost-lose_left : goal.ghost-lose_left
ghost-lose_left g a = g.before

abbrev pub ghost-drop_lost : goal.ghost-drop_lost
ghost-drop_lost g a = g.before

abbrev pub ghost-follow : goal.ghost-follow
ghost-follow g a = g.before
