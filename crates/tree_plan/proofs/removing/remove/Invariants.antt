use Rattle.tree_plan.proofs.removing.remove.Given as goal

abbrev pub ghost-find_all : goal.ghost-find_all
ghost-find_all g a = g.L.LookUps.world a.look_ups.now
