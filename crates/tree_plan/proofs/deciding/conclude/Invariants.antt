use Rattle.tree_plan.proofs.deciding.conclude.Given as goal

abbrev pub ghost-write : goal.ghost-write
ghost-write g a = g.step
