use Rattle.tree_plan.proofs.verdicts.Found.write_node.Given as goal

abbrev pub ghost-place_by : goal.ghost-place_by
ghost-place_by g a = g.step

abbrev pub ghost-verdict_by : goal.ghost-verdict_by
ghost-verdict_by g a = g.step
