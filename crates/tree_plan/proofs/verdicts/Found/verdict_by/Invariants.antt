use Rattle.tree_plan.proofs.verdicts.Found.verdict_by.Given as goal

abbrev pub ghost-moved_or_told : goal.ghost-moved_or_told
ghost-moved_or_told g a = g.step

abbrev pub ghost-is_removed : goal.ghost-is_removed
ghost-is_removed g a = g.step
