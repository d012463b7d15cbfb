use Rattle.tree_plan.proofs.verdicts.Found.verdicts.Given as goal

abbrev pub ghost-judge_named : goal.ghost-judge_named
ghost-judge_named g a = g.step

abbrev pub ghost-judge_entered : goal.ghost-judge_entered
ghost-judge_entered g a = g.step

abbrev pub ghost-judge_moved_in : goal.ghost-judge_moved_in
ghost-judge_moved_in g a = g.step

abbrev pub ghost-judge_gone : goal.ghost-judge_gone
ghost-judge_gone g a = g.step

abbrev pub ghost-judge_told : goal.ghost-judge_told
ghost-judge_told g a = g.step
