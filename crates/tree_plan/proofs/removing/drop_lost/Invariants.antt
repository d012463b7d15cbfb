use Rattle.tree_plan.specs.Looks.{LooksUpTo}
use Rattle.tree_plan.specs.Cases.{sent}
use Rattle.tree_plan.proofs.RemovingSteps.{IsDropping}
use Rattle.tree_plan.proofs.removing.drop_lost.Given as goal

abbrev pub ghost-drop_tree : goal.ghost-drop_tree
ghost-drop_tree g a = g.before

abbrev pub invariant-loop-name : goal.invariant-loop-name
invariant-loop-name g l = record {
  looks : LooksUpTo g.L.LookUps.world g.L.LookUps.asked l.fn.look_ups l.name-index l.look_ups;
  dropping : IsDropping g.before (sent l.case) l.case.compared.now.lost.items l.name-index l.fn.removing l.removing;
}
