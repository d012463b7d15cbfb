use Rattle.tree_plan.proofs.MoveSteps.{AllMoved}
use Rattle.tree_plan.proofs.moves.have_moved.Given as goal

abbrev pub invariant-loop-item : goal.invariant-loop-item
invariant-loop-item l = AllMoved l.rows l.left l.item-index
