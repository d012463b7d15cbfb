use Rattle.std.proofs.Common.{map, take}
use Rattle.model.specs.World.{in_tree}
use Rattle.tree_plan.specs.Removing.{LosesAll}
use Rattle.tree_plan.specs.Cases.{sent}
use Rattle.tree_plan.proofs.removing.lose_children.Given as goal

abbrev pub ghost-lose : goal.ghost-lose
ghost-lose g a = g.before

abbrev pub invariant-loop-child : goal.invariant-loop-child
invariant-loop-child g l = LosesAll g.before (sent l.case) (map (in_tree l.parent.tree) (take l.child-index l.children)) l.fn.removing l.removing
