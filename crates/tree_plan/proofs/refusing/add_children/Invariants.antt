use Rattle.std.proofs.Common.{map, take}
use Rattle.model.specs.World.{in_tree}
use Rattle.tree_plan.specs.Refusing.{Enqueues}
use Rattle.tree_plan.proofs.refusing.add_children.Given as goal

abbrev pub invariant-loop-child : goal.invariant-loop-child
invariant-loop-child l = Enqueues (map (in_tree l.parent.tree) (take l.child-index l.children)) l.fn.search l.search
