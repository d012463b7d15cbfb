use Rattle.std.proofs.Common.{◌≡◌}
use Rattle.tree_plan.specs.Comparisons.{Leaves, ids_before, ids_after}
use Rattle.tree_plan.proofs.passes.Comparing.leave.Given as goal

abbrev pub invariant-loop-index : goal.invariant-loop-index
invariant-loop-index l = record {
  left : Leaves l.lists.parent (ids_before l.lists) (ids_after l.lists) l.from l.index l.fn.self.left l.self.left l.fn.self.entered l.self.entered;
  rest : l.self ≡ record l.fn.self { left = l.self.left };
}
