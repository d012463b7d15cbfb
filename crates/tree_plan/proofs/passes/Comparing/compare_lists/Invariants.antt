use Rattle.std.proofs.Common.{◌≡◌}
use Rattle.tree_plan.specs.Comparisons.{spots_of, Gathers, Leaves, OnlyInBefore, ids_before, ids_after}
use Rattle.tree_plan.proofs.passes.Comparing.compare_lists.Given as goal

abbrev pub invariant-loop-index : goal.invariant-loop-index
invariant-loop-index l = record {
  left : Leaves l.lists.parent (ids_before l.lists) (ids_after l.lists) 0 l.next l.fn.self.left l.self.left l.fn.self.entered l.self.entered;
  entered : Gathers (OnlyInBefore l.index l.lists.parent (ids_after l.lists) (ids_before l.lists)) (spots_of l.fn.self.entered) (spots_of l.self.entered);
  rest : l.self ≡ record l.fn.self { left = l.self.left; entered = l.self.entered };
}
