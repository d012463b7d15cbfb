use Rattle.tree_plan.specs.Comparisons.{OnlyInBefore, ids_before, ids_after}
use Rattle.tree_plan.specs.Moves.{Compares}
use Rattle.tree_plan.proofs.moves.Moving.compare_lists.Given as goal

abbrev pub invariant-loop-index : goal.invariant-loop-index
invariant-loop-index l = Compares (OnlyInBefore l.index l.lists.parent (ids_before l.lists) (ids_after l.lists)) (OnlyInBefore l.index l.lists.parent (ids_after l.lists) (ids_before l.lists)) l.lists.parent l.fn.self l.self
