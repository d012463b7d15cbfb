use Rattle.std.proofs.Common.{◌≡◌, ◌++◌, map, take}
use Rattle.tree_plan.specs.declared.plan.Change.TheVariants.{Tree}
use Rattle.tree_plan.proofs.planning.push_trees.Given as goal

abbrev pub invariant-loop-record : goal.invariant-loop-record
invariant-loop-record l = l.changes.items ≡ l.fn.changes.items ++ map Tree (take l.record-index l.trees)
