use Rattle.std.proofs.Common.{◌≡◌, map, Some}
use Rattle.tree_plan.proofs.planning.slots_of.Given as goal

abbrev pub invariant-loop-node : goal.invariant-loop-node
invariant-loop-node l = l.slots.items ≡ map (λ e. Some e.1) l.yielded
