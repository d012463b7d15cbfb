use Rattle.std.proofs.Common.{◌≡◌}
use Rattle.find.proofs.search.nodes_of.Given as goal

abbrev pub invariant-loop-node : goal.invariant-loop-node
invariant-loop-node g l = l.nodes.items ≡ l.yielded
