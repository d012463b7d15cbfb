use Rattle.std.proofs.Common.{◌≡◌, map, take}
use Rattle.views.specs.Nodes.{id_at}
use Rattle.queries.proofs.search.ids_of.Given as goal

abbrev pub invariant-loop-node : goal.invariant-loop-node
invariant-loop-node l = l.ids.items ≡ map id_at (take l.node-index l.fn.nodes)
