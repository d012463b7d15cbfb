use Rattle.std.proofs.Common.{take, flat_map}
use Rattle.std.specs.Io.KnownBytes.{Appends}
use Rattle.views.specs.Nodes.{world_at, id_at}
use Rattle.find.specs.Printed.{node_text}
use Rattle.find.proofs.search.write_nodes.Given as goal

-- the nodes so far are printed
abbrev pub invariant-loop-node : goal.invariant-loop-node
invariant-loop-node g l = Appends (g.O.Write.contents l.fn.output) (g.O.Write.contents l.output) (flat_map (λ n. node_text (world_at l.fn.top) (id_at l.fn.top) (id_at n)) (take l.node-index l.fn.nodes))
