use Rattle.std.proofs.Common.{take, flat_map}
use Rattle.std.specs.Io.KnownBytes.{Appends}
use Rattle.views.specs.Nodes.{world_at, id_at}
use Rattle.find.specs.Near.{near_line}
use Rattle.find.proofs.near.write_all_near.Given as goal

-- the lines so far are written
abbrev pub invariant-loop-node : goal.invariant-loop-node
invariant-loop-node g l = Appends (g.O.Write.contents l.fn.out) (g.O.Write.contents l.out) (flat_map (λ n. near_line l.fn.how (world_at l.fn.top) (id_at n)) (take l.node-index l.fn.nodes))
