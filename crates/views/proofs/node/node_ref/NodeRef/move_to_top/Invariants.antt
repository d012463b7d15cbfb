use Rattle.std.proofs.Common.{◌≡◌, length}
use Rattle.model.specs.Lists.{ancestors}
use Rattle.views.specs.Nodes.{world_at, id_at}
use Rattle.views.proofs.MoveSums.{IsSumSoFar}
use Rattle.views.proofs.node.node_ref.NodeRef.move_to_top.Given as goal

abbrev pub decreases-loop-current : goal.decreases-loop-current
decreases-loop-current l = length (ancestors (world_at l.fn.self) (id_at l.current))

abbrev pub invariant-loop-current : goal.invariant-loop-current
invariant-loop-current l = record {
  world : world_at l.current ≡ world_at l.fn.self;
  sum : IsSumSoFar (world_at l.fn.self) l.fn.top (id_at l.fn.self) (id_at l.current) l.sum.x l.sum.y;
}
