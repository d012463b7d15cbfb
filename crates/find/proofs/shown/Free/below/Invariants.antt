use Rattle.std.proofs.Common.{length}
use Rattle.std.specs.Prelude.{All, ◌≡◌}
use Rattle.model.specs.declared.FullNodeId.{FullNodeId}
use Rattle.model.specs.World.{World}
use Rattle.views.specs.AllNodes.{descendants_left}
use Rattle.views.specs.Nodes.{world_at}
use Rattle.find.specs.Free.{AreFree}
use Rattle.find.proofs.shown.Free.below.Given as goal

-- what is known so far is so, and the nodes that are left are of this state
abbrev pub invariant-loop-node : goal.invariant-loop-node
invariant-loop-node l = record {
  right : AreFree (world_at l.fn.top) l.free;
  world : All (λ (n : World × FullNodeId). n.0 ≡ world_at l.fn.top) (descendants_left l.nodes);
}

abbrev pub decreases-loop-node : goal.decreases-loop-node
decreases-loop-node l = length (descendants_left l.nodes)
