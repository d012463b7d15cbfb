use Rattle.std.proofs.Common.{◌≡◌, Bool, length}
use Rattle.std.specs.Prelude.{find}
use Rattle.std.specs.Fn.{FnReturnsAt}
use Rattle.schema.specs.NodeData.{NodeData}
use Rattle.model.specs.Lists.{ancestors}
use Rattle.model.specs.Upward.{says, upward}
use Rattle.views.specs.Nodes.{world_at, id_at}
use Rattle.views.specs.Tests.{TestsData}
use Rattle.views.proofs.node.node_ref.NodeRef.nearest.Given as goal

abbrev pub decreases-loop-current : goal.decreases-loop-current
decreases-loop-current g l = length (ancestors (world_at l.fn.self) (id_at l.current))

abbrev pub invariant-loop-current : goal.invariant-loop-current
invariant-loop-current g l = record {
  world : world_at l.current ≡ world_at l.fn.self;
  sought : (p : NodeData → Bool) → TestsData (FnReturnsAt g.F.Fn l.test) p →
      find (says p (world_at l.fn.self)) (upward (world_at l.fn.self) (id_at l.current)) ≡ find (says p (world_at l.fn.self)) (upward (world_at l.fn.self) (id_at l.fn.self));
}
