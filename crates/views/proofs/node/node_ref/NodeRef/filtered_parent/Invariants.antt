use Rattle.std.proofs.Common.{◌≡◌, length}
use Rattle.std.specs.Prelude.{Contains}
use Rattle.std.specs.Fn.{FnReturnsAt}
use Rattle.model.specs.declared.FullNodeId.{FullNodeId}
use Rattle.model.specs.declared.filters.FilterResult.{FilterResult}
use Rattle.model.specs.Lists.{ancestors}
use Rattle.model.specs.Covers.{filtered_parent}
use Rattle.views.specs.Nodes.{world_at, id_at}
use Rattle.views.specs.Follows.{Follows}
use Rattle.views.proofs.node.node_ref.NodeRef.filtered_parent.Given as goal

abbrev pub decreases-loop-parent : goal.decreases-loop-parent
decreases-loop-parent g l = length (ancestors (world_at l.fn.self) (id_at l.current))

abbrev pub invariant-loop-parent : goal.invariant-loop-parent
invariant-loop-parent g l = record {
  world : world_at l.current ≡ world_at l.fn.self;
  above : (a : FullNodeId) → Contains (ancestors (world_at l.fn.self) (id_at l.current)) a → Contains (ancestors (world_at l.fn.self) (id_at l.fn.self)) a;
  sought : (f : FullNodeId → FilterResult) → Follows (FnReturnsAt g.F.Fn l.filter) (world_at l.fn.self) f →
      filtered_parent f (world_at l.fn.self) (id_at l.current) ≡ filtered_parent f (world_at l.fn.self) (id_at l.fn.self);
}
