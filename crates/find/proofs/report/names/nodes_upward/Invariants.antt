use Rattle.std.proofs.Common.{◌≡◌, ◌++◌, length, map}
use Rattle.model.specs.Lists.{ancestors}
use Rattle.model.specs.Upward.{upward}
use Rattle.views.specs.Nodes.{world_at, id_at}
use Rattle.views.specs.PlainWalks.{node_in, node_of}
use Rattle.find.proofs.report.names.nodes_upward.Given as goal

abbrev pub decreases-loop-parent : goal.decreases-loop-parent
decreases-loop-parent l = length (ancestors (world_at l.fn.node) (id_at l.current))

-- the nodes so far, and those above them, are all
abbrev pub invariant-loop-parent : goal.invariant-loop-parent
invariant-loop-parent l = record {
  world : world_at l.current ≡ world_at l.fn.node;
  all : map node_of l.nodes.items ++ map (node_in (world_at l.fn.node)) (ancestors (world_at l.fn.node) (id_at l.current)) ≡ map (node_in (world_at l.fn.node)) (upward (world_at l.fn.node) (id_at l.fn.node));
}
