use Rattle.std.proofs.Common.{◌≡◌, ◌+◌, ◌-◌, ◌^◌, ◌<◌, length, min}
use Rattle.model.specs.Lists.{ancestors}
use Rattle.views.specs.Nodes.{world_at, id_at}
use Rattle.page_states.specs.Known.{depth_at}
use Rattle.page_states.proofs.carried.counted_depth.Given as goal

abbrev pub decreases-loop-parent : goal.decreases-loop-parent
decreases-loop-parent l = length (ancestors (world_at l.fn.node) (id_at l.current))

-- what is counted, and what is left to count
abbrev pub invariant-loop-parent : goal.invariant-loop-parent
invariant-loop-parent l = record {
  world : world_at l.current ≡ world_at l.fn.node;
  in_range : l.depth < 2 ^ 64;
  all : min (l.depth + length (ancestors (world_at l.fn.node) (id_at l.current))) (2 ^ 64 - 1) ≡ depth_at (world_at l.fn.node) (id_at l.fn.node);
}
