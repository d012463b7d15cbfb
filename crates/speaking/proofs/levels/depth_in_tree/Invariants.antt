use Rattle.std.proofs.Common.{◌≡◌, ◌+◌, ◌-◌, ◌^◌, ◌<◌, length, min}
use Rattle.std.specs.Prelude.{count_by}
use Rattle.model.specs.Lists.{ancestors}
use Rattle.model.specs.Upward.{says}
use Rattle.views.specs.Nodes.{world_at, id_at}
use Rattle.speaking.specs.Levels.{depth_in_tree, is_tree_item}
use Rattle.speaking.proofs.levels.depth_in_tree.Given as goal

abbrev pub decreases-loop-parent : goal.decreases-loop-parent
decreases-loop-parent l = length (ancestors (world_at l.fn.node) (id_at l.current))

-- what is counted, and what is left to count
abbrev pub invariant-loop-parent : goal.invariant-loop-parent
invariant-loop-parent l =
    let w = world_at l.fn.node in
    record {
      world : world_at l.current ≡ w;
      in_range : l.depth < 2 ^ 64;
      all : min (l.depth + count_by (says is_tree_item w) (ancestors w (id_at l.current))) (2 ^ 64 - 1) ≡ depth_in_tree w (id_at l.fn.node);
    }
