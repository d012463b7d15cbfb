use Rattle.std.proofs.Common.{◌≡◌, ◌≤◌, length}
use Rattle.views.specs.ShownWorlds.{world_of}
use Rattle.views.specs.Controlled.{named_nodes}
use Rattle.views.proofs.walks.controls.end_named.Given as goal

-- those that were passed over aren't in the state
abbrev pub invariant-loop-node : goal.invariant-loop-node
invariant-loop-node l =
    let w = world_of l.fn.state in
    record {
      fewer : length l.ids ≤ length l.fn.start;
      left : named_nodes w l.fn.tree l.fn.start ≡ named_nodes w l.fn.tree l.ids;
    }

abbrev pub decreases-loop-node : goal.decreases-loop-node
decreases-loop-node l = length l.ids
