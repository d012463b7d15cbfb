use Rattle.std.proofs.Common.{◌-◌}
use Rattle.std.specs.Prelude.{Option, Some}
use Rattle.std.specs.FinMap.{len}
use Rattle.model.specs.declared.FullNodeId.{FullNodeId}
use Rattle.model.specs.Paths.{depth}
use Rattle.views.specs.ShownWorlds.{world_of}
use Rattle.views.specs.Spots.{IsMember}
use Rattle.views.specs.Deepest.{LeadsToEnd, IsDeepest}
use Rattle.views.proofs.walks.deepest.deepest.Given as goal

-- where the steps lead to from the node that was come to, they lead from the start
abbrev pub invariant-loop-next : goal.invariant-loop-next
invariant-loop-next g l =
    let w = world_of l.fn.node.state in
    record {
      known : IsMember w l.deepest;
      exact : (step : FullNodeId → Option FullNodeId) → g.W.WayDown.leads l.way w step →
          (last : FullNodeId) → LeadsToEnd step l.deepest.id last → IsDeepest step l.fn.node.id (Some last);
    }

abbrev pub decreases-loop-next : goal.decreases-loop-next
decreases-loop-next g l = let w = world_of l.fn.node.state in len w.nodes - depth w l.deepest.id
