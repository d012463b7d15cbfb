use Rattle.std.proofs.Common.{◌≡◌, ◌+◌, length}
use Rattle.model.specs.declared.FullNodeId.{FullNodeId}
use Rattle.model.specs.declared.filters.FilterResult.{FilterResult}
use Rattle.model.specs.Frontier.{filtered_children}
use Rattle.views.specs.Nodes.{world_at, id_at}
use Rattle.views.specs.Follows.{Follows}
use Rattle.views.specs.Walks.{walked_world, IsOnCourse, ids_left, work_of}
use Rattle.views.specs.RoleSets.{of_role}
use Rattle.views.proofs.walks.sets.count_shown.Given as goal

-- those that were counted and those that are left are all that are shown
abbrev pub invariant-loop-node : goal.invariant-loop-node
invariant-loop-node g l =
    let w = world_at l.fn.top in
    record {
      world : walked_world l.course ≡ w;
      counted : (f : FullNodeId → FilterResult) → Follows (g.F.Filter.answers l.filter) w f →
          IsOnCourse f l.course × (l.count + length (of_role w l.fn.role (ids_left f l.course)) ≡ length (of_role w l.fn.role (filtered_children f w (id_at l.fn.top))));
    }

abbrev pub decreases-loop-node : goal.decreases-loop-node
decreases-loop-node g l = work_of l.course
