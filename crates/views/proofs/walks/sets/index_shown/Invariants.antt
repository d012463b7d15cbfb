use Rattle.std.proofs.Common.{◌≡◌, drop}
use Rattle.std.specs.Prelude.{Contains}
use Rattle.model.specs.declared.FullNodeId.{FullNodeId}
use Rattle.model.specs.declared.filters.FilterResult.{FilterResult}
use Rattle.model.specs.Frontier.{filtered_children}
use Rattle.views.specs.Nodes.{world_at, id_at}
use Rattle.views.specs.Follows.{Follows}
use Rattle.views.specs.Walks.{walked_world, IsOnCourse, ids_left, work_of}
use Rattle.views.specs.RoleSets.{of_role}
use Rattle.views.proofs.walks.sets.index_shown.Given as goal

-- the node is among those from the index on, which are left
abbrev pub invariant-loop-node : goal.invariant-loop-node
invariant-loop-node g l =
    let w = world_at l.fn.top in
    record {
      world : walked_world l.course ≡ w;
      passed : (f : FullNodeId → FilterResult) → Follows (g.F.Filter.answers l.filter) w f → Contains (of_role w l.fn.role (filtered_children f w (id_at l.fn.top))) l.fn.id →
          IsOnCourse f l.course
          × (drop l.index (of_role w l.fn.role (filtered_children f w (id_at l.fn.top))) ≡ of_role w l.fn.role (ids_left f l.course))
          × Contains (of_role w l.fn.role (ids_left f l.course)) l.fn.id;
    }

abbrev pub decreases-loop-node : goal.decreases-loop-node
decreases-loop-node g l = work_of l.course
