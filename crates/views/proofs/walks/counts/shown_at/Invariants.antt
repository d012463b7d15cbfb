use Rattle.std.proofs.Common.{◌≡◌}
use Rattle.std.specs.Prelude.{slice_get}
use Rattle.model.specs.declared.FullNodeId.{FullNodeId}
use Rattle.model.specs.declared.filters.FilterResult.{FilterResult}
use Rattle.model.specs.Frontier.{filtered_children}
use Rattle.views.specs.Nodes.{world_at, id_at}
use Rattle.views.specs.Follows.{Follows}
use Rattle.views.specs.Walks.{walked_world, IsOnCourse, ids_left, work_of}
use Rattle.views.proofs.walks.counts.shown_at.Given as goal

-- it is the node at the smaller index among those that are left
abbrev pub invariant-loop-node : goal.invariant-loop-node
invariant-loop-node g l =
    let w = world_at l.fn.top in
    record {
      world : walked_world l.course ≡ w;
      there : (f : FullNodeId → FilterResult) → Follows (g.F.Filter.answers l.filter) w f →
          IsOnCourse f l.course × (slice_get (ids_left f l.course) l.left ≡ slice_get (filtered_children f w (id_at l.fn.top)) l.fn.index);
    }

abbrev pub decreases-loop-node : goal.decreases-loop-node
decreases-loop-node g l = work_of l.course
