use Rattle.std.proofs.Common.{◌≡◌, ◌+◌, length}
use Rattle.model.specs.declared.FullNodeId.{FullNodeId}
use Rattle.model.specs.declared.filters.FilterResult.{FilterResult}
use Rattle.model.specs.Frontier.{filtered_children}
use Rattle.views.specs.Nodes.{world_at, id_at}
use Rattle.views.specs.Follows.{Follows}
use Rattle.views.specs.Walks.{walked_world, IsOnCourse, ids_left, work_of}
use Rattle.views.proofs.walks.counts.count_below.Given as goal

-- those that were counted and those that are left are all that are shown
abbrev pub invariant-loop-count : goal.invariant-loop-count
invariant-loop-count g l =
    let w = world_at l.fn.top in
    record {
      world : walked_world l.course ≡ w;
      counted : (f : FullNodeId → FilterResult) → Follows (g.F.Filter.answers l.filter) w f →
          IsOnCourse f l.course × (l.count + length (ids_left f l.course) ≡ length (filtered_children f w (id_at l.fn.top)));
    }

abbrev pub decreases-loop-count : goal.decreases-loop-count
decreases-loop-count g l = work_of l.course
