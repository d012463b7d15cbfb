use Rattle.std.proofs.Common.{◌≡◌, ◌+◌, length}
use Rattle.std.specs.Prelude.{position}
use Rattle.std.specs.List.{position_from}
use Rattle.model.specs.declared.FullNodeId.{FullNodeId}
use Rattle.model.specs.declared.filters.FilterResult.{FilterResult}
use Rattle.model.specs.Forest.{is_same}
use Rattle.model.specs.Frontier.{filtered_children}
use Rattle.views.specs.Nodes.{world_at, id_at}
use Rattle.views.specs.Follows.{Follows}
use Rattle.views.specs.Walks.{walked_world, IsOnCourse, ids_left, work_of}
use Rattle.views.proofs.walks.counts.index_below.Given as goal

-- none of those before the index is the node
abbrev pub invariant-loop-node : goal.invariant-loop-node
invariant-loop-node g l =
    let w = world_at l.fn.top in
    record {
      world : walked_world l.course ≡ w;
      passed : (f : FullNodeId → FilterResult) → Follows (g.F.Filter.answers l.filter) w f →
          IsOnCourse f l.course
          × (l.index + length (ids_left f l.course) ≡ length (filtered_children f w (id_at l.fn.top)))
          × (position_from (is_same l.fn.id) l.index (ids_left f l.course) ≡ position (is_same l.fn.id) (filtered_children f w (id_at l.fn.top)));
    }

abbrev pub decreases-loop-node : goal.decreases-loop-node
decreases-loop-node g l = work_of l.course
