use Rattle.std.proofs.Common.{◌≡◌, length, None}
use Rattle.model.specs.Lists.{ancestors}
use Rattle.model.specs.Upward.{upward}
use Rattle.model.specs.Filters.{first_answer}
use Rattle.views.specs.Nodes.{world_at, id_at}
use Rattle.views.specs.FocusedOne.{clipped_from}
use Rattle.views.proofs.Climbing.{IsReached}
use Rattle.views.proofs.filters.is_clipped_on_the_way.Given as goal

abbrev pub decreases-loop-parent : goal.decreases-loop-parent
decreases-loop-parent l = length (ancestors (world_at l.fn.node) (id_at l.current))

abbrev pub invariant-loop-parent : goal.invariant-loop-parent
invariant-loop-parent l = IsReached (λ w id. first_answer w id ≡ None) (λ w id. clipped_from w (upward w id)) l.fn.node l.current
