use Rattle.std.proofs.Common.{◌≡◌, length, false}
use Rattle.model.specs.Lists.{ancestors}
use Rattle.model.specs.Covers.{filtered_parent}
use Rattle.model.specs.Filters.{is_hidden, base_filter}
use Rattle.views.specs.Nodes.{world_at, id_at}
use Rattle.views.proofs.Climbing.{IsReached}
use Rattle.views.proofs.filters.shown_parent.Given as goal

abbrev pub decreases-loop-parent : goal.decreases-loop-parent
decreases-loop-parent l = length (ancestors (world_at l.fn.node) (id_at l.current))

abbrev pub invariant-loop-parent : goal.invariant-loop-parent
invariant-loop-parent l = IsReached (λ w id. is_hidden w id ≡ false) (λ w id. filtered_parent (base_filter w) w id) l.fn.node l.current
