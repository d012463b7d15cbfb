use Rattle.std.proofs.Common.{length}
use Rattle.model.specs.Lists.{ancestors}
use Rattle.views.specs.Nodes.{world_at, id_at}
use Rattle.speaking.specs.Above.{LeadsTo}
use Rattle.speaking.proofs.above.climb.Given as goal

-- the path leads from the node to where the climb is
abbrev pub invariant-loop-parent : goal.invariant-loop-parent
invariant-loop-parent l = LeadsTo (world_at l.fn.node) (id_at l.fn.node) l.path.items l.current

abbrev pub decreases-loop-parent : goal.decreases-loop-parent
decreases-loop-parent l = length (ancestors (world_at l.fn.node) (id_at l.current))
