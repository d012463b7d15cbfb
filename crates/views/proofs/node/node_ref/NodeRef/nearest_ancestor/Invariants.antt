use Rattle.std.proofs.Common.{length}
use Rattle.std.specs.Prelude.{find}
use Rattle.std.specs.Fn.{FnReturnsAt}
use Rattle.model.specs.Lists.{ancestors}
use Rattle.views.specs.Nodes.{world_at, id_at}
use Rattle.views.specs.Tests.{TestsNodes}
use Rattle.views.proofs.Climbing.{IsClimbed}
use Rattle.views.proofs.node.node_ref.NodeRef.nearest_ancestor.Given as goal

abbrev pub decreases-loop-parent : goal.decreases-loop-parent
decreases-loop-parent g l = length (ancestors (world_at l.fn.self) (id_at l.current))

abbrev pub invariant-loop-parent : goal.invariant-loop-parent
invariant-loop-parent g l = IsClimbed (TestsNodes (FnReturnsAt g.F.Fn l.test) (world_at l.fn.self)) (λ p id. find p (ancestors (world_at l.fn.self) id)) l.fn.self l.current
