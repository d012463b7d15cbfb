use Rattle.std.proofs.Common.{length}
use Rattle.std.specs.Fn.{FnReturnsAt}
use Rattle.model.specs.Lists.{ancestors}
use Rattle.model.specs.Views.{size_of_set_from_container}
use Rattle.views.specs.Nodes.{world_at, id_at}
use Rattle.views.specs.Follows.{Follows}
use Rattle.views.proofs.Climbing.{IsClimbed}
use Rattle.views.proofs.node.node_ref.NodeRef.size_of_set_from_container.Given as goal

abbrev pub decreases-loop-container : goal.decreases-loop-container
decreases-loop-container g l = length (ancestors (world_at l.fn.self) (id_at l.current))

abbrev pub invariant-loop-container : goal.invariant-loop-container
invariant-loop-container g l = IsClimbed (Follows (FnReturnsAt g.F.Fn l.filter) (world_at l.fn.self)) (λ f. size_of_set_from_container f (world_at l.fn.self)) l.fn.self l.current
