use Rattle.model.specs.Paths.{depth}
use Rattle.views.specs.ShownWorlds.{world_of}
use Rattle.views.specs.Spots.{IsMember}
use Rattle.views.proofs.Climbing.{IsPathSoFar}
use Rattle.views.proofs.node.node_ref.NodeRef.index_path.Given as goal

abbrev pub invariant-loop-spot : goal.invariant-loop-spot
invariant-loop-spot l = record {
  known : IsMember (world_of l.fn.self.state) l.current;
  exact : IsPathSoFar (world_of l.fn.self.state) l.fn.self.id l.current.id l.path.items;
}

abbrev pub decreases-loop-spot : goal.decreases-loop-spot
decreases-loop-spot l = depth (world_of l.fn.self.state) l.current.id
