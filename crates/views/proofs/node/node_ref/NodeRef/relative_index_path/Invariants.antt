use Rattle.model.specs.Lists.{IsWithin}
use Rattle.model.specs.Paths.{depth}
use Rattle.views.specs.ShownWorlds.{world_of}
use Rattle.views.specs.Spots.{IsMember}
use Rattle.views.proofs.Climbing.{IsPathSoFar}
use Rattle.views.proofs.node.node_ref.NodeRef.relative_index_path.Given as goal

abbrev pub invariant-loop-state : goal.invariant-loop-state
invariant-loop-state l = record {
  known : IsMember (world_of l.fn.self.state) l.current;
  within : IsWithin (world_of l.fn.self.state) l.fn.ancestor l.current.id;
  exact : IsPathSoFar (world_of l.fn.self.state) l.fn.self.id l.current.id l.path.items;
}

abbrev pub decreases-loop-state : goal.decreases-loop-state
decreases-loop-state l = depth (world_of l.fn.self.state) l.current.id
