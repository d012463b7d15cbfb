use Rattle.std.proofs.Common.{◌≡◌, take}
use Rattle.std.specs.Prelude.{All}
use Rattle.model.specs.World.{World}
use Rattle.views.specs.Nodes.{world_at}
use Rattle.queries.specs.Found.{AreSought}
use Rattle.queries.proofs.search.fitting.Given as goal

abbrev pub invariant-loop-node : goal.invariant-loop-node
invariant-loop-node g l = (w : World) → All (λ n. world_at n ≡ w) l.fn.nodes → AreSought l.fn.by.wanted (g.C.Condition.answers l.fn.by.condition) w (take l.node-index l.fn.nodes) l.found.items
