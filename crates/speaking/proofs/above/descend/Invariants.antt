use Rattle.std.proofs.Common.{◌≡◌, length}
use Rattle.views.specs.Nodes.{world_at, id_at}
use Rattle.speaking.specs.Above.{above_of, AreRight, IsWay, LeadsTo}
use Rattle.speaking.proofs.above.descend.Given as goal

-- what is left of the path leads to a node of which this is known
abbrev pub invariant-loop-next : goal.invariant-loop-next
invariant-loop-next l =
    IsWay (world_at l.fn.node) (id_at l.fn.node) l.fn.climbed → l.fn.climbed.above ≡ above_of (world_at l.fn.node) (id_at l.fn.climbed.top) → AreRight (world_at l.fn.node) l.fn.known
    → LeadsTo (world_at l.fn.node) (id_at l.fn.node) l.left.items l.parent × (l.above ≡ above_of (world_at l.fn.node) (id_at l.parent)) × AreRight (world_at l.fn.node) l.known

abbrev pub decreases-loop-next : goal.decreases-loop-next
decreases-loop-next l = length l.left.items
