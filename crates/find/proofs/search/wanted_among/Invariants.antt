use Rattle.std.proofs.Common.{map, take}
use Rattle.std.specs.Prelude.{filter}
use Rattle.views.specs.Nodes.{world_at, id_at}
use Rattle.find.specs.Viewed.{AreNodes}
use Rattle.find.specs.Wanted.{is_wanted, sought_of}
use Rattle.find.proofs.search.wanted_among.Given as goal

-- those of the nodes so far
abbrev pub invariant-loop-node : goal.invariant-loop-node
invariant-loop-node l = AreNodes (world_at l.fn.top) (filter (is_wanted (sought_of l.fn.wanted) (world_at l.fn.top)) (map id_at (take l.node-index l.fn.shown))) l.found.items
