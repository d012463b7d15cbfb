use Rattle.std.proofs.Common.{◌≡◌, length}
use Rattle.model.specs.Lists.{ancestors}
use Rattle.views.specs.Nodes.{world_at, id_at}
use Rattle.compare.proofs.ShownRows.{IsIndented}
use Rattle.compare.proofs.row.write_indent.Given as goal

abbrev pub decreases-loop-parent : goal.decreases-loop-parent
decreases-loop-parent g l = length (ancestors (world_at l.fn.node) (id_at l.current))

-- what is written so far, and what is left for the nodes above, is all
abbrev pub invariant-loop-parent : goal.invariant-loop-parent
invariant-loop-parent g l = record {
  world : world_at l.current ≡ world_at l.fn.node;
  written : IsIndented (world_at l.fn.node) (g.O.Write.contents l.fn.out) (g.O.Write.contents l.out) (id_at l.fn.node) (id_at l.current);
}
