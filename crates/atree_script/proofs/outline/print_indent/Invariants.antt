use Rattle.std.proofs.Common.{◌≡◌, ℕ, List, ◌++◌, length}
use Rattle.std.specs.Io.KnownBytes.{Appends}
use Rattle.model.specs.Lists.{ancestors}
use Rattle.views.specs.Nodes.{world_at, id_at}
use Rattle.atree_script.specs.Outline.{spaces_for}
use Rattle.atree_script.proofs.outline.print_indent.Given as goal

abbrev pub decreases-loop-parent : goal.decreases-loop-parent
decreases-loop-parent g l = length (ancestors (world_at l.fn.node) (id_at l.current))

-- what is written so far, and what the nodes above add to it
abbrev pub invariant-loop-parent : goal.invariant-loop-parent
invariant-loop-parent g l = record {
  world : world_at l.current ≡ world_at l.fn.node;
  written : (done : List ℕ) × Appends (g.O.Write.contents l.fn.out) (g.O.Write.contents l.out) done
      × (done ++ spaces_for (ancestors (world_at l.fn.node) (id_at l.current)) ≡ spaces_for (ancestors (world_at l.fn.node) (id_at l.fn.node)));
}
