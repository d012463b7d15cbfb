use Rattle.std.proofs.Common.{flat_map}
use Rattle.std.specs.Io.KnownBytes.{Appends}
use Rattle.atree_script.proofs.TreeLines.{line_at}
use Rattle.atree_script.proofs.outline.print_below.Given as goal

-- the nodes so far are printed
abbrev pub invariant-loop-node : goal.invariant-loop-node
invariant-loop-node g l = Appends (g.O.Write.contents l.fn.out) (g.O.Write.contents l.out) (flat_map line_at l.yielded)
