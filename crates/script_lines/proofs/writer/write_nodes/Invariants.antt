use Rattle.std.proofs.Common.{take, flat_map}
use Rattle.std.specs.Io.KnownBytes.{Appends}
use Rattle.script_lines.specs.Lines.{entry_line}
use Rattle.script_lines.proofs.writer.write_nodes.Given as goal

-- the nodes so far are written
abbrev pub invariant-loop-entry : goal.invariant-loop-entry
invariant-loop-entry g l =
    Appends (g.O.Write.contents l.fn.out) (g.O.Write.contents l.out) (flat_map entry_line (take l.entry-index l.fn.nodes))
