use Rattle.std.proofs.Common.{All, take}
use Rattle.script_lines.specs.ReadingBack.{HasSets, IsEntry}
use Rattle.script_lines.proofs.read_back.entries_fit.Given as goal

-- the nodes so far are within their bounds
abbrev pub invariant-loop-entry : goal.invariant-loop-entry
invariant-loop-entry l = All HasSets l.fn.nodes → All IsEntry (take l.entry-index l.fn.nodes)
