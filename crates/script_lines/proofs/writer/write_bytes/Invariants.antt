use Rattle.std.proofs.Common.{◌≤◌, length, take}
use Rattle.std.specs.Io.KnownBytes.{Appends}
use Rattle.script_lines.proofs.writer.write_bytes.Given as goal

-- the bytes so far are written
abbrev pub invariant-loop : goal.invariant-loop
invariant-loop g l = (l.written ≤ length l.bytes) × Appends (g.O.Write.contents l.initial.out) (g.O.Write.contents l.out) (take l.written l.bytes)
