use Rattle.std.proofs.Common.{take, flat_map}
use Rattle.std.specs.Io.KnownBytes.{Appends}
use Rattle.html.specs.Escaped.{escaped_byte}
use Rattle.html.proofs.escaping.write_escaped_bytes.Given as goal

-- the bytes so far are written
abbrev pub invariant-loop-byte : goal.invariant-loop-byte
invariant-loop-byte g l =
    Appends (g.O.Write.contents l.fn.out) (g.O.Write.contents l.out) (flat_map escaped_byte (take l.byte-index l.fn.text))
