-- So far the list has the first of the bytes.
use Rattle.std.proofs.Common.{◌≡◌, take}
use Rattle.schema.proofs.runs.widened.Given as goal

abbrev pub invariant-loop-byte : goal.invariant-loop-byte
invariant-loop-byte l = l.list.items ≡ take l.byte-index l.bytes
