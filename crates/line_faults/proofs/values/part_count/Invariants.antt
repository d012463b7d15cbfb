use Rattle.std.proofs.Common.{◌+◌, ◌≤◌}
use Rattle.line_faults.proofs.values.part_count.Given as goal

abbrev pub invariant-loop-byte : goal.invariant-loop-byte
invariant-loop-byte l = l.count ≤ l.byte-index + 1
