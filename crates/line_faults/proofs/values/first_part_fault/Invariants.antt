use Rattle.std.proofs.Common.{◌≤◌, length}
use Rattle.line_faults.proofs.values.first_part_fault.Given as goal

abbrev pub invariant-loop : goal.invariant-loop
invariant-loop g l = l.from ≤ length l.value
