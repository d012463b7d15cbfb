use Rattle.std.proofs.Common.{◌≡◌}
use Rattle.texts.proofs.UnitCounts.{bytes_to}
use Rattle.texts.proofs.indexes.front.Given as goal

abbrev pub invariant-loop-length : goal.invariant-loop-length
invariant-loop-length l = l.end ≡ bytes_to l.first l.length-index
