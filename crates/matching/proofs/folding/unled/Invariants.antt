use Rattle.std.proofs.Common.{◌≡◌, length}
use Rattle.matching.specs.Matches.{unled}
use Rattle.matching.proofs.folding.unled.Given as goal

abbrev pub invariant-loop-byte : goal.invariant-loop-byte
invariant-loop-byte l = unled l.rest ≡ unled l.fn.text

abbrev pub decreases-loop-byte : goal.decreases-loop-byte
decreases-loop-byte l = length l.rest
