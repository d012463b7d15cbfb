use Rattle.std.proofs.Common.{◌≡◌, length}
use Rattle.matching.specs.Matches.{stands_in}
use Rattle.matching.proofs.parts.stands_in.Given as goal

abbrev pub invariant-loop-more : goal.invariant-loop-more
invariant-loop-more l = stands_in l.fn.part l.rest ≡ stands_in l.fn.part l.fn.text

abbrev pub decreases-loop-more : goal.decreases-loop-more
decreases-loop-more l = length l.rest
