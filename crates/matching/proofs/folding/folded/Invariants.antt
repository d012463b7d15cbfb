use Rattle.std.proofs.Common.{◌≡◌, ◌++◌, length}
use Rattle.matching.specs.Matches.{folded, squeezed}
use Rattle.matching.proofs.folding.folded.Given as goal

-- what is folded, and what is left to fold, is all
abbrev pub invariant-loop-byte : goal.invariant-loop-byte
invariant-loop-byte l = l.folded.items ++ squeezed l.rest ≡ folded l.fn.text

abbrev pub decreases-loop-byte : goal.decreases-loop-byte
decreases-loop-byte l = length l.rest
