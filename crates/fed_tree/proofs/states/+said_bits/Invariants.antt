use Rattle.std.proofs.Common.{length}
use Rattle.fed_tree.proofs.states.+said_bits.Given as goal

-- the flags that are left
abbrev pub decreases-said_bits : goal.decreases-said_bits
decreases-said_bits l = length l.flags.now
