use Rattle.std.proofs.Common.{length}
use Rattle.texts.proofs.PieceSteps.{pieces_from}
use Rattle.texts.proofs.LookSteps.{IsFarAs}
use Rattle.texts.proofs.range.TextRange.sample.Given as goal

-- the runs before this piece are like the node
abbrev pub invariant-loop-piece : goal.invariant-loop-piece
invariant-loop-piece l = IsFarAs l.fn.self l.fn.what l.node l.piece

abbrev pub decreases-loop-piece : goal.decreases-loop-piece
decreases-loop-piece l = length (pieces_from l.fn.self l.piece)
