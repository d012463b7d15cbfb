use Rattle.std.proofs.Common.{◌≡◌, length, max}
use Rattle.model.specs.Ranges.{pieces}
use Rattle.texts.specs.TextRanges.{text_in, range_at}
use Rattle.texts.specs.Pieces.{IsNextPiece}
use Rattle.texts.specs.Traversals.{longest}
use Rattle.texts.proofs.PieceSteps.{pieces_from}
use Rattle.texts.proofs.range.TextRange.longest.Given as goal

-- what was seen and what is left have the longest piece between them
abbrev pub invariant-loop-next : goal.invariant-loop-next
invariant-loop-next l = record {
  there : IsNextPiece l.fn.self (pieces_from l.fn.self l.piece) l.piece;
  most : max l.most (longest (pieces_from l.fn.self l.piece)) ≡ longest (pieces (text_in l.fn.self) (range_at l.fn.self));
}

abbrev pub decreases-loop-next : goal.decreases-loop-next
decreases-loop-next l = length (pieces_from l.fn.self l.piece)
