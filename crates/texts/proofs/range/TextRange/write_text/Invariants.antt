use Rattle.std.proofs.Common.{length}
use Rattle.std.specs.List.{flat_map}
use Rattle.model.specs.Ranges.{piece_text, text_of}
use Rattle.texts.specs.TextRanges.{text_in, range_at}
use Rattle.texts.specs.Pieces.{IsNextPiece}
use Rattle.views.specs.Writes.{IsUnderWay}
use Rattle.views.proofs.Calling.{IsCalledUpTo}
use Rattle.texts.specs.TextCalls.{range_calls}
use Rattle.texts.proofs.PieceSteps.{pieces_from}
use Rattle.texts.proofs.PieceCalls.{calls_with}
use Rattle.texts.proofs.range.TextRange.write_text.Given as goal

-- the pieces before this one are written
abbrev pub invariant-loop-range : goal.invariant-loop-range
invariant-loop-range g l = record {
  there : IsNextPiece l.fn.self (pieces_from l.fn.self l.piece) l.piece;
  calls : IsCalledUpTo g.W.TextWrite.steps (range_calls l.fn.self) (calls_with l.fn.self (pieces_from l.fn.self l.piece)) l.fn.writer l.writer;
  way : IsUnderWay g.W.TextWrite.received g.W.TextWrite.faults (text_of (text_in l.fn.self) (range_at l.fn.self)) (flat_map (piece_text (text_in l.fn.self)) (pieces_from l.fn.self l.piece)) l.fn.writer l.writer;
}

abbrev pub decreases-loop-range : goal.decreases-loop-range
decreases-loop-range g l = length (pieces_from l.fn.self l.piece)
