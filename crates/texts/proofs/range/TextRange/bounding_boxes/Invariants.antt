use Rattle.std.proofs.Common.{◌≡◌, length}
use Rattle.views.specs.Runs.{text_root_of}
use Rattle.text_boundaries.specs.RunNumbers.{number_in}
use Rattle.texts.specs.TextRanges.{text_in, range_at}
use Rattle.texts.specs.Pieces.{IsUpTo, pieces_past}
use Rattle.texts.proofs.PieceBoxes.{AreBoxesWith}
use Rattle.texts.proofs.range.TextRange.bounding_boxes.Given as goal

abbrev pub invariant-loop-shown : goal.invariant-loop-shown
invariant-loop-shown l = record {
  same : text_root_of l.piece.run ≡ l.fn.self.root;
  reached : IsUpTo l.fn.self l.piece.run;
  so_far : AreBoxesWith l.fn.self l.boxes.items l.piece;
}

abbrev pub decreases-loop-shown : goal.decreases-loop-shown
decreases-loop-shown l = length (pieces_past (text_in l.fn.self) (range_at l.fn.self) (number_in l.piece.run))
