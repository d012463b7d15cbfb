-- The pieces of a range, one after another.
use Rattle.std.specs.Prelude.{◌≡◌, ◌≤◌, ℕ, ◌+◌, ◌-◌, List, ◌∷◌, map, if◌then◌else◌}
use Rattle.std.specs.List.{range_with_len}
use Rattle.model.specs.declared.FullNodeId.{FullNodeId}
use Rattle.model.specs.TextRuns.{said_count}
use Rattle.model.specs.FlatText.{FlatText, biased_to_end}
use Rattle.model.specs.Ranges.{Range, Piece as PieceData, is_degenerate, piece_in}
use Rattle.texts.specs.declared.range.TextRange.{TextRange}
use Rattle.texts.specs.declared.pieces.Piece.{Piece}
use Rattle.views.specs.declared.runs.Run.{Run}
use Rattle.views.specs.Runs.{text_root_of, run_id, sent_of}
use Rattle.text_boundaries.specs.RunNumbers.{number_in}
use Rattle.texts.specs.TextRanges.{text_in, range_at}

-- the piece as the model has it
abbrev pub piece_data : Piece → PieceData
piece_data p = record { run = number_in p.run; from = p.from; to = p.to }

-- the number of the last run that the range passes
abbrev pub last_passed : FlatText → Range → ℕ
last_passed t r = if is_degenerate t r then r.start.run else (biased_to_end t r.end).run

-- the pieces of a range in the runs past this one
abbrev pub pieces_past : FlatText → Range → ℕ → List PieceData
pieces_past t r k = map (piece_in t r) (range_with_len (k + 1) (last_passed t r - k))

-- the run isn't past the last one that the range passes
abbrev pub IsUpTo : TextRange → Run → Type 0
IsUpTo range k = number_in k ≤ last_passed (text_in range) (range_at range)

-- the id is that of the last run that the range passes
pub record IsLastPassed (range : TextRange) (id : FullNodeId) : Type 0 where
  pub run : Run
  pub same : text_root_of run ≡ range.root
  pub number : number_in run ≡ last_passed (text_in range) (range_at range)
  pub is : id ≡ run_id run

-- of these pieces of the range it is the first, and the others are those past its run
pub record IsNextPiece (range : TextRange) (left : List PieceData) (p : Piece) : Type 0 where
  pub same : text_root_of p.run ≡ range.root
  pub order : p.from ≤ p.to
  pub within : p.to ≤ said_count (sent_of p.run)
  pub reached : IsUpTo range p.run
  pub is : left ≡ piece_data p ∷ pieces_past (text_in range) (range_at range) (number_in p.run)
