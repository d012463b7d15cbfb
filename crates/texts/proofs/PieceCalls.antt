-- A writer is called with the next piece, and then with those past it.
use Rattle.std.proofs.Common.{◌≡◌, ◌-◌, Bool, List, [], ◌∷◌, ◌++◌, sym, ap, ◌∙◌}
use Rattle.std.specs.Prelude.{if◌then◌else◌}
use Rattle.std.specs.List.{flat_map}
use Rattle.schema.specs.TextCalls.{TextCall, WithText}
use Rattle.model.specs.FlatText.{needs_masking}
use Rattle.model.specs.Ranges.{Piece as PieceData}
use Rattle.texts.specs.declared.range.TextRange.{TextRange}
use Rattle.texts.specs.declared.pieces.Piece.{Piece}
use Rattle.views.specs.Writes.{bullet_calls}
use Rattle.text_boundaries.specs.RunNumbers.{number_in}
use Rattle.texts.specs.TextRanges.{world_in, root_in, text_in, range_at}
use Rattle.texts.specs.Pieces.{piece_data, pieces_past, IsNextPiece}
use Rattle.texts.specs.TextCalls.{piece_calls, part_calls}
use Rattle.texts.proofs.PieceSteps.{pieces_from, shown_there}

module _ (r : TextRange) where
  -- with these pieces of it
  abbrev pub calls_with : List PieceData → List TextCall
  calls_with ps = flat_map (piece_calls (needs_masking (world_in r) (root_in r)) (text_in r)) ps

  pub calls_left : (left : List PieceData) (p : Piece) → IsNextPiece r left p → calls_with left ≡ calls_with (pieces_from r p)
  calls_left left p there = ap calls_with there.is

  pub called_first : (p : Piece) (masked : Bool) → IsNextPiece r (pieces_from r p) p → masked ≡ needs_masking (world_in r) (root_in r) →
      calls_with (pieces_from r p) ≡ part_calls masked p ++ calls_with (pieces_past (text_in r) (range_at r) (number_in p.run))
  called_first p masked there is =
      ap (λ xs. xs ++ calls_with (pieces_past (text_in r) (range_at r) (number_in p.run)))
      (ap (λ m. piece_calls m (text_in r) (piece_data p)) (sym is)
      ∙ ap (λ text. if masked then bullet_calls (p.to - p.from) else WithText text ∷ []) (shown_there r (pieces_from r p) p masked there is))
