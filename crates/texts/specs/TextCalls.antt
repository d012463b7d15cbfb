-- How a writer is called with the text of a range.
use Rattle.std.specs.Prelude.{◌-◌, Bool, List, [], ◌∷◌, if◌then◌else◌}
use Rattle.std.specs.List.{flat_map}
use Rattle.schema.specs.TextCalls.{TextCall, WithText}
use Rattle.model.specs.FlatText.{FlatText, needs_masking}
use Rattle.model.specs.Ranges.{Piece as PieceData, piece_text, pieces}
use Rattle.texts.specs.declared.range.TextRange.{TextRange}
use Rattle.texts.specs.declared.pieces.Piece.{Piece}
use Rattle.views.specs.Writes.{bullet_calls}
use Rattle.texts.specs.TextRanges.{world_in, root_in, text_in, range_at}
use Rattle.texts.specs.PieceTexts.{shown_piece}

-- with a masked piece bullet by bullet, and with another one as a whole
abbrev pub piece_calls : Bool → FlatText → PieceData → List TextCall
piece_calls masked t p = if masked then bullet_calls (p.to - p.from) else WithText (piece_text t p) ∷ []

-- with the pieces of a range, in order
abbrev pub range_calls : TextRange → List TextCall
range_calls r = flat_map (piece_calls (needs_masking (world_in r) (root_in r)) (text_in r)) (pieces (text_in r) (range_at r))

-- with one piece, by its run
abbrev pub part_calls : Bool → Piece → List TextCall
part_calls masked p = if masked then bullet_calls (p.to - p.from) else WithText (shown_piece masked p) ∷ []
