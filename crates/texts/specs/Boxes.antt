-- Boxes of pieces, and of a run before any translation.
use Rattle.schema.specs.declared.geometry.Rect.{Rect}
use Rattle.schema.specs.declared.geometry.WideRect.{WideRect}
use Rattle.schema.specs.declared.values.TextDirection.{TextDirection}
use Rattle.model.specs.TextRuns.{said_count}
use Rattle.model.specs.FlatText.{Metrics}
use Rattle.model.specs.Geometry.{moved_rect, ordered_rect}
use Rattle.model.specs.Ranges.{reach_from, reach_to, cut_along, piece_rect}
use Rattle.texts.specs.declared.pieces.Piece.{Piece}
use Rattle.views.specs.Runs.{sent_of}
use Rattle.texts.specs.Pieces.{piece_data}
use Rattle.texts.specs.Measures.{shown_in, IsAlong}

-- the box of a piece, from its run's data
abbrev pub box_of : Piece → Rect → Metrics → TextDirection → WideRect
box_of p b m d = ordered_rect (moved_rect (piece_rect b m d (said_count (sent_of p.run)) (piece_data p)) (shown_in p.run).move)

-- the part of a rectangle that a piece covers in its run
abbrev pub cut_of : Piece → Rect → Metrics → TextDirection → WideRect
cut_of p b m d = cut_along d b (reach_from m (said_count (sent_of p.run)) p.from) (reach_to m (said_count (sent_of p.run)) (piece_data p))

-- each edge is no farther than a character of a run and the run's own edge
pub record IsOnRun (r : WideRect) : Type 0 where
  pub x0 : IsAlong 3 r.x0
  pub y0 : IsAlong 3 r.y0
  pub x1 : IsAlong 3 r.x1
  pub y1 : IsAlong 3 r.y1
