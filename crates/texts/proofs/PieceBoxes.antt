-- The boxes of pieces, one after another.
use Rattle.std.proofs.Common.{◌≡◌, ℕ, List, [], ◌∷◌, ◌++◌, map, refl, sym, ap, ◌∙◌, append_assoc, append-nil}
use Rattle.std.specs.Prelude.{ℤ, Option, Some, None, option_map, option_and_then, unwrap_or}
use Rattle.schema.specs.declared.geometry.Rect.{Rect}
use Rattle.schema.specs.declared.geometry.WideRect.{WideRect}
use Rattle.schema.specs.declared.values.TextDirection.{TextDirection}
use Rattle.model.specs.Geometry.{moved_rect, ordered_rect}
use Rattle.model.specs.TextRuns.{said_count}
use Rattle.model.specs.FlatText.{ShownRun, Metrics, count}
use Rattle.model.specs.Ranges.{Piece as PieceData, pieces, piece_rect, piece_box, all_given, bounding_boxes}
use Rattle.texts.specs.declared.range.TextRange.{TextRange}
use Rattle.texts.specs.declared.pieces.Piece.{Piece}
use Rattle.views.specs.Runs.{text_root_of, sent_of}
use Rattle.text_boundaries.specs.RunNumbers.{number_in, text_around}
use Rattle.texts.specs.Positions.{node_text}
use Rattle.texts.specs.TextRanges.{text_in, range_at}
use Rattle.texts.specs.Pieces.{piece_data, pieces_past}
use Rattle.texts.specs.Measures.{shown_in}
use Rattle.texts.specs.Boxes.{box_of}
use Rattle.text_boundaries.proofs.FlatRuns.{shown_at_number}
use Rattle.texts.proofs.PointPlaces.{count_shown}

-- ---- a box

pub same_rect : (x0 y0 x1 y1 : ℤ) (r : WideRect) → x0 ≡ r.x0 → y0 ≡ r.y0 → x1 ≡ r.x1 → y1 ≡ r.y1 → (let q : WideRect = record { x0 = x0; y0 = y0; x1 = x1; y1 = y1 } in q) ≡ r
same_rect x0 y0 x1 y1 r a b c d = λ i. record { x0 = a i; y0 = b i; x1 = c i; y1 = d i }

module _ (p : Piece) where
  abbrev pub run_shown : ShownRun
  run_shown = shown_in p.run

  abbrev boxed : ℕ → Option Rect → Option Metrics → Option TextDirection → Option WideRect
  boxed n bounds metrics direction =
      option_and_then (λ b. option_and_then (λ m. option_map (λ d. ordered_rect (moved_rect (piece_rect b m d n (piece_data p)) run_shown.move)) direction) metrics) bounds

  box_is : piece_box (text_around p.run) (piece_data p) ≡ boxed (said_count (sent_of p.run)) run_shown.bounds run_shown.metrics run_shown.direction
  box_is =
      ap (option_and_then (λ (s : ShownRun). option_and_then (λ b. option_and_then (λ m. option_map (λ d. ordered_rect (moved_rect (piece_rect b m d (count s) (piece_data p)) s.move)) s.direction) s.metrics) s.bounds)) (shown_at_number p.run)
      ∙ ap (λ n. boxed n run_shown.bounds run_shown.metrics run_shown.direction) (count_shown p.run)

  pub no_bounds : run_shown.bounds ≡ None → None ≡ piece_box (text_around p.run) (piece_data p)
  no_bounds e = sym (box_is ∙ ap (λ o. boxed (said_count (sent_of p.run)) o run_shown.metrics run_shown.direction) e)

  module _ (b : Rect) (bounds : run_shown.bounds ≡ Some b) where
    bounded : piece_box (text_around p.run) (piece_data p) ≡ boxed (said_count (sent_of p.run)) (Some b) run_shown.metrics run_shown.direction
    bounded = box_is ∙ ap (λ o. boxed (said_count (sent_of p.run)) o run_shown.metrics run_shown.direction) bounds

    pub no_metrics : run_shown.metrics ≡ None → None ≡ piece_box (text_around p.run) (piece_data p)
    no_metrics e = sym (bounded ∙ ap (λ o. boxed (said_count (sent_of p.run)) (Some b) o run_shown.direction) e)

    module _ (m : Metrics) (metrics : run_shown.metrics ≡ Some m) where
      measured : piece_box (text_around p.run) (piece_data p) ≡ boxed (said_count (sent_of p.run)) (Some b) (Some m) run_shown.direction
      measured = bounded ∙ ap (λ o. boxed (said_count (sent_of p.run)) (Some b) o run_shown.direction) metrics

      pub no_direction : run_shown.direction ≡ None → None ≡ piece_box (text_around p.run) (piece_data p)
      no_direction e = sym (measured ∙ ap (boxed (said_count (sent_of p.run)) (Some b) (Some m)) e)

      pub box_given : (d : TextDirection) → run_shown.direction ≡ Some d → Some (box_of p b m d) ≡ piece_box (text_around p.run) (piece_data p)
      box_given d e = sym (measured ∙ ap (boxed (said_count (sent_of p.run)) (Some b) (Some m)) e)

-- ---- one box after another

abbrev pub with_more : List WideRect → Option (List WideRect) → Option (List WideRect)
with_more boxes o = option_map (λ more. boxes ++ more) o

more_of_none : (o : Option (List WideRect)) → o ≡ with_more [] o
more_of_none None = refl
more_of_none (Some xs) = refl

one_more : (boxes : List WideRect) (x : WideRect) (o : Option (List WideRect)) → with_more boxes (option_map (λ xs. x ∷ xs) o) ≡ with_more (boxes ++ x ∷ []) o
one_more boxes x None = refl
one_more boxes x (Some xs) = ap Some (sym (append_assoc boxes (x ∷ []) xs))

module _ (range : TextRange) where
  abbrev boxes_of : List PieceData → Option (List WideRect)
  boxes_of ps = all_given (map (piece_box (text_in range)) ps)

  abbrev all_boxes : Option (List WideRect)
  all_boxes = boxes_of (pieces (text_in range) (range_at range))

  -- the boxes so far, and those of a piece and of the ones past it, are all
  abbrev pub AreBoxesWith : List WideRect → Piece → Type 0
  AreBoxesWith boxes p = all_boxes ≡ with_more boxes (boxes_of (piece_data p ∷ pieces_past (text_in range) (range_at range) (number_in p.run)))

  pub none_yet : (p : Piece) → pieces (text_in range) (range_at range) ≡ piece_data p ∷ pieces_past (text_in range) (range_at range) (number_in p.run) → AreBoxesWith [] p
  none_yet p e = ap boxes_of e ∙ more_of_none _

  module _ (boxes : List WideRect) (p : Piece) (same : text_root_of p.run ≡ range.root) (so_far : AreBoxesWith boxes p) where
    abbrev later : List PieceData
    later = pieces_past (text_in range) (range_at range) (number_in p.run)

    with_box : (o : Option WideRect) → o ≡ piece_box (text_around p.run) (piece_data p) → all_boxes ≡ with_more boxes (option_and_then (λ x. option_map (λ xs. x ∷ xs) (boxes_of later)) o)
    with_box o e =
        so_far
        ∙ ap (λ (b : Option WideRect). with_more boxes (option_and_then (λ x. option_map (λ xs. x ∷ xs) (boxes_of later)) b)) (ap (λ n. piece_box (node_text n) (piece_data p)) (sym same) ∙ sym e)

    pub box_lacks : None ≡ piece_box (text_around p.run) (piece_data p) → [] ≡ bounding_boxes (text_in range) (range_at range)
    box_lacks e = sym (ap (λ o. unwrap_or o []) (with_box None e))

    module _ (x : WideRect) (is : Some x ≡ piece_box (text_around p.run) (piece_data p)) where
      with_one : all_boxes ≡ with_more (boxes ++ x ∷ []) (boxes_of later)
      with_one = with_box (Some x) is ∙ one_more boxes x (boxes_of later)

      pub last_box : later ≡ [] → boxes ++ x ∷ [] ≡ bounding_boxes (text_in range) (range_at range)
      last_box e = sym (ap (λ o. unwrap_or o []) (with_one ∙ ap (λ ps. with_more (boxes ++ x ∷ []) (boxes_of ps)) e) ∙ append-nil (boxes ++ x ∷ []))

      pub next_box : (q : Piece) → later ≡ piece_data q ∷ pieces_past (text_in range) (range_at range) (number_in q.run) → AreBoxesWith (boxes ++ x ∷ []) q
      next_box q e = with_one ∙ ap (λ ps. with_more (boxes ++ x ∷ []) (boxes_of ps)) e
