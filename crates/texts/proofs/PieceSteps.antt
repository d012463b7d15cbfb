-- From one piece of a range to the next, and the texts of those that are left.
use Rattle.std.proofs.Common.{◌≡◌, ℕ, zero, suc, Bool, true, List, [], ◌∷◌, ◌++◌, Some, refl, sym, ap, subst, ◌∙◌}
use Rattle.std.specs.Prelude.{slice_get}
use Rattle.std.specs.List.{flat_map}
use Rattle.std.proofs.lemmas.Bool.{and_parts}
use Rattle.std.proofs.lemmas.Option.{none-some, same_Some}
use Rattle.schema.specs.RunFits.{is_cut_by}
use Rattle.model.specs.TextRuns.{SentRun, sent_runs, run_value, are_cut}
use Rattle.model.specs.FlatText.{needs_masking}
use Rattle.model.specs.Ranges.{Piece as PieceData, piece_text}
use Rattle.model.proofs.Text.TextFacts.{is_text}
use Rattle.texts.specs.declared.range.TextRange.{TextRange}
use Rattle.texts.specs.declared.pieces.Piece.{Piece}
use Rattle.views.specs.Nodes.{world_at, id_at}
use Rattle.views.specs.Runs.{run_world, root_id, sent_of}
use Rattle.texts.specs.Positions.{node_text}
use Rattle.text_boundaries.specs.RunNumbers.{number_in}
use Rattle.texts.specs.TextRanges.{text_in, range_at}
use Rattle.texts.specs.Pieces.{piece_data, pieces_past, IsNextPiece}
use Rattle.texts.specs.PieceTexts.{IsPart, shown_piece}
use Rattle.text_boundaries.proofs.FlatRuns.{sent_at_number}
use Rattle.texts.proofs.CutPieces.{text_of_part}

-- a piece and those past it
abbrev pub pieces_from : TextRange → Piece → List PieceData
pieces_from r p = piece_data p ∷ pieces_past (text_in r) (range_at r) (number_in p.run)

-- the value of each run of a text is cut by its lengths
cut_at_number : (runs : List SentRun) (n : ℕ) (s : SentRun) → are_cut runs ≡ true → slice_get runs n ≡ Some s → is_cut_by (run_value s) s.node.character_lengths ≡ true
cut_at_number [] n s e f = absurd (none-some s f)
cut_at_number (a ∷ runs) zero s e f = subst (λ (x : SentRun). is_cut_by (run_value x) x.node.character_lengths ≡ true) (same_Some a s f) (and_parts (is_cut_by (run_value a) a.node.character_lengths) _ e).0
cut_at_number (a ∷ runs) (suc n) s e f = cut_at_number runs n s (and_parts (is_cut_by (run_value a) a.node.character_lengths) _ e).1 f

module _ (r : TextRange) where
  pub part_there : (left : List PieceData) (p : Piece) → IsNextPiece r left p → IsPart p
  part_there left p there = record {
    order = there.order;
    within = there.within;
    cut = cut_at_number (sent_runs (run_world p.run) (root_id p.run)) (number_in p.run) (sent_of p.run)
        (subst (λ n. are_cut (sent_runs (world_at n) (id_at n)) ≡ true) (sym there.same) (is_text (world_at r.root) (id_at r.root) r.text).cut) (sent_at_number p.run);
  }

  -- the text of a piece is what is shown of it
  pub shown_there : (left : List PieceData) (p : Piece) (masked : Bool) → IsNextPiece r left p → masked ≡ needs_masking (world_at r.root) (id_at r.root) → piece_text (text_in r) (piece_data p) ≡ shown_piece masked p
  shown_there left p masked there is =
      ap (λ n. piece_text (node_text n) (piece_data p)) (sym there.same) ∙ text_of_part p
      ∙ ap (λ n. shown_piece (needs_masking (world_at n) (id_at n)) p) there.same ∙ ap (λ b. shown_piece b p) (sym is)

  pub as_next : (left : List PieceData) (p : Piece) → IsNextPiece r left p → IsNextPiece r (pieces_from r p) p
  as_next left p there = record { same = there.same; order = there.order; within = there.within; reached = there.reached; is = refl }

  pub texts_left : (left : List PieceData) (p : Piece) → IsNextPiece r left p → flat_map (piece_text (text_in r)) left ≡ flat_map (piece_text (text_in r)) (pieces_from r p)
  texts_left left p there = ap (flat_map (piece_text (text_in r))) there.is

  -- what is shown of a piece comes before the texts of those past it
  pub shown_first : (p : Piece) (masked : Bool) → IsNextPiece r (pieces_from r p) p → masked ≡ needs_masking (world_at r.root) (id_at r.root) →
      flat_map (piece_text (text_in r)) (pieces_from r p) ≡ shown_piece masked p ++ flat_map (piece_text (text_in r)) (pieces_past (text_in r) (range_at r) (number_in p.run))
  shown_first p masked there is = ap (λ xs. xs ++ flat_map (piece_text (text_in r)) (pieces_past (text_in r) (range_at r) (number_in p.run))) (shown_there (pieces_from r p) p masked there is)
