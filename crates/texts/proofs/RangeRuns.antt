-- The ends of a range as positions, and the runs that they name.
use Rattle.std.proofs.Common.{◌≡◌, ◌≢◌, ℕ, ◌+◌, ◌<◌, Bool, true, false, List, [], ◌∷◌, refl, sym, ap, subst, ◌∙◌, arith, eq-eqb}
use Rattle.std.specs.Prelude.{◌==◌, ◌↔◌}
use Rattle.std.proofs.lemmas.Bool.{eqb-true}
use Rattle.model.specs.declared.FullNodeId.{FullNodeId}
use Rattle.model.specs.TextRuns.{said_count}
use Rattle.model.specs.FlatText.{Position, IsPosition, count_in, biased_to_start, biased_to_end}
use Rattle.model.specs.Ranges.{Piece as PieceData, is_degenerate, piece_in, pieces}
use Rattle.model.specs.TextLaws.{IsWhole}
use Rattle.views.specs.declared.runs.Run.{Run}
use Rattle.texts.specs.declared.position.TextPosition.{TextPosition}
use Rattle.texts.specs.declared.range.TextRange.{TextRange}
use Rattle.texts.specs.declared.pieces.Piece.{Piece}
use Rattle.views.specs.Nodes.{world_at, id_at}
use Rattle.views.specs.Runs.{text_root_of, run_id, sent_of, IsAfter}
use Rattle.text_boundaries.specs.RunNumbers.{number_in}
use Rattle.texts.specs.Positions.{IsPositionAt, root_at, node_text, position_text, flat_position}
use Rattle.texts.specs.TextRanges.{text_in, range_at}
use Rattle.texts.specs.Pieces.{piece_data, last_passed, pieces_past, IsUpTo, IsLastPassed, IsNextPiece}
use Rattle.views.proofs.Focusing.{is_not}
use Rattle.text_boundaries.proofs.FlatRuns.{count_at_number, number_next}
use Rattle.texts.proofs.FlatPositions.{text_is_whole, is_position}
use Rattle.texts.proofs.TextEnds.{then_at}
use Rattle.texts.proofs.RunOrder.{number_of_one, one_of_number}
use Rattle.texts.proofs.RangePieces.{apart_by_run, one_run_one_place, runs_in_order, last_of_caret, last_of_some, caret_alone, first_in_range, next_in_range, none_past_last, piece_order, piece_within}

-- two runs of one root are one run exactly if they have one number
module _ (p q : Run) (same : text_root_of p ≡ text_root_of q) where
  pub one_number : run_id p ≡ run_id q → number_in p ≡ number_in q
  one_number e = number_of_one p q (ap world_at same) (ap id_at same) e

  pub one_id : number_in p ≡ number_in q → run_id p ≡ run_id q
  one_id e = one_of_number p q (ap world_at same) (ap id_at same) e

module _ (r : TextRange) where
  abbrev pub start_position : TextPosition
  start_position = record { run = record { root = r.root; spot = r.first.spot; known = r.starts }; index = r.first.index; text = r.text; within = r.starts_within }

  abbrev pub end_position : TextPosition
  end_position = record { run = record { root = r.root; spot = r.last.spot; known = r.ends }; index = r.last.index; text = r.text; within = r.ends_within }

  pub range_whole : IsWhole (text_in r)
  range_whole = text_is_whole start_position

  pub start_is_position : IsPosition (text_in r) (range_at r).start
  start_is_position = is_position start_position

  pub end_is_position : IsPosition (text_in r) (range_at r).end
  end_is_position = is_position end_position

  -- the start sides of the ends, as two steps give them
  module _ (s a e b : TextPosition)
      (starts : IsPositionAt r.root (range_at r).start s) (start_side : IsPositionAt (root_at s) (biased_to_start (position_text s) (flat_position s)) a)
      (ends : IsPositionAt r.root (range_at r).end e) (end_side : IsPositionAt (root_at e) (biased_to_start (position_text e) (flat_position e)) b) where
    first_at : IsPositionAt r.root (biased_to_start (text_in r) (range_at r).start) a
    first_at = then_at biased_to_start r.root (range_at r).start s a starts start_side

    last_at : IsPositionAt r.root (biased_to_start (text_in r) (range_at r).end) b
    last_at = then_at biased_to_start r.root (range_at r).end e b ends end_side

    one_root : text_root_of a.run ≡ text_root_of b.run
    one_root = first_at.same ∙ sym last_at.same

    pub in_two_runs : (x y : FullNodeId) (t : Bool) → x ≡ run_id a.run → y ≡ run_id b.run → (t ≡ true) ↔ (x ≡ y) → t ≡ false → false ≡ is_degenerate (text_in r) (range_at r)
    in_two_runs x y t xs ys tested is =
        apart_by_run (text_in r) (range_at r) range_whole start_is_position end_is_position
        (λ h. is_not t (x ≡ y) tested is (xs ∙ one_id a.run b.run one_root (ap (λ p. p.run) first_at.at ∙ h ∙ sym (ap (λ p. p.run) last_at.at)) ∙ sym ys))

    pub in_one_run : (x y : FullNodeId) (t : Bool) → x ≡ run_id a.run → y ≡ run_id b.run → (t ≡ true) ↔ (x ≡ y) → t ≡ true → (a.index == b.index) ≡ is_degenerate (text_in r) (range_at r)
    in_one_run x y t xs ys tested is =
        ap (λ i. i == b.index) (ap (λ p. p.index) first_at.at) ∙ ap (λ i. (biased_to_start (text_in r) (range_at r).start).index == i) (ap (λ p. p.index) last_at.at)
        ∙ one_run_one_place (text_in r) (range_at r) (sym (ap (λ p. p.run) first_at.at) ∙ one_number a.run b.run one_root (sym xs ∙ tested.0 is ∙ ys) ∙ ap (λ p. p.run) last_at.at)

-- whether a position names this run
module _ (p : TextPosition) (k : Run) (same : text_root_of p.run ≡ text_root_of k) (x : FullNodeId) (t : Bool) (xs : x ≡ run_id k) (tested : (t ≡ true) ↔ (x ≡ run_id p.run)) where
  pub named_here : t ≡ true → true ≡ ((flat_position p).run == number_in k)
  named_here is = sym (eq-eqb (number_in p.run) (number_in k) (one_number p.run k same (sym (tested.0 is) ∙ xs)))

  pub named_elsewhere : t ≡ false → false ≡ ((flat_position p).run == number_in k)
  named_elsewhere is = go (number_in p.run == number_in k) refl
    where
      go : (b : Bool) → (number_in p.run == number_in k) ≡ b → false ≡ b
      go false e = refl
      go true e = absurd (is_not t (x ≡ run_id p.run) tested is (xs ∙ sym (one_id p.run k same (eqb-true _ _ e))))

pub same_piece : (d : PieceData) (k from to : ℕ) → k ≡ d.run → from ≡ d.from → to ≡ d.to → (let e : PieceData = record { run = k; from = from; to = to } in e) ≡ d
same_piece d k from to a b c = λ i. record { run = a i; from = b i; to = c i }

module _ (r : TextRange) where
  -- a run's part of the range, before those past it
  pub part_of : (left : List PieceData) (k : Run) (p : Piece) → text_root_of k ≡ r.root → IsUpTo r k → p.run ≡ k → piece_data p ≡ piece_in (text_in r) (range_at r) (number_in k) →
      left ≡ piece_in (text_in r) (range_at r) (number_in k) ∷ pieces_past (text_in r) (range_at r) (number_in k) → IsNextPiece r left p
  part_of left k p same upto here is e =
      let t = text_in r in
      let q = range_at r in
      let root : text_root_of p.run ≡ r.root = ap text_root_of here ∙ same in
      let number : number_in p.run ≡ number_in k = ap number_in here in
      let from : p.from ≡ (piece_in t q (number_in k)).from = ap (λ (d : PieceData). d.from) is in
      let to : p.to ≡ (piece_in t q (number_in k)).to = ap (λ (d : PieceData). d.to) is in
      let counted : said_count (sent_of p.run) ≡ count_in t (number_in k) = sym (count_at_number p.run) ∙ ap (λ n. count_in (node_text n) (number_in p.run)) root ∙ ap (count_in t) number in
      let order = piece_order t q (start_is_position r) (end_is_position r) r.order (number_in k) in
      let within = piece_within t q (end_is_position r) (number_in k) in
      record {
        same = root;
        order = omega (arith, from, to, order);
        within = omega (arith, to, counted, within);
        reached = subst (IsUpTo r) (sym here) upto;
        is = e ∙ ap (λ d. d ∷ pieces_past t q (number_in k)) (sym is) ∙ ap (λ j. piece_data p ∷ pieces_past t q j) (sym number);
      }

  -- of a range with nothing in it
  pub caret_of : (s : TextPosition) → IsPositionAt r.root (range_at r).start s → is_degenerate (text_in r) (range_at r) ≡ true →
      IsNextPiece r (pieces (text_in r) (range_at r)) (record { run = s.run; from = s.index; to = s.index })
  caret_of s at none =
      let number : number_in s.run ≡ (range_at r).start.run = ap (λ q. q.run) at.at in
      record {
        same = at.same;
        order = omega arith;
        within = s.within;
        reached = (let last = last_of_caret (text_in r) (range_at r) none in omega (arith, number, last));
        is = caret_alone (text_in r) (range_at r) none
            ∙ ap (λ (p : Position). (let d : PieceData = record { run = p.run; from = p.index; to = p.index } in d) ∷ pieces_past (text_in r) (range_at r) p.run) (sym at.at);
      }

  pub caret_ends : (s : TextPosition) → IsPositionAt r.root (range_at r).start s → is_degenerate (text_in r) (range_at r) ≡ true → (id : FullNodeId) → id ≡ run_id s.run → IsLastPassed r id
  caret_ends s at none id is = record { run = s.run; same = at.same; number = ap (λ q. q.run) at.at ∙ sym (last_of_caret (text_in r) (range_at r) none); is = is }

  -- of one with something in it
  pub first_part : (s a : TextPosition) (p : Piece) → IsPositionAt r.root (range_at r).start s → IsPositionAt (root_at s) (biased_to_start (position_text s) (flat_position s)) a → is_degenerate (text_in r) (range_at r) ≡ false →
      p.run ≡ a.run → piece_data p ≡ piece_in (text_in r) (range_at r) (number_in a.run) → IsNextPiece r (pieces (text_in r) (range_at r)) p
  first_part s a p starts side some here is =
      let at : IsPositionAt r.root (biased_to_start (text_in r) (range_at r).start) a = then_at biased_to_start r.root (range_at r).start s a starts side in
      let number : number_in a.run ≡ (biased_to_start (text_in r) (range_at r).start).run = ap (λ q. q.run) at.at in
      let order = runs_in_order (text_in r) (range_at r) (range_whole r) (start_is_position r) (end_is_position r) r.order some in
      let last = last_of_some (text_in r) (range_at r) some in
      part_of (pieces (text_in r) (range_at r)) a.run p at.same (omega (arith, number, order, last)) here is (first_in_range (text_in r) (range_at r) (number_in a.run) number order some)

  pub side_ends : (e b : TextPosition) → IsPositionAt r.root (range_at r).end e → IsPositionAt (root_at e) (biased_to_end (position_text e) (flat_position e)) b → is_degenerate (text_in r) (range_at r) ≡ false → (id : FullNodeId) → id ≡ run_id b.run → IsLastPassed r id
  side_ends e b ends side some id is =
      let at : IsPositionAt r.root (biased_to_end (text_in r) (range_at r).end) b = then_at biased_to_end r.root (range_at r).end e b ends side in
      record { run = b.run; same = at.same; number = ap (λ q. q.run) at.at ∙ sym (last_of_some (text_in r) (range_at r) some); is = is }

  -- whether a run is the last one
  module _ (k : Run) (last : FullNodeId) (same : text_root_of k ≡ r.root) (ends : IsLastPassed r last) (x : FullNodeId) (t : Bool) (xs : x ≡ run_id k) (tested : (t ≡ true) ↔ (x ≡ last)) where
    pub none_after : t ≡ true → pieces_past (text_in r) (range_at r) (number_in k) ≡ []
    none_after is = none_past_last (text_in r) (range_at r) (number_in k) (one_number k ends.run (same ∙ sym ends.same) (sym xs ∙ tested.0 is ∙ ends.is) ∙ ends.number)

    some_after : t ≡ false → IsUpTo r k → number_in k < last_passed (text_in r) (range_at r)
    some_after is upto =
        let apart : number_in k ≢ last_passed (text_in r) (range_at r) =
        λ h. is_not t (x ≡ last) tested is (xs ∙ one_id k ends.run (same ∙ sym ends.same) (h ∙ sym ends.number) ∙ sym ends.is) in
        omega (arith, upto, apart)

    pub next_part : (n : Run) (p : Piece) → t ≡ false → IsUpTo r k → IsAfter k n → p.run ≡ n → piece_data p ≡ piece_in (text_in r) (range_at r) (number_in n) →
        IsNextPiece r (pieces_past (text_in r) (range_at r) (number_in k)) p
    next_part n p is upto after here part =
        let less = some_after is upto in
        let number : number_in n ≡ number_in k + 1 = number_next k n after in
        part_of (pieces_past (text_in r) (range_at r) (number_in k)) n p (after.root ∙ same) (omega (arith, number, less)) here part
        (next_in_range (text_in r) (range_at r) (number_in k) (number_in n) number less)
