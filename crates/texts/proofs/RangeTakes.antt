-- Where a walk over the parts of a range cuts next, and that it goes on.
use Rattle.std.proofs.Common.{◌≡◌, ℕ, suc, ◌<◌, Bool, true, false, List, ◌∷◌, length, Some, sym, ap, subst, ◌∙◌, arith}
use Rattle.std.specs.Iterator.{MakesProgress, item_count}
use Rattle.model.specs.FlatText.{FlatText, Position, offset, total, biased_to_start, is_word_start, is_line_start}
use Rattle.model.specs.Moves.{forward_to_character_start, forward_to_word_start, forward_to_line_start}
use Rattle.model.specs.Ranges.{is_degenerate}
use Rattle.model.specs.TextLaws.{IsWhole}
use Rattle.model.proofs.Text.TextFacts.{start_bias}
use Rattle.model.proofs.Text.Sides.{start_bias_side, start_side_of_bias, start_side_is}
use Rattle.views.specs.declared.node.node_ref.NodeRef.{NodeRef}
use Rattle.texts.specs.declared.position.TextPosition.{TextPosition}
use Rattle.texts.specs.declared.range.TextRange.{TextRange}
use Rattle.texts.specs.Positions.{IsPositionAt, IsMoved, node_text, position_text, flat_position}
use Rattle.texts.specs.TextRanges.{text_in, range_at}
use Rattle.texts.specs.RangeCuts.{Located, located}
use Rattle.texts.proofs.CutPlaces.{IsNextCut}
use Rattle.texts.proofs.NextCuts.{next_character, next_word, next_line}
use Rattle.texts.proofs.RangeRuns.{range_whole, start_is_position}
use Rattle.texts.proofs.RangeSplits.{some_to_take, end_within}
use Rattle.texts.proofs.TextEnds.{then_at}

-- a place on its start side stays there
pub side_stays : (t : FlatText) (whole : IsWhole t) (starts : Position → Bool) (a : ℕ) (c : Position) → IsNextCut starts t a c → biased_to_start t c ≡ c
side_stays t whole starts a c next = let on = next.side in sym (start_side_of_bias t c whole (record { run = on.run; index = on.index })) ∙ start_side_is t c on

module _ (r : TextRange) (some : is_degenerate (text_in r) (range_at r) ≡ false) where
  less : offset (text_in r) (range_at r).start < total (text_in r)
  less = let a = some_to_take r some in let b = end_within r in omega (arith, a, b)

  module _ (z : TextPosition) (at : IsPositionAt r.root (range_at r).start z) where
    pub character_after : offset (position_text z) (flat_position z) < total (position_text z)
    character_after = subst (λ (x : NodeRef × Position). offset (node_text x.0) x.1 < total (node_text x.0)) (λ i. (sym at.same i, sym at.at i)) less

    pub to_character : (n : TextPosition) → IsMoved forward_to_character_start z n → IsNextCut (λ q. true) (text_in r) (offset (text_in r) (range_at r).start) (flat_position n)
    to_character n moved =
        let there = then_at forward_to_character_start r.root (range_at r).start z n at moved in
        subst (IsNextCut (λ q. true) (text_in r) (offset (text_in r) (range_at r).start)) (sym there.at) (next_character (text_in r) (range_whole r) (range_at r).start less)

    pub to_word : (n : TextPosition) → IsMoved forward_to_word_start z n → IsNextCut (is_word_start (text_in r)) (text_in r) (offset (text_in r) (range_at r).start) (flat_position n)
    to_word n moved =
        let there = then_at forward_to_word_start r.root (range_at r).start z n at moved in
        subst (IsNextCut (is_word_start (text_in r)) (text_in r) (offset (text_in r) (range_at r).start)) (sym there.at) (next_word (text_in r) (range_whole r) (range_at r).start (start_is_position r) less)

    pub to_line : (b n : TextPosition) → IsMoved biased_to_start z b → IsMoved forward_to_line_start b n → IsNextCut (is_line_start (text_in r)) (text_in r) (offset (text_in r) (range_at r).start) (flat_position n)
    to_line b n biased moved =
        let t = text_in r in
        let p = (range_at r).start in
        let q = biased_to_start t p in
        let first = then_at biased_to_start r.root p z b at biased in
        let there = then_at forward_to_line_start r.root q b n first moved in
        let same = start_bias t p in
        let next = next_line t (range_whole r) q (start_bias_side t p (range_whole r) (start_is_position r)) (omega (arith, same, less)) in
        subst (IsNextCut (is_line_start t) t (offset t p)) (sym there.at) (subst (λ o. IsNextCut (is_line_start t) t o (forward_to_line_start t q)) same next)

-- what is taken comes off the list of what is left
pub made_progress : {S : Type 0} (can : S → Type 0) (rest : S → List Located) (s t : S) (r : TextRange) → can t → rest s ≡ located r ∷ rest t → MakesProgress can (item_count rest) s (Some r) t
made_progress can rest s t r ok e = record {
  on = λ finite. (ok, tt, (let d : length (rest s) ≡ suc (length (rest t)) = ap length e in omega (arith, d)));
  keeps = ok;
  rests = λ finite. tt;
}
