-- What a walk over the parts of a range takes off its front.
use Rattle.std.proofs.Common.{◌≡◌, ◌<◌, ◌≤◌, Bool, true, false, [], ◌∷◌, List, map, refl, sym, ap, ◌∙◌, arith}
use Rattle.std.specs.Prelude.{nat_lt, if◌then◌else◌}
use Rattle.std.proofs.lemmas.Bool.{eqb-true, eqb-false, ltb-true, ltb-false}
use Rattle.model.specs.declared.FullNodeId.{FullNodeId}
use Rattle.model.specs.World.{World}
use Rattle.model.specs.FlatText.{FlatText, flat_text, Position, offset, total}
use Rattle.model.specs.Ranges.{Range, is_degenerate}
use Rattle.model.proofs.Text.Indexes.{offset_within}
use Rattle.texts.specs.declared.range.TextRange.{TextRange}
use Rattle.texts.specs.TextRanges.{IsRangeOf, world_in, root_in, text_in, range_at}
use Rattle.texts.specs.Cuts.{cut_where}
use Rattle.texts.specs.RangeCuts.{Located, located_in, located, parts_of}
use Rattle.texts.proofs.CutPlaces.{IsNextCut, nothing_to_cut, cut_last, cut_next}
use Rattle.texts.proofs.RangeRuns.{range_whole, end_is_position}

-- the first part ends at the place, or at the range's end
abbrev pub cut_end : FlatText → Range → Position → Position
cut_end t r c = if nat_lt (offset t c) (offset t r.end) then c else r.end

pub some_to_take : (r : TextRange) → is_degenerate (text_in r) (range_at r) ≡ false → offset (text_in r) (range_at r).start < offset (text_in r) (range_at r).end
some_to_take r e =
    let order : offset (text_in r) (range_at r).start ≤ offset (text_in r) (range_at r).end = r.order in
    let apart = eqb-false (offset (text_in r) (range_at r).start) (offset (text_in r) (range_at r).end) e in
    omega (arith, order, apart)

pub end_within : (r : TextRange) → offset (text_in r) (range_at r).end ≤ total (text_in r)
end_within r = offset_within (text_in r) (range_at r).end (end_is_position r)

module _ (is_start : FlatText → Position → Bool) where
  abbrev parts : World → FullNodeId → Range → List Located
  parts w id q = map (located_in w id) (cut_where is_start (flat_text w id) q)

  parts_is : (u : TextRange) (w : World) (id : FullNodeId) (q : Range) → IsRangeOf w id q u → parts_of (cut_where is_start) u ≡ parts w id q
  parts_is u w id q is = λ i. parts (is.world i) (is.root i) (is.at i)

  pub none_to_take : (r : TextRange) → is_degenerate (text_in r) (range_at r) ≡ true → parts_of (cut_where is_start) r ≡ []
  none_to_take r e =
      ap (map (located_in (world_in r) (root_in r))) (nothing_to_cut is_start (text_in r) (range_whole r) (range_at r) (eqb-true (offset (text_in r) (range_at r).start) (offset (text_in r) (range_at r).end) e))

  module _ (r s u : TextRange) (c : Position) (next : IsNextCut (is_start (text_in r)) (text_in r) (offset (text_in r) (range_at r).start) c) (some : is_degenerate (text_in r) (range_at r) ≡ false)
      (taken : IsRangeOf (world_in r) (root_in r) (let q : Range = record { start = (range_at r).start; end = cut_end (text_in r) (range_at r) c } in q) s)
      (left : IsRangeOf (world_in r) (root_in r) (let q : Range = record { start = cut_end (text_in r) (range_at r) c; end = (range_at r).end } in q) u) where
    abbrev at : Position → Range
    at q = record { start = (range_at r).start; end = q }

    abbrev past : Position → Range
    past q = record { start = q; end = (range_at r).end }

    abbrev place : Range → Located
    place = located_in (world_in r) (root_in r)

    split : (b : Bool) → nat_lt (offset (text_in r) c) (offset (text_in r) (range_at r).end) ≡ b →
        parts (world_in r) (root_in r) (range_at r) ≡ place (at (if b then c else (range_at r).end)) ∷ parts (world_in r) (root_in r) (past (if b then c else (range_at r).end))
    split true e =
        ap (map place) (cut_next is_start (text_in r) (range_whole r) (range_at r) c next (some_to_take r some) (end_within r) (ltb-true (offset (text_in r) c) (offset (text_in r) (range_at r).end) e))
    split false e =
        ap (map place) (cut_last is_start (text_in r) (range_whole r) (range_at r) c next (some_to_take r some) (end_within r) (ltb-false (offset (text_in r) c) (offset (text_in r) (range_at r).end) e))
        ∙ sym (ap (λ qs. place (range_at r) ∷ map place qs) (nothing_to_cut is_start (text_in r) (range_whole r) (past (range_at r).end) refl))

    pub first_taken : parts_of (cut_where is_start) r ≡ located s ∷ parts_of (cut_where is_start) u
    first_taken =
        split (nat_lt (offset (text_in r) c) (offset (text_in r) (range_at r).end)) refl
        ∙ (λ i. located_in (sym taken.world i) (sym taken.root i) (sym taken.at i) ∷ parts (world_in r) (root_in r) (past (cut_end (text_in r) (range_at r) c)))
        ∙ ap (λ ps. located s ∷ ps) (sym (parts_is u (world_in r) (root_in r) (past (cut_end (text_in r) (range_at r) c)) left))
