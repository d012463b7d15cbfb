-- Ranges of a text with the world and the root of it.
use Rattle.std.proofs.Common.{◌≡◌, ℕ, List, ◌∷◌, ◌++◌, Option, Some, None, sym, ap, ◌∙◌}
use Rattle.std.specs.Prelude.{option_map}
use Rattle.model.specs.declared.FullNodeId.{FullNodeId}
use Rattle.model.specs.World.{World}
use Rattle.model.specs.Ranges.{Range}
use Rattle.texts.specs.declared.range.TextRange.{TextRange}
use Rattle.texts.specs.FoundRanges.{IsRangeFound}
use Rattle.texts.specs.RangeCuts.{Located, located, located_in}
use Rattle.texts.specs.TextRanges.{range_at}
use Rattle.read.specs.Lines.{Span, marks, words_text, word_text, mark}
use Rattle.read.specs.Shown.{index_after}

module _ (w : World) (id : FullNodeId) (q : Option Range) where
  pub found_range : (r : TextRange) → IsRangeFound w id q (Some r) → option_map (located_in w id) q ≡ Some (located r)
  found_range r h = ap (option_map (located_in w id)) (sym h.at) ∙ (λ i. Some (located_in (sym h.world i) (sym h.root i) (range_at r)))

  pub no_range : IsRangeFound w id q None → option_map (located_in w id) q ≡ None
  no_range h = ap (option_map (located_in w id)) (sym h.at)

-- the next of those that are left, and what comes after it
pub next_words : (s : Span) (at : ℕ) (left rest : List Located) (l : Located) → left ≡ l ∷ rest → words_text s at left ≡ word_text s at l ++ words_text s (index_after at l) rest
next_words s at left rest l e = ap (words_text s at) e

pub next_marks : (s : Span) (at : ℕ) (left rest : List Located) (l : Located) → left ≡ l ∷ rest → marks s at left ≡ mark s at ++ marks s (index_after at l) rest
next_marks s at left rest l e = ap (marks s at) e
