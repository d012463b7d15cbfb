-- What is read of two texts whose ranges show the same, at the same places.
use Rattle.std.proofs.Common.{◌≡◌, ℕ, List, [], ◌∷◌, ◌++◌, map, Option, Some, None, refl, ap, ◌∙◌}
use Rattle.std.specs.Prelude.{codes, max, min, option_map}
use Rattle.std.specs.Fmt.{decimal}
use Rattle.std.specs.Option.{option_map_or}
use Rattle.model.specs.declared.FullNodeId.{FullNodeId}
use Rattle.model.specs.World.{World}
use Rattle.model.specs.FlatText.{Position, flat_text}
use Rattle.model.specs.Moves.{utf16_len}
use Rattle.model.specs.Ranges.{Range, selection, selection_anchor, selection_focus}
use Rattle.atree_script.specs.Replies.{text_line}
use Rattle.texts.specs.Cuts.{character_ranges, word_ranges}
use Rattle.texts.specs.FoundRanges.{range_of_line}
use Rattle.texts.specs.RangeCuts.{located_in}
use Rattle.read.specs.Lines.{Span, mark, marks, span_line, marks_line, word_text, words_text, line_text, numbered_text, index_past, lines_text, line_numbers, selection_line, selected_span, selection_text, selected, read_text}
use Rattle.read.specs.Shown.{shown_text, parts_at, index_after, further, shown_index}

pub record IsReadAlike (w v : World) (id : FullNodeId) : Type 0 where
  pub shows : (q : Range) → shown_text (located_in w id q) ≡ shown_text (located_in v id q)
  pub characters : (q : Range) → character_ranges (flat_text w id) q ≡ character_ranges (flat_text v id) q
  pub words : (q : Range) → word_ranges (flat_text w id) q ≡ word_ranges (flat_text v id) q
  pub lines : (k : ℕ) → range_of_line (flat_text w id) k ≡ range_of_line (flat_text v id) k
  pub numbers : line_numbers w id ≡ line_numbers v id
  pub selections : selection w id ≡ selection v id
  pub anchors : selection_anchor w id ≡ selection_anchor v id
  pub foci : selection_focus w id ≡ selection_focus v id
  pub indexes : (p : Position) → shown_index w id p ≡ shown_index v id p

module _ (w v : World) (id : FullNodeId) (alike : IsReadAlike w v id) where
  afters : (k : ℕ) (q : Range) → index_after k (located_in w id q) ≡ index_after k (located_in v id q)
  afters k q i = further k (utf16_len (alike.shows q i))

  span_lines : (k : ℕ) (q : Range) → span_line k (located_in w id q) ≡ span_line k (located_in v id q)
  span_lines k q i = decimal k ++ codes " " ++ decimal (afters k q i) ++ codes " " ++ text_line (Some (alike.shows q i))

  -- ---- characters, words, lines

  all_marks : (s : Span) (qs : List Range) (k : ℕ) → marks s k (map (located_in w id) qs) ≡ marks s k (map (located_in v id) qs)
  all_marks s [] k = refl
  all_marks s (q ∷ qs) k =
      ap (λ a. mark s k ++ marks s a (map (located_in w id) qs)) (afters k q) ∙ ap (λ m. mark s k ++ m) (all_marks s qs (index_after k (located_in v id q)))

  marks_same : (s : Span) (k : ℕ) (q : Range) → marks s k (parts_at character_ranges (located_in w id q)) ≡ marks s k (parts_at character_ranges (located_in v id q))
  marks_same s k q = ap (λ qs. marks s k (map (located_in w id) qs)) (alike.characters q) ∙ all_marks s (character_ranges (flat_text v id) q) k

  marks_lines : (s : Span) (k : ℕ) (q : Range) → marks_line s k (located_in w id q) ≡ marks_line s k (located_in v id q)
  marks_lines s k q i = codes "   " ++ marks_same s k q i ++ codes "\n"

  word_texts : (s : Span) (k : ℕ) (q : Range) → word_text s k (located_in w id q) ≡ word_text s k (located_in v id q)
  word_texts s k q i = codes "  word " ++ span_lines k q i ++ marks_lines s k q i

  all_words : (s : Span) (qs : List Range) (k : ℕ) → words_text s k (map (located_in w id) qs) ≡ words_text s k (map (located_in v id) qs)
  all_words s [] k = refl
  all_words s (q ∷ qs) k =
      ap (λ a. word_text s k (located_in w id q) ++ words_text s a (map (located_in w id) qs)) (afters k q)
      ∙ (λ i. word_texts s k q i ++ all_words s qs (index_after k (located_in v id q)) i)

  words_same : (s : Span) (k : ℕ) (q : Range) → words_text s k (parts_at word_ranges (located_in w id q)) ≡ words_text s k (parts_at word_ranges (located_in v id q))
  words_same s k q = ap (λ qs. words_text s k (map (located_in w id) qs)) (alike.words q) ∙ all_words s (word_ranges (flat_text v id) q) k

  line_texts : (s : Span) (n k : ℕ) (q : Range) → line_text s n k (located_in w id q) ≡ line_text s n k (located_in v id q)
  line_texts s n k q i = codes "line " ++ decimal n ++ codes " " ++ span_lines k q i ++ words_same s k q i

  numbered : (s : Span) (k n : ℕ) → numbered_text w id s k n ≡ numbered_text v id s k n
  numbered s k n = ap (λ o. option_map_or (line_text s n k) (option_map (located_in w id) o) []) (alike.lines n) ∙ go (range_of_line (flat_text v id) n)
    where
      go : (o : Option Range) → option_map_or (line_text s n k) (option_map (located_in w id) o) [] ≡ option_map_or (line_text s n k) (option_map (located_in v id) o) []
      go None = refl
      go (Some q) = line_texts s n k q

  pasts : (k n : ℕ) → index_past w id k n ≡ index_past v id k n
  pasts k n = ap (λ o. option_map_or (index_after k) (option_map (located_in w id) o) k) (alike.lines n) ∙ go (range_of_line (flat_text v id) n)
    where
      go : (o : Option Range) → option_map_or (index_after k) (option_map (located_in w id) o) k ≡ option_map_or (index_after k) (option_map (located_in v id) o) k
      go None = refl
      go (Some q) = afters k q

  all_lines : (s : Span) (ns : List ℕ) (k : ℕ) → lines_text w id s k ns ≡ lines_text v id s k ns
  all_lines s [] k = refl
  all_lines s (n ∷ ns) k =
      ap (λ a. numbered_text w id s k n ++ lines_text w id s a ns) (pasts k n) ∙ (λ i. numbered s k n i ++ all_lines s ns (index_past v id k n) i)

  -- ---- the selection

  selections_by : (r : Option Range) (a f : Option Position) → selection_line w id r a f ≡ selection_line v id r a f
  selections_by None a f = refl
  selections_by (Some r) None f = refl
  selections_by (Some r) (Some a) None = refl
  selections_by (Some r) (Some a) (Some f) = λ i.
      codes "selection " ++ decimal (alike.indexes a i) ++ codes " " ++ decimal (alike.indexes f i) ++ codes " " ++ text_line (Some (alike.shows r i))

  spans_by : (r : Option Range) (a f : Option Position) → selected_span w id r a f ≡ selected_span v id r a f
  spans_by None a f = refl
  spans_by (Some r) None f = refl
  spans_by (Some r) (Some a) None = refl
  spans_by (Some r) (Some a) (Some f) = λ i. (min (alike.indexes a i) (alike.indexes f i), max (alike.indexes a i) (alike.indexes f i))

  selection_same : selection_text w id ≡ selection_text v id
  selection_same = (λ i. selection_line w id (alike.selections i) (alike.anchors i) (alike.foci i)) ∙ selections_by (selection v id) (selection_anchor v id) (selection_focus v id)

  spans_same : selected w id ≡ selected v id
  spans_same = (λ i. selected_span w id (alike.selections i) (alike.anchors i) (alike.foci i)) ∙ spans_by (selection v id) (selection_anchor v id) (selection_focus v id)

  pub read_same : read_text w id ≡ read_text v id
  unfolding read_text
  read_same =
      (λ i. selection_same i ++ lines_text w id (spans_same i) 0 (alike.numbers i))
      ∙ ap (λ t. selection_text v id ++ t) (all_lines (selected v id) (line_numbers v id) 0)
