-- Lines that are printed by their numbers.
use Rattle.std.proofs.Common.{◌≡◌, ◌<◌, ◌+◌, ◌-◌, ℕ, List, [], Option, Some, None, arith, sym, ap, subst, ◌∙◌}
use Rattle.std.specs.Io.KnownBytes.{Appends}
use Rattle.std.specs.List.{range_with_len}
use Rattle.std.specs.Option.{option_map_or}
use Rattle.model.specs.FlatText.{document_end}
use Rattle.model.specs.Moves.{to_line_index}
use Rattle.texts.specs.declared.position.TextPosition.{TextPosition}
use Rattle.texts.specs.declared.range.TextRange.{TextRange}
use Rattle.texts.specs.FoundRanges.{IsRangeFound, range_of_line}
use Rattle.texts.specs.Positions.{IsPositionAt, flat_position, node_text, position_text}
use Rattle.texts.specs.RangeCuts.{located}
use Rattle.views.specs.declared.node.node_ref.NodeRef.{NodeRef}
use Rattle.views.specs.Nodes.{world_at, id_at}
use Rattle.read.specs.Lines.{Span, index_past, line_numbers, line_text, lines_text, numbered_text}
use Rattle.read.specs.Shown.{index_after}
use Rattle.read.proofs.Following.{IsUnderWay, starts, rest_is, goes_on, ends, next_number, last_number}
use Rattle.read.proofs.Located.{found_range, no_range}

module _ (root : NodeRef) (s : Span) where
  abbrev rest : ℕ → List ℕ → List ℕ
  rest at ks = lines_text (world_at root) (id_at root) s at ks

  abbrev one_line : NodeRef → ℕ → ℕ → List ℕ
  one_line n at k = numbered_text (world_at n) (id_at n) s at k

  -- before the first line
  pub first_lines : (before : Option (List ℕ)) (p : TextPosition) (last : ℕ) → IsPositionAt root (document_end (node_text root)) p → last ≡ to_line_index (position_text p) (flat_position p)
      → IsUnderWay before before (rest 0 (line_numbers (world_at root) (id_at root))) (rest 0 (range_with_len 0 (last + 1 - 0)))
  first_lines before p last is e =
      let same : last ≡ to_line_index (node_text root) (document_end (node_text root)) = e ∙ (λ i. to_line_index (node_text (is.same i)) (is.at i)) in
      let count : to_line_index (node_text root) (document_end (node_text root)) + 1 ≡ last + 1 - 0 = omega (arith, same) in
      rest_is (ap (λ k. rest 0 (range_with_len 0 k)) count) (starts before (rest 0 (line_numbers (world_at root) (id_at root))))

  -- a line, and those after it
  pub next_line : {before now next : Option (List ℕ)} {whole : List ℕ} (seen : NodeRef) (at after k last : ℕ) → seen ≡ root → k < last
      → IsUnderWay before now whole (rest at (range_with_len k (last + 1 - k))) → Appends now next (one_line seen at k) → after ≡ index_past (world_at seen) (id_at seen) at k
      → IsUnderWay before next whole (rest after (range_with_len (k + 1) (last + 1 - (k + 1))))
  next_line {now = now} {next = next} seen at after k last same low way printed past =
      rest_is (ap (λ a. rest a (range_with_len (k + 1) (last + 1 - (k + 1)))) (sym (past ∙ (λ i. index_past (world_at (same i)) (id_at (same i)) at k))))
      (goes_on (one_line root at k) (rest_is (ap (rest at) (next_number k last low)) way) (subst (λ n. Appends now next (one_line n at k)) same printed))

  -- the last one
  pub last_line : (before now next : Option (List ℕ)) (whole : List ℕ) (seen : NodeRef) (at k last : ℕ) → seen ≡ root → k ≡ last
      → IsUnderWay before now whole (rest at (range_with_len k (last + 1 - k))) → Appends now next (one_line seen at last) → Appends before next whole
  last_line before now next whole seen at k last same e way printed =
      ends
      (goes_on (one_line root at last) (rest_is (ap (λ j. rest at (range_with_len j (last + 1 - j))) e ∙ ap (rest at) (last_number last)) way)
      (subst (λ n. Appends now next (one_line n at last)) same printed))

-- a number that has a line, and one that has none
module _ (root : NodeRef) (s : Span) (at number : ℕ) where
  pub none_printed : IsRangeFound (world_at root) (id_at root) (range_of_line (node_text root) number) None → numbered_text (world_at root) (id_at root) s at number ≡ []
  none_printed h = ap (λ o. option_map_or (line_text s number at) o []) (no_range (world_at root) (id_at root) (range_of_line (node_text root) number) h)

  pub none_passed : IsRangeFound (world_at root) (id_at root) (range_of_line (node_text root) number) None → index_past (world_at root) (id_at root) at number ≡ at
  none_passed h = ap (λ o. option_map_or (index_after at) o at) (no_range (world_at root) (id_at root) (range_of_line (node_text root) number) h)

  module _ (line : TextRange) (found : IsRangeFound (world_at root) (id_at root) (range_of_line (node_text root) number) (Some line)) where
    pub one_printed : numbered_text (world_at root) (id_at root) s at number ≡ line_text s number at (located line)
    one_printed = ap (λ o. option_map_or (line_text s number at) o []) (found_range (world_at root) (id_at root) (range_of_line (node_text root) number) line found)

    pub one_passed : index_past (world_at root) (id_at root) at number ≡ index_after at (located line)
    one_passed = ap (λ o. option_map_or (index_after at) o at) (found_range (world_at root) (id_at root) (range_of_line (node_text root) number) line found)
