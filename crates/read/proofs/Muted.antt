-- A text with a bullet in place of each character: everything but the characters' bytes is read off it as before.
use Rattle.std.proofs.Common.{◌≡◌, ℕ, suc, ◌+◌, ◌-◌, Bool, false, true, not, ◌&&◌, ◌||◌, cond, List, [], ◌∷◌, length, map, take, Option, Some, None, refl, sym, ap, ◌∙◌}
use Rattle.std.specs.Prelude.{◌==◌, count_by, filter, find, min, nat_le, nat_lt, option_map, position, reverse, slice_get, sum_by, zip, if◌then◌else◌}
use Rattle.std.specs.List.{list_any, range_with_len}
use Rattle.std.specs.Option.{option_map_or, option_or}
use Rattle.std.proofs.lemmas.List.{length-map, take-map}
use Rattle.std.proofs.lemmas.List.Sums.{sum_by-cons}
use Rattle.std.proofs.lemmas.Option.{slice_get-map}
use Rattle.schema.specs.declared.values.TextPosition.{TextPosition}
use Rattle.model.specs.FlatText.{BULLET, ShownRun, FlatText, Position, count, total, count_in, start_of, offset, document_start, document_end, start_at, start_side, biased_to_start, begins_line, ends_line, lines, closes_paragraph, begins_paragraph, words_in, is_word_start}
use Rattle.model.specs.Moves.{to_line_index, has_caret_line, line_range}
use Rattle.model.specs.Ranges.{Range, range_between, document_range, is_degenerate, start_biased, with_end, run_named, nearest_named}
use Rattle.model.proofs.Worlds.Names.{position-cons}
use Rattle.texts.specs.Cuts.{cut_at, places_within, character_ranges, word_ranges}
use Rattle.texts.specs.FoundRanges.{range_of_line}
use Rattle.read.specs.Shown.{count_before}

abbrev pub mute : ShownRun → ShownRun
mute r = record r { characters = map (λ c. BULLET) r.characters }

-- ---- lists

sums_same : {X : Type 0} (f : X → ℕ) (g : X → X) → ((x : X) → f (g x) ≡ f x) → (xs : List X) → sum_by f (map g xs) ≡ sum_by f xs
sums_same f g h [] = refl
sums_same f g h (x ∷ xs) = sum_by-cons f (g x) (map g xs) ∙ (λ i. h x i + sums_same f g h xs i) ∙ sym (sum_by-cons f x xs)

numbers_same : {X : Type 0} (p : X → Bool) (g : X → X) → ((x : X) → p (g x) ≡ p x) → (xs : List X) → position p (map g xs) ≡ position p xs
numbers_same p g h [] = refl
numbers_same p g h (x ∷ xs) = position-cons p (g x) (map g xs) ∙ (λ i. cond (h x i) (Some 0) (option_map suc (numbers_same p g h xs i))) ∙ sym (position-cons p x xs)

abbrev at_index : ℕ → ℕ → Position
at_index r k = record { run = r; index = k }

abbrev from_to : Position × Position → Range
from_to l = record { start = l.0; end = l.1 }

-- ---- a text and the same with bullets

module _ (t : FlatText) where
  abbrev u : FlatText
  u = map mute t

  lengths : length u ≡ length t
  lengths = length-map t mute

  reads : {A : Type 0} (of : ShownRun → A) (d : A) → ((r : ShownRun) → of (mute r) ≡ of r) → (k : ℕ) → option_map_or of (slice_get u k) d ≡ option_map_or of (slice_get t k) d
  reads of d h k = ap (λ o. option_map_or of o d) (slice_get-map mute t k) ∙ go (slice_get t k)
    where
      go : (o : Option ShownRun) → option_map_or of (option_map mute o) d ≡ option_map_or of o d
      go None = refl
      go (Some r) = h r

  counted : (r : ShownRun) → count (mute r) ≡ count r
  counted r = length-map r.characters (λ c. BULLET)

  counts : (k : ℕ) → count_in u k ≡ count_in t k
  counts = reads count 0 counted

  starts : (k : ℕ) → start_of u k ≡ start_of t k
  starts k = ap (sum_by count) (take-map mute k t) ∙ sums_same count mute counted (take k t)

  totals : total u ≡ total t
  totals = sums_same count mute counted t

  offsets : (p : Position) → offset u p ≡ offset t p
  offsets p i = starts p.run i + p.index

  empties : (r : Range) → is_degenerate u r ≡ is_degenerate t r
  empties r i = offsets r.start i == offsets r.end i

  ends : document_end u ≡ document_end t
  ends i = at_index (lengths i - 1) (counts (lengths i - 1) i)

  -- ---- the parts of a range

  sides : (o : ℕ) → start_side u o ≡ start_side t o
  sides o i = option_map_or (λ r. at_index r (o - starts r i)) (find (λ r. nat_le (starts r i) o) (reverse (take (lengths i) (range_with_len 0 (lengths i))))) (ends i)

  within : (r : Range) → places_within u r ≡ places_within t r
  within r i = map (λ o. sides o i) (range_with_len (offsets r.start i + 1) (offsets r.end i - offsets r.start i - 1))

  begin_lines : (k : ℕ) → begins_line u k ≡ begins_line t k
  begin_lines = reads (λ s. not s.goes_back) false (λ r. refl)

  end_lines : (k : ℕ) → ends_line u k ≡ ends_line t k
  end_lines = reads (λ s. not s.goes_on) false (λ r. refl)

  newlines : (k : ℕ) → option_map_or (λ (s : ShownRun). s.has_newline) (slice_get u k) false ≡ option_map_or (λ (s : ShownRun). s.has_newline) (slice_get t k) false
  newlines = reads (λ s. s.has_newline) false (λ r. refl)

  words : (k : ℕ) → words_in u k ≡ words_in t k
  words = reads (λ s. s.word_starts) [] (λ r. refl)

  closed : (k : ℕ) → closes_paragraph u k ≡ closes_paragraph t k
  closed k i = end_lines k i && newlines k i

  begun : (k : ℕ) → begins_paragraph u k ≡ begins_paragraph t k
  begun k i = k == 0 || closed (k - 1) i

  word_places : (p : Position) → is_word_start u p ≡ is_word_start t p
  word_places p i = (p.index == 0 && begun p.run i) || list_any (λ k. k == p.index) (words p.run i)

  pub characters_cut : (r : Range) → character_ranges u r ≡ character_ranges t r
  characters_cut r i = if empties r i then [] else cut_at r.start (filter (λ p. true) (within r i)) r.end

  pub words_cut : (r : Range) → word_ranges u r ≡ word_ranges t r
  words_cut r i = if empties r i then [] else cut_at r.start (filter (λ p. word_places p i) (within r i)) r.end

  -- ---- lines

  all_lines : lines u ≡ lines t
  all_lines i = zip (filter (λ k. begin_lines k i) (range_with_len 0 (lengths i))) (filter (λ k. end_lines k i) (range_with_len 0 (lengths i)))

  carets : has_caret_line u ≡ has_caret_line t
  carets i = nat_le 2 (length (all_lines i)) && option_map_or (λ l. nat_lt (starts l.0 i) (totals i)) (slice_get (all_lines i) (length (all_lines i) - 1)) false

  line_ranges : (k : ℕ) → line_range u k ≡ line_range t k
  line_ranges k i = option_or (option_map (λ l. (start_at l.0, at_index l.1 (counts l.1 i))) (slice_get (all_lines i) k)) (if k == length (all_lines i) && carets i then Some (ends i, ends i) else None)

  pub lines_found : (k : ℕ) → range_of_line u k ≡ range_of_line t k
  lines_found k i = option_map from_to (line_ranges k i)

  lines_before : (k : ℕ) → count_by (λ (r : ShownRun). not r.goes_on) (take k u) ≡ count_by (λ (r : ShownRun). not r.goes_on) (take k t)
  lines_before k = ap (count_by (λ (r : ShownRun). not r.goes_on)) (take-map mute k t) ∙ sums_same (λ (r : ShownRun). cond (not r.goes_on) 1 0) mute (λ r. refl) (take k t)

  pub last_line : to_line_index u (document_end u) ≡ to_line_index t (document_end t)
  last_line i = lines_before (lengths i - 1) i

  -- ---- positions

  biased : (p : Position) → biased_to_start u p ≡ biased_to_start t p
  biased p i = if p.index == counts p.run i && nat_lt (p.run + 1) (lengths i) then start_at (p.run + 1) else p

  ranges_biased : (r : Range) → start_biased u r ≡ start_biased t r
  ranges_biased r i = if empties r i then r else record r { start = biased r.start i }

  ended : (r : Range) (p : Position) → with_end u r p ≡ with_end t r p
  ended r p =
      (λ i. start_biased u (from_to (if nat_lt (offsets r.start i) (offsets p i) then r.start else p, p)))
      ∙ ranges_biased (from_to (if nat_lt (offset t r.start) (offset t p) then r.start else p, p))

  pub counted_before : (p : Position) → count_before u p ≡ count_before t p
  counted_before p =
      (λ i. length (characters_cut (with_end u (from_to (document_start, ends i)) p) i))
      ∙ ap (λ r. length (character_ranges t r)) (ended (document_range t) p)

  named : (raw : TextPosition) → run_named u raw ≡ run_named t raw
  named raw = numbers_same (λ (s : ShownRun). s.id.node.0 == raw.node.0) mute (λ r. refl) t

  pub nearest : (raw : TextPosition) → nearest_named u raw ≡ nearest_named t raw
  nearest raw i = option_map (λ r. at_index r (min raw.character_index (counts r i))) (named raw i)

  pub between : (p q : Position) → range_between u p q ≡ range_between t p q
  between p q i = if nat_lt (offsets q i) (offsets p i) then from_to (q, p) else from_to (p, q)

-- ---- two texts that are the same with bullets

module _ (t s : FlatText) (same : map mute t ≡ map mute s) where
  pub one : {A : Type 0} (of : FlatText → A) → ((x : FlatText) → of (map mute x) ≡ of x) → of t ≡ of s
  one of h = sym (h t) ∙ ap of same ∙ h s
