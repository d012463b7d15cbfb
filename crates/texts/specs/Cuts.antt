-- The parts of a range: words, lines, and characters.
use Rattle.std.specs.Prelude.{◌+◌, ◌-◌, Bool, true, List, [], ◌∷◌, map, filter, if◌then◌else◌}
use Rattle.std.specs.List.{range_with_len}
use Rattle.model.specs.FlatText.{FlatText, Position, offset, start_side, is_word_start, is_line_start}
use Rattle.model.specs.Ranges.{Range, is_degenerate}

-- from a position to the first of these, from that to the next, and so on, up to an end
abbrev pub cut_at : Position → List Position → Position → List Range
cut_at p [] end = record { start = p; end = end } ∷ []
cut_at p (q ∷ qs) end = record { start = p; end = q } ∷ cut_at q qs end

-- the places that are past the start of a range and before its end, each on its start side
abbrev pub places_within : FlatText → Range → List Position
places_within t r = map (start_side t) (range_with_len (offset t r.start + 1) (offset t r.end - offset t r.start - 1))

-- a range, cut at each place within it where one starts; an empty range has no parts
abbrev pub cut_where : (FlatText → Position → Bool) → FlatText → Range → List Range
cut_where is_start t r = if is_degenerate t r then [] else cut_at r.start (filter (is_start t) (places_within t r)) r.end

-- one character each
abbrev pub character_ranges : FlatText → Range → List Range
character_ranges = cut_where (λ t p. true)

-- up to where the next word or paragraph starts
abbrev pub word_ranges : FlatText → Range → List Range
word_ranges = cut_where is_word_start

-- up to where the next line starts
abbrev pub line_ranges : FlatText → Range → List Range
line_ranges = cut_where is_line_start
