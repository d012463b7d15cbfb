-- Where movements end, and the indexes of positions: the nearest mark, or else an end of the document.
use Rattle.std.specs.Prelude.{ℕ, ◌+◌, ◌-◌, ◌==◌, nat_lt, nat_le, Bool, false, ◌&&◌, not, List, length, take, reverse, slice_get, sum_by, count_by, find, Option, Some, None, unwrap_or, option_map, if◌then◌else◌, chars}
use Rattle.std.specs.Option.{option_map_or, option_or}
use Rattle.std.specs.List.{range_with_len}
use Rattle.model.specs.FlatText.{FlatText, characters, total, start_of, Position, offset, start_at, end_at, document_start, document_end, first_run, last_run, biased_to_start, biased_to_end, start_side, end_side, begins_line, ends_line, lines, begins_paragraph, ends_paragraph, begins_format, word_marks}

-- ---- the nearest mark

-- the first run from this one on that has it, at its start or at its end; else the document's end
abbrev pub start_from : FlatText → ℕ → (ℕ → Bool) → Position
start_from t r test = option_map_or start_at (first_run t r test) (document_end t)

abbrev pub end_from : FlatText → ℕ → (ℕ → Bool) → Position
end_from t r test = option_map_or (end_at t) (first_run t r test) (document_end t)

-- the last one of the first so many runs that has it, at its start; else the document's start
abbrev pub start_before : FlatText → ℕ → (ℕ → Bool) → Position
start_before t many test = option_map_or start_at (last_run t many test) document_start

-- the first of these marks above an offset; else the document's end
abbrev pub mark_above : FlatText → ℕ → List Position → Position
mark_above t o marks = unwrap_or (find (λ q. nat_lt o (offset t q)) marks) (document_end t)

-- the last of these marks below an offset; else the document's start
abbrev pub mark_below : FlatText → ℕ → List Position → Position
mark_below t o marks = unwrap_or (find (λ q. nat_lt (offset t q) o) (reverse marks)) document_start

-- ---- moves

-- there is a character after the position
abbrev pub forward_to_character_start : FlatText → Position → Position
forward_to_character_start t p = start_side t (offset t p + 1)

abbrev pub forward_to_character_end : FlatText → Position → Position
forward_to_character_end t p = end_side t (offset t p + 1)

-- there is a character before the position
abbrev pub backward_to_character_start : FlatText → Position → Position
backward_to_character_start t p = start_side t (offset t p - 1)

abbrev pub forward_to_format_start : FlatText → Position → Position
forward_to_format_start t p = start_from t (p.run + 1) (begins_format t)

abbrev pub forward_to_format_end : FlatText → Position → Position
forward_to_format_end t p = biased_to_end t (forward_to_format_start t p)

-- the position's own run counts if the position is past its start
abbrev pub backward_to_format_start : FlatText → Position → Position
backward_to_format_start t p = start_before t (if p.index == 0 then p.run else p.run + 1) (begins_format t)

abbrev pub forward_to_word_start : FlatText → Position → Position
forward_to_word_start t p = mark_above t (offset t p) (word_marks t)

abbrev pub forward_to_word_end : FlatText → Position → Position
forward_to_word_end t p = biased_to_end t (forward_to_word_start t p)

abbrev pub backward_to_word_start : FlatText → Position → Position
backward_to_word_start t p = mark_below t (offset t p) (word_marks t)

-- past the line of the position's own run
abbrev pub forward_to_line_start : FlatText → Position → Position
forward_to_line_start t p = biased_to_start t (end_from t p.run (ends_line t))

-- the end of a line is already in the next one
abbrev pub forward_to_line_end : FlatText → Position → Position
forward_to_line_end t p = end_from t (biased_to_start t p).run (ends_line t)

-- the start of a line is still in the one before
abbrev pub backward_to_line_start : FlatText → Position → Position
backward_to_line_start t p = start_before t ((biased_to_end t p).run + 1) (begins_line t)

abbrev pub forward_to_paragraph_start : FlatText → Position → Position
forward_to_paragraph_start t p = biased_to_start t (end_from t p.run (ends_paragraph t))

abbrev pub forward_to_paragraph_end : FlatText → Position → Position
forward_to_paragraph_end t p = end_from t (biased_to_start t p).run (ends_paragraph t)

abbrev pub backward_to_paragraph_start : FlatText → Position → Position
backward_to_paragraph_start t p = start_before t ((biased_to_end t p).run + 1) (begins_paragraph t)

-- a text has one page
abbrev pub forward_to_page_start : FlatText → Position → Position
forward_to_page_start t p = document_end t

abbrev pub forward_to_page_end : FlatText → Position → Position
forward_to_page_end t p = document_end t

abbrev pub backward_to_page_start : FlatText → Position → Position
backward_to_page_start t p = document_start

-- ---- indexes

-- how many scalars a character has
abbrev pub scalar_len : List ℕ → ℕ
scalar_len c = length (chars c)

-- how many UTF-16 code units it has: two for each scalar past the first 2^16
abbrev pub utf16_len : List ℕ → ℕ
utf16_len c = sum_by (λ s. if nat_lt s 0x1_0000 then 1 else 2) (chars c)

-- the lengths of the characters before an offset, by one of these two
abbrev pub length_before : (List ℕ → ℕ) → FlatText → ℕ → ℕ
length_before len t o = sum_by len (take o (characters t))

abbrev pub global_index : (List ℕ → ℕ) → FlatText → Position → ℕ
global_index len t p = length_before len t (offset t p)

abbrev pub to_global_usv_index : FlatText → Position → ℕ
to_global_usv_index t p = global_index scalar_len t p

abbrev pub to_global_utf16_index : FlatText → Position → ℕ
to_global_utf16_index t p = global_index utf16_len t p

-- the character that contains an index: the first that ends past it
abbrev pub holder_of : (List ℕ → ℕ) → FlatText → ℕ → Option ℕ
holder_of len t g = find (λ o. nat_lt g (length_before len t (o + 1))) (range_with_len 0 (total t))

-- before the character that contains the index; at the document's end if that has it
abbrev pub position_of : (List ℕ → ℕ) → FlatText → ℕ → Option Position
position_of len t g =
    option_or (option_map (start_side t) (holder_of len t g))
    (if g == length_before len t (total t) then Some (document_end t) else None)

abbrev pub position_from_usv : FlatText → ℕ → Option Position
position_from_usv t g = position_of scalar_len t g

abbrev pub position_from_utf16 : FlatText → ℕ → Option Position
position_from_utf16 t g = position_of utf16_len t g

-- how many lines end before the position's run
abbrev pub to_line_index : FlatText → Position → ℕ
to_line_index t p = count_by (λ r. not r.goes_on) (take p.run t)

-- there is another line, and the last one isn't empty: then a caret past it is on a line of its own
abbrev pub has_caret_line : FlatText → Bool
has_caret_line t =
    nat_le 2 (length (lines t)) && option_map_or (λ l. nat_lt (start_of t l.0) (total t)) (slice_get (lines t) (length (lines t) - 1)) false

-- where a line begins and ends; past the last one the document's end, where a caret can be there
abbrev pub line_range : FlatText → ℕ → Option (Position × Position)
line_range t k =
    option_or (option_map (λ l. (start_at l.0, end_at t l.1)) (slice_get (lines t) k))
    (if k == length (lines t) && has_caret_line t then Some (document_end t, document_end t) else None)
