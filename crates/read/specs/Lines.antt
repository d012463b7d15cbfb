-- What is printed of a text: its selection, lines, words and characters.
use Rattle.std.specs.Prelude.{ℕ, ◌+◌, min, max, nat_lt, nat_le, Bool, ◌&&◌, List, [], ◌∷◌, ◌++◌, codes, Option, Some, None, option_map, if◌then◌else◌}
use Rattle.std.specs.Fmt.{decimal}
use Rattle.std.specs.List.{range_with_len}
use Rattle.std.specs.Option.{option_map_or}
use Rattle.model.specs.declared.FullNodeId.{FullNodeId}
use Rattle.model.specs.World.{World}
use Rattle.model.specs.FlatText.{Position, flat_text, document_end}
use Rattle.model.specs.Moves.{to_line_index}
use Rattle.model.specs.Ranges.{Range, selection, selection_anchor, selection_focus}
use Rattle.atree_script.specs.Replies.{text_line}
use Rattle.texts.specs.Cuts.{character_ranges, word_ranges}
use Rattle.texts.specs.FoundRanges.{range_of_line}
use Rattle.texts.specs.RangeCuts.{Located, located_in}
use Rattle.read.specs.Shown.{shown_text, parts_at, index_after, shown_index}

-- the selected indexes: from the first to before the second
abbrev pub Span : Type 0
Span = ℕ × ℕ

abbrev pub is_selected : Span → ℕ → Bool
is_selected s at = nat_le s.0 at && nat_lt at s.1

-- an index, with a star if it is selected
abbrev pub star : Span → ℕ → List ℕ
star s at = if is_selected s at then codes "*" else []

abbrev pub mark : Span → ℕ → List ℕ
mark s at = codes " " ++ decimal at ++ star s at

-- the index of each character, with a star if it is selected; the first of them begins at this index
abbrev pub marks : Span → ℕ → List Located → List ℕ
marks s at [] = []
marks s at (c ∷ cs) = mark s at ++ marks s (index_after at c) cs

-- two indexes and a text
abbrev pub span_line : ℕ → Located → List ℕ
span_line at l = decimal at ++ codes " " ++ decimal (index_after at l) ++ codes " " ++ text_line (Some (shown_text l))

-- the characters of a word on a line
abbrev pub marks_line : Span → ℕ → Located → List ℕ
marks_line s at l = codes "   " ++ marks s at (parts_at character_ranges l) ++ codes "\n"

-- a word, and its characters on the next line
abbrev pub word_text : Span → ℕ → Located → List ℕ
word_text s at l = codes "  word " ++ span_line at l ++ marks_line s at l

-- words, of which the first begins at this index
abbrev pub words_text : Span → ℕ → List Located → List ℕ
words_text s at [] = []
words_text s at (l ∷ ls) = word_text s at l ++ words_text s (index_after at l) ls

-- a line by its number, and its words
abbrev pub line_text : Span → ℕ → ℕ → Located → List ℕ
line_text s number at l = codes "line " ++ decimal number ++ codes " " ++ span_line at l ++ words_text s at (parts_at word_ranges l)

-- the line of a number, if there is one
abbrev pub line_at : World → FullNodeId → ℕ → Option Located
line_at w id number = option_map (located_in w id) (range_of_line (flat_text w id) number)

abbrev pub numbered_text : World → FullNodeId → Span → ℕ → ℕ → List ℕ
numbered_text w id s at number = option_map_or (line_text s number at) (line_at w id number) []

-- the index after it
abbrev pub index_past : World → FullNodeId → ℕ → ℕ → ℕ
index_past w id at number = option_map_or (index_after at) (line_at w id number) at

-- lines by their numbers, of which the first begins at this index
abbrev pub lines_text : World → FullNodeId → Span → ℕ → List ℕ → List ℕ
lines_text w id s at [] = []
lines_text w id s at (k ∷ ks) = numbered_text w id s at k ++ lines_text w id s (index_past w id at k) ks

-- the numbers of the lines: up to that of the text's end
abbrev pub line_numbers : World → FullNodeId → List ℕ
line_numbers w id = range_with_len 0 (to_line_index (flat_text w id) (document_end (flat_text w id)) + 1)

-- two indexes, and the text of a range
abbrev pub ends_line : ℕ → ℕ → Located → List ℕ
ends_line a f l = codes "selection " ++ decimal a ++ codes " " ++ decimal f ++ codes " " ++ text_line (Some (shown_text l))

-- the selection: the indexes of its anchor and its focus, and its text
abbrev pub selection_line : World → FullNodeId → Option Range → Option Position → Option Position → List ℕ
selection_line w id None a f = codes "selection none\n"
selection_line w id (Some r) None f = codes "selection none\n"
selection_line w id (Some r) (Some a) None = codes "selection none\n"
selection_line w id (Some r) (Some a) (Some f) = ends_line (shown_index w id a) (shown_index w id f) (located_in w id r)

abbrev pub selected_span : World → FullNodeId → Option Range → Option Position → Option Position → Span
selected_span w id None a f = (0, 0)
selected_span w id (Some r) None f = (0, 0)
selected_span w id (Some r) (Some a) None = (0, 0)
selected_span w id (Some r) (Some a) (Some f) =
    (min (shown_index w id a) (shown_index w id f), max (shown_index w id a) (shown_index w id f))

abbrev pub selection_text : World → FullNodeId → List ℕ
selection_text w id = selection_line w id (selection w id) (selection_anchor w id) (selection_focus w id)

abbrev pub selected : World → FullNodeId → Span
selected w id = selected_span w id (selection w id) (selection_anchor w id) (selection_focus w id)

-- a whole text
unfoldable pub read_text : World → FullNodeId → List ℕ
read_text w id = selection_text w id ++ lines_text w id (selected w id) 0 (line_numbers w id)
