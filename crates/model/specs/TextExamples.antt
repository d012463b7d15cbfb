-- Small texts, on which the definitions for texts are worked out.
use Rattle.std.specs.Prelude.{◌≡◌, ℕ, ℤ, pos, negsuc, ◌+◌, List, [], ◌∷◌, map, replicate, true, false, Option, Some, None}
use Rattle.schema.specs.NodeData.{empty_node}
use Rattle.schema.specs.declared.Role.TheVariants.{TextRun}
use Rattle.schema.specs.declared.NodeId.{NodeId}
use Rattle.schema.specs.declared.geometry.Point.{Point}
use Rattle.schema.specs.declared.geometry.WideRect.{WideRect}
use Rattle.schema.specs.declared.values.TextDirection.{TextDirection}
use Rattle.schema.specs.declared.values.TextDirection.TheVariants.{LeftToRight, RightToLeft, TopToBottom, BottomToTop}
use Rattle.model.specs.World.{in_tree}
use Rattle.model.specs.Geometry.{no_move}
use Rattle.model.specs.Styles.{Style}
use Rattle.model.specs.TextRuns.{SentRun, lie_in_tree, are_cut, have_rising_words, are_empty_last, are_linked_in_order, are_measured}
use Rattle.model.specs.FlatText.{FlatText, ShownRun, Position, BULLET, offset, document_start, document_end, is_word_start, is_paragraph_end, is_paragraph_separator, biased_to_start, biased_to_end}
use Rattle.model.specs.Ranges.{Range, Piece, pieces, range_between, with_start, with_end, document_range, text_of, bounding_boxes}
use Rattle.model.specs.Points.{position_at_point}
use Rattle.model.specs.Moves.{forward_to_format_start, forward_to_format_end, backward_to_format_start, forward_to_line_start, forward_to_line_end, backward_to_line_start, forward_to_paragraph_end, backward_to_paragraph_start, backward_to_character_start, forward_to_character_start, forward_to_character_end, forward_to_word_start, forward_to_word_end, backward_to_word_start, forward_to_paragraph_start, line_range, to_line_index, position_from_usv, position_from_utf16, to_global_usv_index, to_global_utf16_index}

abbrev pub at : ℕ → ℕ → Position
at r i = record { run = r; index = i }

abbrev pub no_style : Style
no_style = record {
  font_family = None;
  language = None;
  font_size = None;
  font_weight = None;
  background_color = None;
  foreground_color = None;
  overline = None;
  strikethrough = None;
  underline = None;
  text_align = None;
  vertical_offset = None;
}

-- a run of these characters, linked to no other, without style and place
abbrev pub run_of : List (List ℕ) → ShownRun
run_of characters = record {
  id = in_tree 0 (record { 0 = 1 });
  characters = characters;
  goes_back = false;
  goes_on = false;
  has_newline = false;
  word_starts = [];
  style = no_style;
  bounds = None;
  move = no_move;
  move_in_root = no_move;
  metrics = None;
  direction = None;
}

-- each of these bytes is a character
abbrev pub letters : List ℕ → List (List ℕ)
letters bs = map (λ b. b ∷ []) bs

-- The lines "ab" and "cd", one word each.
abbrev pub two_lines : FlatText
two_lines =
    record (run_of (letters (97 ∷ 98 ∷ 10 ∷ []))) { has_newline = true; word_starts = 0 ∷ [] }
    ∷ record (run_of (letters (99 ∷ 100 ∷ []))) { word_starts = 0 ∷ [] } ∷ []

pub record TwoLines : Type 0 where
  pub word_start : forward_to_word_start two_lines (at 0 0) ≡ at 1 0
  pub word_end : forward_to_word_end two_lines (at 0 0) ≡ at 0 3
  pub second_line : line_range two_lines 1 ≡ Some (at 1 0, at 1 2)
  pub caret_line : line_range two_lines 2 ≡ Some (at 1 2, at 1 2)
  pub no_more_lines : line_range two_lines 3 ≡ None
  pub separator : is_paragraph_separator two_lines (at 0 2) ≡ true
  pub paragraph : forward_to_paragraph_start two_lines (at 0 0) ≡ at 1 0
  pub word_before : backward_to_word_start two_lines (at 1 0) ≡ at 0 0
  pub last_paragraph : forward_to_paragraph_start two_lines (at 1 0) ≡ at 1 2

-- A line "ab", and an empty one after it.
abbrev pub empty_line_last : FlatText
empty_line_last = record (run_of (letters (97 ∷ 98 ∷ 10 ∷ []))) { has_newline = true } ∷ run_of [] ∷ []

pub record EmptyLineLast : Type 0 where
  pub second_line : line_range empty_line_last 1 ≡ Some (at 1 0, at 1 0)
  pub no_more_lines : line_range empty_line_last 2 ≡ None
  pub first_index : to_line_index empty_line_last (at 0 3) ≡ 0
  pub second_index : to_line_index empty_line_last (at 1 0) ≡ 1
  pub one_offset : offset empty_line_last (at 0 3) ≡ offset empty_line_last (at 1 0)

-- One empty run.
abbrev pub nothing : FlatText
nothing = run_of [] ∷ []

pub record Nothing : Type 0 where
  pub start : document_start ≡ at 0 0
  pub end_ : document_end nothing ≡ at 0 0
  pub line : line_range nothing 0 ≡ Some (at 0 0, at 0 0)
  pub no_more_lines : line_range nothing 1 ≡ None
  pub first : position_from_usv nothing 0 ≡ Some (at 0 0)
  pub no_second : position_from_usv nothing 1 ≡ None

-- Three hundred letters and a word that begins in their midst.
abbrev pub long_run : FlatText
long_run = record (run_of (replicate 300 (97 ∷ []))) { word_starts = 0 ∷ 44 ∷ [] } ∷ []

pub record LongRun : Type 0 where
  pub in_it : is_word_start long_run (at 0 44) ≡ true
  pub at_its_end : is_word_start long_run (at 0 300) ≡ false
  pub back : backward_to_word_start long_run (at 0 300) ≡ at 0 44
  pub one_line : line_range long_run 1 ≡ None
  pub on : forward_to_word_start long_run (at 0 100) ≡ at 0 300

-- A letter, U+1F44D and a letter.
abbrev pub wide_character : FlatText
wide_character = run_of ((97 ∷ []) ∷ (240 ∷ 159 ∷ 145 ∷ 141 ∷ []) ∷ (98 ∷ []) ∷ []) ∷ []

pub record WideCharacter : Type 0 where
  pub scalars : to_global_usv_index wide_character (document_end wide_character) ≡ 3
  pub units : to_global_utf16_index wide_character (document_end wide_character) ≡ 4
  pub first_unit : position_from_utf16 wide_character 1 ≡ Some (at 0 1)
  pub second_unit : position_from_utf16 wide_character 2 ≡ Some (at 0 1)
  pub no_more : position_from_utf16 wide_character 5 ≡ None

-- Two runs on one line, and one on a line of its own.
abbrev pub linked_runs : FlatText
linked_runs =
    record (run_of (letters (97 ∷ 98 ∷ []))) { goes_on = true }
    ∷ record (run_of (letters (99 ∷ 10 ∷ []))) { goes_back = true; has_newline = true }
    ∷ run_of (letters (100 ∷ [])) ∷ []

pub record LinkedRuns : Type 0 where
  pub line_start : forward_to_line_start linked_runs (at 0 1) ≡ at 2 0
  pub line_end : forward_to_line_end linked_runs (at 0 1) ≡ at 1 2
  pub next_line_end : forward_to_line_end linked_runs (at 1 2) ≡ at 2 1
  pub own_line : backward_to_line_start linked_runs (at 1 1) ≡ at 0 0
  pub line_before : backward_to_line_start linked_runs (at 2 0) ≡ at 0 0
  pub paragraph_end : forward_to_paragraph_end linked_runs (at 0 0) ≡ at 1 2
  pub paragraph_start : backward_to_paragraph_start linked_runs (at 2 1) ≡ at 2 0
  pub next_paragraph_end : forward_to_paragraph_end linked_runs (at 1 2) ≡ at 2 1
  pub paragraph_before : backward_to_paragraph_start linked_runs (at 2 0) ≡ at 0 0
  pub own_line_ends : forward_to_line_start linked_runs (at 1 2) ≡ at 2 0
  pub last_ends : is_paragraph_end linked_runs (at 2 1) ≡ true
  pub within_a_line : is_paragraph_end linked_runs (at 0 2) ≡ false
  pub begins_a_word : is_word_start linked_runs (at 2 0) ≡ true
  pub lines : line_range linked_runs 0 ≡ Some (at 0 0, at 1 2)
  pub other_run : forward_to_character_start linked_runs (at 0 1) ≡ at 1 0
  pub same_run : forward_to_character_end linked_runs (at 0 1) ≡ at 0 2
  pub back : backward_to_character_start linked_runs (at 1 1) ≡ at 1 0
  pub sides : biased_to_start linked_runs (at 0 2) ≡ at 1 0
  pub other_sides : biased_to_end linked_runs (at 1 0) ≡ at 0 2

abbrev pub range : Position → Position → Range
range p q = record { start = p; end = q }

abbrev pub piece : ℕ → ℕ → ℕ → Piece
piece run from to = record { run = run; from = from; to = to }

-- Two runs, ab and cd.
abbrev pub two_runs : FlatText
two_runs = run_of (letters (97 ∷ 98 ∷ [])) ∷ run_of (letters (99 ∷ 100 ∷ [])) ∷ []

pub record TwoRuns : Type 0 where
  pub one_paragraph : forward_to_paragraph_end two_runs (at 0 0) ≡ at 1 2
  pub nothing_selected : text_of two_runs (range_between two_runs (at 1 0) (at 0 2)) ≡ []
  pub starts_with_anchor : range_between two_runs (at 1 0) (at 0 2) ≡ range (at 1 0) (at 0 2)
  pub selected : text_of two_runs (range_between two_runs (at 0 2) (at 1 1)) ≡ 99 ∷ []
  pub over_both : text_of two_runs (range (at 0 1) (at 1 1)) ≡ 98 ∷ 99 ∷ []
  pub caret_piece : pieces two_runs (range (at 1 0) (at 0 2)) ≡ piece 1 0 0 ∷ []
  pub two_pieces : pieces two_runs (range (at 0 1) (at 1 1)) ≡ piece 0 1 2 ∷ piece 1 0 1 ∷ []
  pub one_piece : pieces two_runs (range (at 0 2) (at 1 1)) ≡ piece 1 0 1 ∷ []
  pub past_the_end : with_start two_runs (range (at 0 1) (at 1 0)) (at 1 1) ≡ range (at 1 1) (at 1 1)
  pub before_the_start : with_end two_runs (range (at 0 1) (at 1 0)) (at 0 0) ≡ range (at 0 0) (at 0 0)
  pub biased : with_start two_runs (range (at 0 1) (at 1 1)) (at 0 2) ≡ range (at 1 0) (at 1 1)

-- A password of two runs, of which the first ends with a newline.
abbrev pub two_secrets : FlatText
two_secrets = record (run_of (BULLET ∷ BULLET ∷ [])) { has_newline = true } ∷ run_of (BULLET ∷ BULLET ∷ []) ∷ []

pub record TwoSecrets : Type 0 where
  pub text : text_of two_secrets (document_range two_secrets) ≡ 226 ∷ 128 ∷ 162 ∷ 226 ∷ 128 ∷ 162 ∷ 226 ∷ 128 ∷ 162 ∷ 226 ∷ 128 ∷ 162 ∷ []
  pub scalars : to_global_usv_index two_secrets (at 1 1) ≡ 3
  pub units : to_global_utf16_index two_secrets (at 1 2) ≡ 4
  pub no_more : position_from_usv two_secrets 5 ≡ None
  pub line : to_line_index two_secrets (at 1 1) ≡ 1
  pub no_words : forward_to_word_start two_secrets (at 1 0) ≡ at 1 2
  pub paragraph : forward_to_paragraph_start two_secrets (at 0 0) ≡ at 1 0

-- Three letters side by side, in a run that is shifted within a root that is shifted.
abbrev pub measured : TextDirection → FlatText
measured direction =
    record (run_of (letters (97 ∷ 98 ∷ 99 ∷ []))) {
      bounds = Some (record { x0 = pos 0; y0 = pos 0; x1 = pos 30; y1 = pos 10 });
      move = record { x = pos 105; y = pos 200 };
      move_in_root = record { x = pos 100; y = pos 200 };
      metrics = Some (record { positions = pos 0 ∷ pos 10 ∷ pos 20 ∷ []; widths = pos 10 ∷ pos 10 ∷ pos 10 ∷ []; are_alike = false });
      direction = Some direction;
    } ∷ []

abbrev pub box : ℕ → ℕ → ℕ → ℕ → WideRect
box x0 y0 x1 y1 = record { x0 = pos x0; y0 = pos y0; x1 = pos x1; y1 = pos y1 }

abbrev pub point : ℕ → ℕ → Point
point x y = record { x = pos x; y = pos y }

pub record Measured : Type 0 where
  pub first : bounding_boxes (measured LeftToRight) (range (at 0 0) (at 0 1)) ≡ box 105 200 115 210 ∷ []
  pub caret : bounding_boxes (measured LeftToRight) (range (at 0 3) (at 0 3)) ≡ box 135 200 135 210 ∷ []
  pub leftwards : bounding_boxes (measured RightToLeft) (range (at 0 0) (at 0 1)) ≡ box 125 200 135 210 ∷ []
  pub whole : bounding_boxes (measured RightToLeft) (range (at 0 0) (at 0 3)) ≡ box 105 200 135 210 ∷ []
  pub in_it : position_at_point (measured LeftToRight) (point 115 205) ≡ at 0 1
  pub past_it : position_at_point (measured LeftToRight) (point 130 205) ≡ at 0 3
  pub ahead : position_at_point (measured LeftToRight) (point 99 205) ≡ at 0 0

-- ---- runs that make a text, and runs that don't

abbrev pub numbered : ℕ → NodeId
numbered n = record { 0 = n }

-- node n of tree 0 as a run with this value, cut by these lengths
abbrev pub sent : ℕ → List ℕ → List ℕ → SentRun
sent n value lengths =
    record { id = in_tree 0 (numbered n); node = record (empty_node TextRun) { value = Some value; character_lengths = lengths } }

abbrev pub linked : SentRun → Option NodeId → Option NodeId → SentRun
linked r previous next = record r { node = record r.node { previous_on_line = previous; next_on_line = next } }

abbrev pub with_words : SentRun → List ℕ → SentRun
with_words r starts = record r { node = record r.node { word_starts = starts } }

abbrev pub with_positions : SentRun → List ℤ → SentRun
with_positions r ps = record r { node = record r.node { character_positions = Some ps } }

-- a letter and a letter of two bytes
abbrev pub letters_of_bytes : List ℕ
letters_of_bytes = 97 ∷ 195 ∷ 164 ∷ []

-- a letter each, as nodes 1, 2 and 3
abbrev pub one : SentRun
one = sent 1 (97 ∷ []) (1 ∷ [])

abbrev pub two : SentRun
two = sent 2 (98 ∷ []) (1 ∷ [])

abbrev pub three : SentRun
three = sent 3 (99 ∷ []) (1 ∷ [])

pub record SomeMakeTexts : Type 0 where
  pub whole : are_cut (sent 1 letters_of_bytes (1 ∷ 2 ∷ []) ∷ []) ≡ true
  pub within_a_character : are_cut (sent 1 letters_of_bytes (1 ∷ 1 ∷ 1 ∷ []) ∷ []) ≡ false
  pub no_length : are_cut (sent 1 (97 ∷ []) (1 ∷ 0 ∷ []) ∷ []) ≡ false
  pub too_short : are_cut (sent 1 letters_of_bytes (1 ∷ []) ∷ []) ≡ false
  pub too_long : are_cut (sent 1 (97 ∷ []) (2 ∷ []) ∷ []) ≡ false
  pub rising_words : have_rising_words (with_words (sent 1 letters_of_bytes (1 ∷ 2 ∷ [])) (0 ∷ 1 ∷ []) ∷ []) ≡ true
  pub same_word_twice : have_rising_words (with_words (sent 1 letters_of_bytes (1 ∷ 2 ∷ [])) (0 ∷ 0 ∷ []) ∷ []) ≡ false
  pub word_past_the_end : have_rising_words (with_words (sent 1 letters_of_bytes (1 ∷ 2 ∷ [])) (2 ∷ []) ∷ []) ≡ false
  pub empty_last : are_empty_last (one ∷ sent 2 [] [] ∷ []) ≡ true
  pub empty_first : are_empty_last (sent 2 [] [] ∷ one ∷ []) ≡ false
  pub unlinked : are_linked_in_order (one ∷ two ∷ []) ≡ true
  pub linked_both_ways : are_linked_in_order (linked one None (Some (numbered 2)) ∷ linked two (Some (numbered 1)) None ∷ []) ≡ true
  pub unanswered : are_linked_in_order (linked one None (Some (numbered 2)) ∷ two ∷ []) ≡ false
  pub unanswered_back : are_linked_in_order (one ∷ linked two (Some (numbered 1)) None ∷ []) ≡ false
  pub to_itself : are_linked_in_order (linked one (Some (numbered 1)) (Some (numbered 1)) ∷ []) ≡ false
  pub over_a_run : are_linked_in_order (linked one None (Some (numbered 3)) ∷ two ∷ linked three (Some (numbered 1)) None ∷ []) ≡ false
  pub past_the_last : are_linked_in_order (linked one None (Some (numbered 2)) ∷ []) ≡ false
  pub own_tree : lie_in_tree 0 (one ∷ []) ≡ true
  pub other_tree : lie_in_tree 1 (one ∷ []) ≡ false
  pub too_few_positions : are_measured false (with_positions (sent 1 (97 ∷ 98 ∷ 99 ∷ []) (1 ∷ 1 ∷ 1 ∷ [])) (pos 0 ∷ pos 1 ∷ []) ∷ [])
      ≡ false
  pub enough_for_a_password : are_measured true (with_positions (sent 1 (97 ∷ 98 ∷ 99 ∷ []) (1 ∷ 1 ∷ 1 ∷ [])) (pos 0 ∷ pos 1 ∷ []) ∷ [])
      ≡ true
  pub none_for_a_password : are_measured true (with_positions (sent 1 (97 ∷ 98 ∷ 99 ∷ []) (1 ∷ 1 ∷ 1 ∷ [])) [] ∷ []) ≡ false

-- Two runs of one size, and one of another.
abbrev pub styled : FlatText
styled =
    record (run_of (letters (97 ∷ 98 ∷ []))) { style = record no_style { font_size = Some 10 } }
    ∷ record (run_of (letters (99 ∷ []))) { style = record no_style { font_size = Some 10 } }
    ∷ record (run_of (letters (100 ∷ []))) { style = record no_style { font_size = Some 12 } } ∷ []

pub record Styled : Type 0 where
  pub next : forward_to_format_start styled (at 0 0) ≡ at 2 0
  pub next_end : forward_to_format_end styled (at 0 0) ≡ at 1 1
  pub no_more : forward_to_format_start styled (at 2 0) ≡ at 2 1
  pub own : backward_to_format_start styled (at 2 1) ≡ at 2 0
  pub before : backward_to_format_start styled (at 2 0) ≡ at 0 0
  pub first : backward_to_format_start styled (at 1 1) ≡ at 0 0

-- Three bullets, with these positions and one width.
abbrev pub measured_alike : List ℤ → FlatText
measured_alike positions =
    record (run_of (BULLET ∷ BULLET ∷ BULLET ∷ [])) {
      bounds = Some (record { x0 = pos 0; y0 = pos 0; x1 = pos 40; y1 = pos 10 });
      metrics = Some (record { positions = positions; widths = pos 10 ∷ []; are_alike = true });
      direction = Some LeftToRight;
    } ∷ []

pub record MeasuredAlike : Type 0 where
  pub by_width : bounding_boxes (measured_alike (pos 2 ∷ [])) (range (at 0 1) (at 0 2)) ≡ box 12 0 22 10 ∷ []
  pub by_step : bounding_boxes (measured_alike (pos 2 ∷ pos 15 ∷ [])) (range (at 0 2) (at 0 3)) ≡ box 28 0 38 10 ∷ []
  pub whole : bounding_boxes (measured_alike (pos 2 ∷ [])) (range (at 0 0) (at 0 3)) ≡ box 0 0 40 10 ∷ []
  pub told_alone : position_at_point (measured_alike (pos 2 ∷ [])) (point 15 5) ≡ at 0 3

-- A letter above a letter, each with a box and no metrics.
abbrev pub boxed_letter : ℕ → ShownRun
boxed_letter y =
    record
    (run_of (letters (97 ∷ []))) {
      bounds = Some
          (record { x0 = pos 0; y0 = pos y; x1 = pos 10; y1 = pos (y + 10) });
      direction = Some LeftToRight;
    }

abbrev pub stacked : FlatText
stacked = boxed_letter 0 ∷ boxed_letter 20 ∷ []

pub record Stacked : Type 0 where
  pub in_second : position_at_point stacked (point 5 25) ≡ at 1 0
  pub past_first : position_at_point stacked (point 10 5) ≡ at 0 1
  pub between_both : position_at_point stacked (point 5 15) ≡ at 1 1
  pub no_boxes : bounding_boxes stacked (range (at 0 0) (at 1 1)) ≡ []

-- A letter whose rectangle was sent from right to left.
abbrev pub turned : FlatText
turned =
    record (run_of (letters (97 ∷ []))) {
      bounds = Some (record { x0 = pos 30; y0 = pos 0; x1 = pos 0; y1 = pos 10 });
      metrics = Some (record { positions = pos 0 ∷ []; widths = pos 30 ∷ []; are_alike = false });
      direction = Some LeftToRight;
    } ∷ []

-- its box is ordered, and no point is in it
pub record Turned : Type 0 where
  pub box : bounding_boxes turned (range (at 0 0) (at 0 1)) ≡ box 0 0 30 10 ∷ []
  pub not_in_it : position_at_point turned (point 10 5) ≡ at 0 1
  pub ahead : position_at_point turned (record { x = negsuc 0; y = pos 5 }) ≡ at 0 0

-- Three letters in a run from top to bottom, or from bottom to top.
abbrev pub upright : TextDirection → FlatText
upright direction =
    record (run_of (letters (97 ∷ 98 ∷ 99 ∷ []))) {
      bounds = Some (record { x0 = pos 0; y0 = pos 0; x1 = pos 10; y1 = pos 30 });
      metrics = Some (record { positions = pos 0 ∷ pos 10 ∷ pos 20 ∷ []; widths = pos 10 ∷ pos 10 ∷ pos 10 ∷ []; are_alike = false });
      direction = Some direction;
    } ∷ []

pub record Upright : Type 0 where
  pub downwards : bounding_boxes (upright TopToBottom) (range (at 0 0) (at 0 1)) ≡ box 0 0 10 10 ∷ []
  pub upwards : bounding_boxes (upright BottomToTop) (range (at 0 0) (at 0 1)) ≡ box 0 20 10 30 ∷ []
  pub first : position_at_point (upright TopToBottom) (point 5 5) ≡ at 0 0
  pub second : position_at_point (upright TopToBottom) (point 5 15) ≡ at 0 1
  pub last : position_at_point (upright BottomToTop) (point 5 5) ≡ at 0 2
  pub below_it : position_at_point (upright TopToBottom) (point 5 30) ≡ at 0 3
  pub above_it : position_at_point (upright BottomToTop) (record { x = pos 5; y = negsuc 0 }) ≡ at 0 0
