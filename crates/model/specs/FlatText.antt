-- The text of a root as one list of runs, each with its characters as they are shown, and the marks in it.
-- Everything else about a text is defined on this list. In a masked text each character is already a bullet here.
use Rattle.std.specs.Prelude.{◌≡◌, position, ℕ, ℤ, ◌+◌, ◌-◌, ◌==◌, nat_lt, nat_le, Bool, true, false, not, ◌&&◌, ◌||◌, ◌<◌, ◌≤◌, List, [], ◌∷◌, ◌++◌, length, map, drop, take, reverse, slice_get, sum_by, filter, find, zip, Option, Some, is_some, option_map, option_and_then, if◌then◌else◌, bytes_eq}
use Rattle.std.specs.Option.{option_map_or}
use Rattle.std.specs.Ordering.{nat_cmp}
use Rattle.std.specs.declared.cmp.Ordering.{Ordering}
use Rattle.std.specs.List.{list_all, list_any, flat_map, range_with_len}
use Rattle.schema.specs.NodeData.{NodeData}
use Rattle.schema.specs.declared.geometry.Rect.{Rect}
use Rattle.schema.specs.declared.geometry.WideTranslation.{WideTranslation}
use Rattle.schema.specs.declared.values.TextDirection.{TextDirection}
use Rattle.model.specs.declared.FullNodeId.{FullNodeId}
use Rattle.model.specs.World.{World}
use Rattle.model.specs.Upward.{inherited_field}
use Rattle.model.specs.Geometry.{transform, transform_within}
use Rattle.model.specs.Styles.{Style, style_of, same_style}
use Rattle.model.specs.Forest.{is_same}
use Rattle.model.specs.TextRuns.{SentRun, sent_runs, sent_characters, ends_with_newline, is_password}

-- U+2022
abbrev pub BULLET : List ℕ
BULLET = 226 ∷ 128 ∷ 162 ∷ []

-- no two of them differ
abbrev pub are_alike : {X : Type 0} → (X → X → Bool) → List X → Bool
are_alike same [] = true
are_alike same (x ∷ xs) = list_all (same x) xs

-- a password of which two characters differ
unfoldable pub needs_masking : World → FullNodeId → Bool
needs_masking w root = is_password w root && not (are_alike bytes_eq (flat_map sent_characters (sent_runs w root)))

-- a character as it is shown
abbrev pub shown_character : Bool → List ℕ → List ℕ
shown_character masked c = if masked then BULLET else c

-- The positions of a run's characters along it, and their widths. Those of a password are given as if all characters were the same.
pub record Metrics : Type 0 where
  pub positions : List ℤ
  pub widths : List ℤ
  pub are_alike : Bool

-- a run as it is shown
pub record ShownRun : Type 0 where
  pub id : FullNodeId
  -- as bytes each
  pub characters : List (List ℕ)
  -- the run before it, and the one after it, are on its line
  pub goes_back : Bool
  pub goes_on : Bool
  -- its value was sent with a newline at its end
  pub has_newline : Bool
  -- none in a password
  pub word_starts : List ℕ
  pub style : Style
  -- its rectangle before any translation, and its translation: by all ancestors, and by those below the root
  pub bounds : Option Rect
  pub move : WideTranslation
  pub move_in_root : WideTranslation
  pub metrics : Option Metrics
  pub direction : Option TextDirection

-- both lists, if both were sent
abbrev pub metrics_of : Bool → NodeData → Option Metrics
metrics_of password d =
    option_and_then
    (λ ps. option_map (λ ws. record { positions = ps; widths = ws; are_alike = password }) d.character_widths) d.character_positions

abbrev pub shown_run : World → FullNodeId → Bool → Bool → SentRun → ShownRun
shown_run w root password masked r = record {
  id = r.id;
  characters = map (shown_character masked) (sent_characters r);
  goes_back = is_some r.node.previous_on_line;
  goes_on = is_some r.node.next_on_line;
  has_newline = ends_with_newline r;
  word_starts = if password then [] else r.node.word_starts;
  style = style_of w r.id;
  bounds = r.node.bounds;
  move = transform w r.id;
  move_in_root = transform_within w root r.id;
  metrics = metrics_of password r.node;
  direction = inherited_field (λ d. d.text_direction) w r.id;
}

-- the text of a root
abbrev pub FlatText : Type 0
FlatText = List ShownRun

unfoldable pub flat_text : World → FullNodeId → FlatText
flat_text w root = map (shown_run w root (is_password w root) (needs_masking w root)) (sent_runs w root)

-- ---- offsets

-- all characters, in order
abbrev pub characters : FlatText → List (List ℕ)
characters t = flat_map (λ r. r.characters) t

abbrev pub count : ShownRun → ℕ
count r = length r.characters

-- how many characters there are in all, and in one run
abbrev pub total : FlatText → ℕ
total t = sum_by count t

abbrev pub count_in : FlatText → ℕ → ℕ
count_in t r = option_map_or count (slice_get t r) 0

-- the number of characters before a run
abbrev pub start_of : FlatText → ℕ → ℕ
start_of t r = sum_by count (take r t)

-- a place between characters: the number of a run, and how many of its characters are before it
pub record Position : Type 0 where
  pub run : ℕ
  pub index : ℕ

pub record IsPosition (t : FlatText) (p : Position) : Type 0 where
  pub run : p.run < length t
  pub index : p.index ≤ count_in t p.run

-- how many characters are before a position
abbrev pub offset : FlatText → Position → ℕ
offset t p = start_of t p.run + p.index

-- the order of two positions, each in a text of its own
abbrev pub position_cmp : FlatText → Position → FlatText → Position → Ordering
position_cmp t p u q = nat_cmp (offset t p) (offset u q)

-- before the first character of a run, and after its last one
abbrev pub start_at : ℕ → Position
start_at r = record { run = r; index = 0 }

abbrev pub end_at : FlatText → ℕ → Position
end_at t r = record { run = r; index = count_in t r }

abbrev pub document_start : Position
document_start = start_at 0

abbrev pub document_end : FlatText → Position
document_end t = end_at t (length t - 1)

abbrev pub same_position : Position → Position → Bool
same_position p q = p.run == q.run && p.index == q.index

-- the position is this index in this run
abbrev pub IsSaidAs : FlatText → Position → FullNodeId → ℕ → Type 0
IsSaidAs t p run index = (option_map (λ r. r.id) (slice_get t p.run) ≡ Some run) × (index ≡ p.index)

-- the number of a run
abbrev pub number_of : FlatText → FullNodeId → Option ℕ
number_of t run = position (λ r. is_same r.id run) t

-- ---- the first and the last run with some property

abbrev pub run_numbers : FlatText → List ℕ
run_numbers t = range_with_len 0 (length t)

-- the first run from this one on
abbrev pub first_run : FlatText → ℕ → (ℕ → Bool) → Option ℕ
first_run t from test = find test (drop from (run_numbers t))

-- the last one of the first so many runs
abbrev pub last_run : FlatText → ℕ → (ℕ → Bool) → Option ℕ
last_run t many test = find test (reverse (take many (run_numbers t)))

abbrev pub run_has : (ShownRun → Bool) → FlatText → ℕ → Bool
run_has test t r = option_map_or test (slice_get t r) false

-- ---- the two sides of an offset

-- at the end of a run: the start of the next one, if there is one
abbrev pub biased_to_start : FlatText → Position → Position
biased_to_start t p = if p.index == count_in t p.run && nat_lt (p.run + 1) (length t) then start_at (p.run + 1) else p

-- at the start of a run: the end of the one before it, if there is one
abbrev pub biased_to_end : FlatText → Position → Position
biased_to_end t p = if p.index == 0 && nat_lt 0 p.run then end_at t (p.run - 1) else p

-- the offset in the last run that begins at it or before it
abbrev pub start_side : FlatText → ℕ → Position
start_side t o =
    option_map_or (λ r. record { run = r; index = o - start_of t r }) (last_run t (length t) (λ r. nat_le (start_of t r) o))
    (document_end t)

-- the offset in the first run that ends at it or after it
abbrev pub end_side : FlatText → ℕ → Position
end_side t o =
    option_map_or (λ r. record { run = r; index = o - start_of t r }) (first_run t 0 (λ r. nat_le o (start_of t r + count_in t r)))
    (document_end t)

-- ---- lines, paragraphs, formats and words

abbrev pub begins_line : FlatText → ℕ → Bool
begins_line t r = run_has (λ s. not s.goes_back) t r

abbrev pub ends_line : FlatText → ℕ → Bool
ends_line t r = run_has (λ s. not s.goes_on) t r

-- the lines, each as its first and its last run: the first that begins a line with the first that ends one, and so on
abbrev pub lines : FlatText → List (ℕ × ℕ)
lines t = zip (filter (begins_line t) (run_numbers t)) (filter (ends_line t) (run_numbers t))

-- the run ends a line that closes a paragraph
abbrev pub closes_paragraph : FlatText → ℕ → Bool
closes_paragraph t r = ends_line t r && run_has (λ s. s.has_newline) t r

-- the first run, and each after one that closes a paragraph
abbrev pub begins_paragraph : FlatText → ℕ → Bool
begins_paragraph t r = r == 0 || closes_paragraph t (r - 1)

-- the last run, and each that closes a paragraph
abbrev pub ends_paragraph : FlatText → ℕ → Bool
ends_paragraph t r = r + 1 == length t || closes_paragraph t r

-- the first run, and each in another style than the run before it
abbrev pub begins_format : FlatText → ℕ → Bool
begins_format t r = r == 0 || not (option_map_or (λ a. run_has (λ b. same_style a.style b.style) t r) (slice_get t (r - 1)) false)

abbrev pub words_in : FlatText → ℕ → List ℕ
words_in t r = option_map_or (λ s. s.word_starts) (slice_get t r) []

-- where a paragraph begins in a run, and where its words do
abbrev pub word_marks_in : FlatText → ℕ → List Position
word_marks_in t r = (if begins_paragraph t r then start_at r ∷ [] else []) ++ map (λ i. record { run = r; index = i }) (words_in t r)

-- where words begin, in order
abbrev pub word_marks : FlatText → List Position
word_marks t = flat_map (word_marks_in t) (run_numbers t)

-- ---- what a position is

abbrev pub is_line_start : FlatText → Position → Bool
is_line_start t p = p.index == 0 && begins_line t p.run

abbrev pub is_line_end : FlatText → Position → Bool
is_line_end t p = p.index == count_in t p.run && ends_line t p.run

abbrev pub is_document_start : FlatText → Position → Bool
is_document_start t p = same_position p document_start

abbrev pub is_document_end : FlatText → Position → Bool
is_document_end t p = same_position p (document_end t)

abbrev pub is_page_start : FlatText → Position → Bool
is_page_start t p = is_document_start t p

abbrev pub is_paragraph_start : FlatText → Position → Bool
is_paragraph_start t p = p.index == 0 && begins_paragraph t p.run

abbrev pub is_paragraph_end : FlatText → Position → Bool
is_paragraph_end t p = p.index == count_in t p.run && ends_paragraph t p.run

-- the next character ends a paragraph that isn't the last
abbrev pub is_paragraph_separator : FlatText → Position → Bool
is_paragraph_separator t p =
    nat_lt (offset t p) (total t)
    && (is_paragraph_end t (end_side t (offset t p + 1)) && not (is_document_end t (end_side t (offset t p + 1))))

abbrev pub is_format_start : FlatText → Position → Bool
is_format_start t p = p.index == 0 && begins_format t p.run

abbrev pub is_word_start : FlatText → Position → Bool
is_word_start t p = is_paragraph_start t p || list_any (λ i. i == p.index) (words_in t p.run)
