-- What is proved of texts, values and labels.
use Rattle.std.specs.Prelude.{slice_get, Contains, ◌⊎◌, ◌≡◌, ℕ, ◌+◌, ◌<◌, ◌≤◌, Bool, List, length, slice_index, slice_range, All, IsTrue, ◌↔◌, Some, None, is_some, if◌then◌else◌}
use Rattle.std.specs.List.{concat}
use Rattle.std.specs.List.Sorted.{IsStrictlyIncreasing}
use Rattle.std.specs.declared.cmp.Ordering.TheVariants.{Equal}
use Rattle.model.specs.declared.FullNodeId.{FullNodeId}
use Rattle.model.specs.World.{World}
use Rattle.model.specs.TextRuns.{IsText, supports_text_ranges}
use Rattle.model.specs.FlatText.{FlatText, flat_text, characters, count_in, Position, IsPosition, offset, position_cmp, first_run, last_run, biased_to_start, biased_to_end, start_side, end_side, begins_line, ends_line, words_in, word_marks, is_word_start, document_start, document_end, lines}
use Rattle.model.specs.Moves.{global_index, position_of, scalar_len, utf16_len, forward_to_word_start, backward_to_word_start}
use Rattle.model.specs.Ranges.{Range, text_of}
use Rattle.model.specs.Values.{value_of, has_value}
use Rattle.model.specs.Labels.{label_of, has_label}
use Rattle.model.specs.Shape.{EqualShape}

-- a flat text as well-formed runs make it: not without a run, an empty one only last, links both ways, and words that rise within their run
pub record IsWhole (t : FlatText) : Type 0 where
  pub some : 0 < length t
  pub empty_last : (r : ℕ) → r + 1 < length t → 0 < count_in t r
  pub first_begins : IsTrue (begins_line t 0)
  pub last_ends : (r : ℕ) → r + 1 ≡ length t → IsTrue (ends_line t r)
  pub links : (r : ℕ) → r + 1 < length t → begins_line t (r + 1) ≡ ends_line t r
  pub words_within : (r k : ℕ) → k < length (words_in t r) → slice_index (words_in t r) k < count_in t r
  pub words_rise : (r : ℕ) → IsStrictlyIncreasing (words_in t r)

-- a well-formed text is one
abbrev pub TextsAreWhole : Type 0
TextsAreWhole = (w : World) (root : FullNodeId) → IsText w root → IsWhole (flat_text w root)

-- `supports_text_ranges` is the conjunction of the eight conditions
abbrev pub AnswersWhetherText : Type 0
AnswersWhetherText = (w : World) (root : FullNodeId) → IsTrue (supports_text_ranges w root) ↔ IsText w root

-- the position of an index of a position is its start side
abbrev pub IndexesComeBack : Type 0
IndexesComeBack =
    (t : FlatText) (len : List ℕ → ℕ) → IsWhole t → All (λ c. 0 < len c) (characters t) → (p : Position) → IsPosition t p
    → position_of len t (global_index len t p) ≡ Some (biased_to_start t p)

-- a bias keeps the offset
abbrev pub BiasKeepsOffset : Type 0
BiasKeepsOffset =
    (t : FlatText) (p : Position) → IsPosition t p
    → (offset t (biased_to_start t p) ≡ offset t p) × (offset t (biased_to_end t p) ≡ offset t p)

-- two positions compare as equal exactly if their offsets are equal
abbrev pub EqualAtOneOffset : Type 0
EqualAtOneOffset = (t u : FlatText) (p q : Position) → (position_cmp t p u q ≡ Equal) ↔ (offset t p ≡ offset u q)

-- the sides of a position's offset are the position's biases
abbrev pub SidesAreBiases : Type 0
SidesAreBiases =
    (t : FlatText) (p : Position) → IsWhole t → IsPosition t p
    → (start_side t (offset t p) ≡ biased_to_start t p) × (end_side t (offset t p) ≡ biased_to_end t p)

-- a search goes run by run: it ends at the first run that passes, and else goes on with the runs left
pub record SearchesGoRunByRun : Type 0 where
  pub on : (t : FlatText) (r : ℕ) (test : ℕ → Bool) → r < length t
      → first_run t r test ≡ (if test r then Some r else first_run t (r + 1) test)
  pub at_end : (t : FlatText) (r : ℕ) (test : ℕ → Bool) → length t ≤ r → first_run t r test ≡ None
  pub back : (t : FlatText) (r : ℕ) (test : ℕ → Bool) → r < length t
      → last_run t (r + 1) test ≡ (if test r then Some r else last_run t r test)
  pub at_start : (t : FlatText) (test : ℕ → Bool) → last_run t 0 test ≡ None

-- the text of a range is its characters
abbrev pub TextIsCharacters : Type 0
TextIsCharacters =
    (t : FlatText) → IsWhole t → (r : Range) → IsPosition t r.start → IsPosition t r.end → offset t r.start ≤ offset t r.end →
    text_of t r ≡ concat (slice_range (characters t) (offset t r.start) (offset t r.end))

-- the tests for a value and a label hold exactly if there is one
abbrev pub HasValueIfThere : Type 0
HasValueIfThere = (w : World) (id : FullNodeId) → has_value w id ≡ is_some (value_of w id)

abbrev pub HasLabelIfThere : Type 0
HasLabelIfThere = (w : World) (id : FullNodeId) → has_label w id ≡ is_some (label_of w id)

-- a masked password is the same text, and has the same value, in all worlds of its shape
abbrev pub ShapeKeepsSecret : Type 0
ShapeKeepsSecret = (p : FullNodeId) (w v : World) → EqualShape p w v → (flat_text w p ≡ flat_text v p) × (value_of w p ≡ value_of v p)

-- each character of a well-formed text has a scalar, and so a UTF-16 code unit
abbrev pub CharactersHaveLength : Type 0
CharactersHaveLength =
    (w : World) (root : FullNodeId) → IsText w root → All (λ c. (0 < scalar_len c) × (0 < utf16_len c)) (characters (flat_text w root))

-- the marks are the positions where words begin
abbrev pub MarksAreWordStarts : Type 0
MarksAreWordStarts = (t : FlatText) → IsWhole t → (p : Position) → Contains (word_marks t) p ↔ (IsPosition t p × IsTrue (is_word_start t p))

-- the nearest mark above: none is between
pub record IsNearestAbove (t : FlatText) (Mark : Position → Type 0) (p q : Position) : Type 0 where
  pub mark : Mark q
  pub above : offset t p < offset t q
  pub nearest : (m : Position) → Mark m → offset t p < offset t m → offset t q ≤ offset t m

-- a movement to the next word ends at the nearest word start above, or else at the end, past which there is none
abbrev pub WordStartIsNearest : Type 0
WordStartIsNearest =
    (t : FlatText) → IsWhole t → (p : Position) → IsPosition t p
    → IsNearestAbove t (λ q. IsPosition t q × IsTrue (is_word_start t q)) p (forward_to_word_start t p)
    ⊎ ((forward_to_word_start t p ≡ document_end t)
    × ((m : Position) → IsPosition t m → IsTrue (is_word_start t m) → offset t m ≤ offset t p))

-- the nearest mark below
pub record IsNearestBelow (t : FlatText) (Mark : Position → Type 0) (p q : Position) : Type 0 where
  pub mark : Mark q
  pub below : offset t q < offset t p
  pub nearest : (m : Position) → Mark m → offset t m < offset t p → offset t m ≤ offset t q

-- likewise back to a word
abbrev pub WordStartBeforeIsNearest : Type 0
WordStartBeforeIsNearest =
    (t : FlatText) → IsWhole t → (p : Position) → IsPosition t p
    → IsNearestBelow t (λ q. IsPosition t q × IsTrue (is_word_start t q)) p (backward_to_word_start t p)
    ⊎ ((backward_to_word_start t p ≡ document_start)
    × ((m : Position) → IsPosition t m → IsTrue (is_word_start t m) → offset t p ≤ offset t m))

-- a run from the one up to the other goes on to the next
abbrev pub AreJoined : FlatText → ℕ → ℕ → Type 0
AreJoined t a b = (r : ℕ) → a ≤ r → r < b → ¬ (IsTrue (ends_line t r))

-- the lines are the maximal groups of joined runs, in order, and each run is in one
pub record LinesAreGroups (t : FlatText) : Type 0 where
  pub joined : (k a b : ℕ) → slice_get (lines t) k ≡ Some (a, b) → (a ≤ b) × AreJoined t a b
  pub greatest : (k a b : ℕ) → slice_get (lines t) k ≡ Some (a, b) → IsTrue (begins_line t a) × IsTrue (ends_line t b)
  pub all : (r : ℕ) → r < length t → (k a b : ℕ) × (slice_get (lines t) k ≡ Some (a, b)) × (a ≤ r) × (r ≤ b)

abbrev pub TextsHaveLines : Type 0
TextsHaveLines = (t : FlatText) → IsWhole t → LinesAreGroups t
