-- Answers to questions about small texts.
use Rattle.std.specs.Prelude.{◌≡◌, true, false, Some, None}
use Rattle.model.specs.declared.queries.Move.TheVariants as move
use Rattle.model.specs.declared.queries.NamedFilter.TheVariants.{All}
use Rattle.model.specs.declared.queries.Query.TheVariants as query
use Rattle.model.specs.Queries.{takes_memory, position_at, moved}
use Rattle.model.specs.QueryExamples.{in_root, start_at}
use Rattle.model.specs.TextExamples.{two_lines, wide_character}
use Rattle.model.specs.TextExamples as text

-- questions about a node 1
pub record TakeMemory : Type 0 where
  pub children : takes_memory (query.Children (in_root 1)) ≡ true
  pub filtered : takes_memory (query.FilteredChildren (in_root 1) All) ≡ true
  pub label : takes_memory (query.Label (in_root 1)) ≡ true
  pub text : takes_memory (query.Text (in_root 1)) ≡ true
  pub between : takes_memory (query.RangeText (in_root 1) (start_at 0) (start_at 1)) ≡ true
  pub focus : takes_memory query.Focus ≡ false
  pub set : takes_memory (query.Set (in_root 1) All) ≡ false
  pub moved : takes_memory (query.Move (in_root 1) (start_at 0) move.DocumentEnd) ≡ false

-- a character with two units of UTF-16 between two others
pub record OfWideText : Type 0 where
  pub after_it : position_at wide_character (start_at 2) ≡ Some (text.at 0 2)
  pub last : position_at wide_character (start_at 3) ≡ Some (text.at 0 3)
  pub past : position_at wide_character (start_at 4) ≡ None

-- from the first character of the first of two lines, each of which is one word
pub record OfTwoLines : Type 0 where
  pub word_start : moved two_lines (text.at 0 0) move.ForwardToWordStart ≡ Some (text.at 1 0)
  pub word_end : moved two_lines (text.at 0 0) move.ForwardToWordEnd ≡ Some (text.at 0 3)
  pub page_end : moved two_lines (text.at 0 0) move.ForwardToPageEnd ≡ Some (text.at 1 2)
  pub page_start : moved two_lines (text.at 1 1) move.BackwardToPageStart ≡ Some (text.at 0 0)
