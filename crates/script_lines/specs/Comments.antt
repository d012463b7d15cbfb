-- The comment before a command: the text of the comment lines right before it.
use Rattle.std.specs.Prelude.{ℕ, ◌-◌, ◌==◌, ◌||◌, List, [], ◌∷◌, ◌++◌, length, take, drop, codes, Bool, true, false, Option, Some, None, if◌then◌else◌}
use Rattle.std.specs.Char.{is_ascii_whitespace}
use Rattle.std.specs.List.{prefix_len, suffix_len}
use Rattle.schema.specs.UpdateData.{UpdateData}

-- ---- the text of a comment line

abbrev pub is_sign : ℕ → Bool
is_sign byte = byte == 35

-- what comes after the signs that begin the line
abbrev pub after_signs : List ℕ → List ℕ
after_signs line = drop (prefix_len is_sign line) line

-- without the white space at the start, and at the end
abbrev pub without_space_before : List ℕ → List ℕ
without_space_before text = drop (prefix_len is_ascii_whitespace text) text

abbrev pub without_space_after : List ℕ → List ℕ
without_space_after text = take (length text - suffix_len is_ascii_whitespace text) text

abbrev pub comment_text : List ℕ → List ℕ
comment_text line = without_space_after (without_space_before (after_signs line))

-- ---- the comment so far

-- a space between two texts, if there is something in both
abbrev pub space_between : List ℕ → List ℕ → List ℕ
space_between [] after = []
space_between (byte ∷ before) [] = []
space_between (byte ∷ before) (first ∷ after) = codes " "

abbrev pub joined : List ℕ → List ℕ → List ℕ
joined before after = before ++ space_between before after ++ after

-- after a line outside of updates: an empty one ends it, a comment line adds its text, and any other leaves it
abbrev pub comment_with : List ℕ → List ℕ → List ℕ
comment_with comment [] = []
comment_with comment (first ∷ rest) = if is_sign first then joined comment (comment_text (first ∷ rest)) else comment

-- after any line: those inside of an update leave it
abbrev pub comment_after : Option UpdateData → List ℕ → List ℕ → List ℕ
comment_after None comment line = comment_with comment line
comment_after (Some u) comment line = comment
