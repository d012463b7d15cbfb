-- Whether a text is the one that is sought.
use Rattle.std.specs.Prelude.{ℕ, nat_eq, Bool, false, not, ◌||◌, codes, List, [], ◌∷◌, ◌++◌, if◌then◌else◌}
use Rattle.std.specs.List.{starts_with}
use Rattle.std.specs.Char.{is_ascii_whitespace}
use Rattle.std.specs.Str.{bytes_eq}
use Rattle.std.specs.StrCase.Lower.{str_to_lowercase}
use Rattle.matching.specs.declared.matches.Matching.{Matching}

-- whether a part stands in a text
abbrev pub stands_in : List ℕ → List ℕ → Bool
stands_in part [] = starts_with nat_eq [] part
stands_in part (c ∷ text) = starts_with nat_eq (c ∷ text) part || stands_in part text

-- whether a text begins with something else than a space
abbrev pub begins_word : List ℕ → Bool
begins_word [] = false
begins_word (b ∷ text) = not (is_ascii_whitespace b)

-- what stays of a byte before this text: of a space one, if a word follows
abbrev pub piece : ℕ → List ℕ → List ℕ
piece b text = if is_ascii_whitespace b then (if begins_word text then codes " " else []) else b ∷ []

-- a text with what stays of each byte
abbrev pub squeezed : List ℕ → List ℕ
squeezed [] = []
squeezed (b ∷ text) = piece b text ++ squeezed text

-- a text without the spaces at its beginning
abbrev pub unled : List ℕ → List ℕ
unled [] = []
unled (b ∷ text) = if is_ascii_whitespace b then unled text else b ∷ text

-- the words of a text with one space between them
abbrev pub folded : List ℕ → List ℕ
folded text = squeezed (unled text)

-- what is compared of a text
abbrev pub cased : Matching → List ℕ → List ℕ
cased how text = if how.ignores_case then str_to_lowercase text else text

abbrev pub spaced : Matching → List ℕ → List ℕ
spaced how text = if how.is_exact then text else folded text

abbrev pub form : Matching → List ℕ → List ℕ
form how text = spaced how (cased how text)

-- whether a text is the sought one, or has it as a part
abbrev pub is_match : Matching → List ℕ → List ℕ → Bool
is_match how sought text = if how.is_part then stands_in (form how sought) (form how text) else bytes_eq (form how sought) (form how text)
