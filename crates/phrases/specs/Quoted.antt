-- Texts in quotes.
use Rattle.std.specs.Prelude.{ℕ, ◌==◌, List, [], ◌++◌, Option, Some, None, codes, chars, flat_map, encode_utf8, if◌then◌else◌}

-- a character of a text in quotes: a quote, a backslash and a newline are escaped by a backslash
abbrev pub quoted_char : ℕ → List ℕ
quoted_char c =
    if c == 34 then codes "\\\"" else if c == 92 then codes "\\\\" else if c == 10 then codes "\\n" else encode_utf8 c

-- a text in quotes
abbrev pub quoted : List ℕ → List ℕ
quoted text = codes "\"" ++ flat_map quoted_char (chars text) ++ codes "\""

-- a name after a space
abbrev pub named : Option (List ℕ) → List ℕ
named None = []
named (Some name) = codes " " ++ quoted name

-- a text with a word for what it is, after a comma
abbrev pub part : List ℕ → Option (List ℕ) → List ℕ
part what None = []
part what (Some text) = codes ", " ++ what ++ codes " " ++ quoted text
