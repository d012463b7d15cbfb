-- A text in quotes.
use Rattle.std.specs.Prelude.{ℕ, ◌==◌, List, [], ◌∷◌, ◌++◌, codes, flat_map, if◌then◌else◌}

-- a byte of it: a quote, a backslash and a newline are escaped by a backslash
abbrev pub quoted_byte : ℕ → List ℕ
quoted_byte byte =
    if byte == 34 then codes "\\\"" else if byte == 92 then codes "\\\\" else if byte == 10 then codes "\\n" else byte ∷ []

abbrev pub quoted : List ℕ → List ℕ
quoted text = codes "\"" ++ flat_map quoted_byte text ++ codes "\""
