-- What is written of texts, attributes and elements.
use Rattle.std.specs.Prelude.{ℕ, ◌==◌, List, [], ◌∷◌, ◌++◌, codes, flat_map, if◌then◌else◌}

-- the bytes of U+FFFD, which stands for a character that can't be shown
abbrev pub replacement : List ℕ
replacement = 239 ∷ 191 ∷ 189 ∷ []

-- what is written of a byte of a text: the entity of <, >, &, " and ' and of a carriage return, U+FFFD for U+0000, and any other byte
-- as it is
abbrev pub escaped_byte : ℕ → List ℕ
escaped_byte byte =
    if byte == 60 then codes "&lt;" else if byte == 62 then codes "&gt;" else if byte == 38 then codes "&amp;"
    else if byte == 34 then codes "&quot;" else if byte == 39 then codes "&#39;" else if byte == 13 then codes "&#13;"
    else if byte == 0 then replacement else byte ∷ []

-- what is written of a text
abbrev pub escaped : List ℕ → List ℕ
escaped text = flat_map escaped_byte text

-- an attribute, after a space
abbrev pub attribute_text : List ℕ → List ℕ → List ℕ
attribute_text name text = codes " " ++ name ++ codes "=\"" ++ escaped text ++ codes "\""

-- the end of an element's first tag, a text, and the last tag
abbrev pub content_text : List ℕ → List ℕ → List ℕ
content_text name text = codes ">" ++ escaped text ++ codes "</" ++ name ++ codes ">"

-- an element with a class and a text
abbrev pub element_text : List ℕ → List ℕ → List ℕ → List ℕ
element_text name class text = codes "<" ++ name ++ attribute_text (codes "class") class ++ content_text name text
