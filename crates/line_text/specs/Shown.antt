-- A text as a terminal may show it.
use Rattle.std.specs.Prelude.{ℕ, ◌+◌, ◌/◌, ◌%◌, ◌==◌, nat_lt, List, [], ◌∷◌, ◌++◌, codes, Bool, ◌||◌, if◌then◌else◌}
use Rattle.line_text.specs.declared.shown.Held.{Held}
use Rattle.line_text.specs.declared.shown.Held.TheVariants.{Nothing, FirstOfTwo, FirstOfMark, SecondOfMark}

-- a control character of one byte: U+0000 to U+001F, and U+007F
abbrev pub is_control : ℕ → Bool
is_control byte = nat_lt byte 32 || byte == 127

-- a digit of base 16
abbrev pub hex_digit : ℕ → List ℕ
hex_digit n = if nat_lt n 10 then (n + 48) ∷ [] else (n + 55) ∷ []

-- the name of a control character, or else its number
abbrev pub control_name : ℕ → List ℕ
control_name c =
    if c == 9 then codes "tab" else if c == 10 then codes "newline" else if c == 13 then codes "carriage return"
    else codes "U+00" ++ hex_digit (c / 16) ++ hex_digit (c % 16)

abbrev pub control_text : ℕ → List ℕ
control_text c = codes "<" ++ control_name c ++ codes ">"

-- what is shown of a byte alone; nothing of one that may begin a control character of two bytes, or a byte order mark
abbrev pub shown_first : ℕ → List ℕ
shown_first byte = if byte == 194 || byte == 239 then [] else if is_control byte then control_text byte else byte ∷ []

-- what is shown once there is one byte more than those that are held back: a control character of two bytes is U+0080 to U+009F, and a
-- byte order mark has the bytes 239, 187 and 191
abbrev pub shown_byte : Held → ℕ → List ℕ
shown_byte Nothing byte = shown_first byte
shown_byte FirstOfTwo byte = if nat_lt byte 160 then control_text byte else 194 ∷ byte ∷ []
shown_byte FirstOfMark byte = if byte == 187 then [] else 239 ∷ byte ∷ []
shown_byte SecondOfMark byte = if byte == 191 then codes "<byte order mark>" else 239 ∷ 187 ∷ byte ∷ []

-- which bytes are held back then
abbrev pub held_first : ℕ → Held
held_first byte = if byte == 194 then FirstOfTwo else if byte == 239 then FirstOfMark else Nothing

abbrev pub held_after : Held → ℕ → Held
held_after Nothing byte = held_first byte
held_after FirstOfMark byte = if byte == 187 then SecondOfMark else Nothing
held_after FirstOfTwo byte = Nothing
held_after SecondOfMark byte = Nothing

-- what is shown of a text after these bytes
abbrev pub shown_after : Held → List ℕ → List ℕ
shown_after held [] = []
shown_after held (byte ∷ others) = shown_byte held byte ++ shown_after (held_after held byte) others

-- the text with the name of each control character and byte order mark in its place
abbrev pub shown : List ℕ → List ℕ
shown text = shown_after Nothing text
