-- Columns of a line.
use Rattle.std.specs.Prelude.{ℕ, ◌+◌, List, Bool, ◌||◌, nat_lt, nat_le, count_by}

-- a byte of UTF-8 that is the first of a character
abbrev pub begins_character : ℕ → Bool
begins_character byte = nat_lt byte 128 || nat_le 192 byte

-- the column of what comes after this text: one more than the text's characters
abbrev pub column_after : List ℕ → ℕ
column_after before = count_by begins_character before + 1
