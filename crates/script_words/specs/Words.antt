-- The rest of a line.
use Rattle.std.specs.Prelude.{ℕ, ◌+◌, List, length, Option, Some, None}

-- the length of the rest: nothing at the line's end, and otherwise the text after a space, with that space
abbrev pub left : Option (List ℕ) → ℕ
left None = 0
left (Some rest) = length rest + 1
