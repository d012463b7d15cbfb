-- The words of a line, cut at each space.
use Rattle.std.specs.Prelude.{ℕ, ◌+◌, ◌==◌, nat_lt, List, drop, take, length, if◌then◌else◌}
use Rattle.std.specs.List.{position_or_len}

-- the length of the part before the first such byte
abbrev pub part_length : ℕ → List ℕ → ℕ
part_length mark text = position_or_len (λ byte. byte == mark) text

-- the word that begins here, up to the next space
abbrev pub word_at : List ℕ → ℕ → List ℕ
word_at line at = take (part_length 32 (drop at line)) (drop at line)

-- where the word after it begins, past the space; one past the end if there is no space
abbrev pub next_word : List ℕ → ℕ → ℕ
next_word line at = if nat_lt at (length line) then at + part_length 32 (drop at line) + 1 else at
