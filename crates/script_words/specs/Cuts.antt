-- Parts of a text: up to the first such byte, and behind it.
use Rattle.std.specs.Prelude.{ℕ, ◌==◌, List, [], ◌∷◌, Option, Some, None, option_map, if◌then◌else◌}

-- what comes before the first such byte; all, if there is none
unfoldable pub part_before : ℕ → List ℕ → List ℕ
part_before mark [] = []
part_before mark (byte ∷ text) = if byte == mark then [] else byte ∷ part_before mark text

-- what comes behind it, if there is one
unfoldable pub rest_behind : ℕ → List ℕ → Option (List ℕ)
rest_behind mark [] = None
rest_behind mark (byte ∷ text) = if byte == mark then Some text else rest_behind mark text

-- the two parts around it
abbrev pub halves : ℕ → List ℕ → Option (List ℕ × List ℕ)
halves mark text = option_map (λ rest. (part_before mark text, rest)) (rest_behind mark text)
