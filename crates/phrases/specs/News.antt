-- Avoiding repeated speech.
use Rattle.std.specs.Prelude.{ℕ, ◌==◌, List, Option, Some, None, Bool, false, length, ◌||◌, if◌then◌else◌}
use Rattle.std.specs.Str.{bytes_eq}

-- the text is the old one
abbrev pub is_old : Option (List ℕ) → List ℕ → Bool
is_old None new = false
is_old (Some old) new = bytes_eq old new

-- what is said of a text: the new one, if it differs and isn't empty
abbrev pub news : Option (List ℕ) → Option (List ℕ) → Option (List ℕ)
news old None = None
news old (Some new) = if (length new == 0) || is_old old new then None else Some new
