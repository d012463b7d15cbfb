-- Saying what there is to say.
use Rattle.std.specs.Prelude.{ℕ, List, Option, Some, None}
use Rattle.phrases.specs.Voices.{Speech, said_later}

-- a line is said, after assertive announcements, if there is something to say
abbrev pub said_if : (List ℕ → List ℕ) → Option (List ℕ) → Speech → Speech
said_if line None v = v
said_if line (Some text) v = said_later v (line text)
